-- `command::lists::put_text` meets its contract: 1,028 bytes are room enough for the text. Assumes nothing.
use mathlib.Core.Path.{sym}
use mathlib.Core.List.{List}
use Prim.Native.Nat.{ℕ}
use lib.ListN.{replicate}
use Rattle.schedule.specs.WordLayout.{meant}
use Rattle.ascii.proofs.Putting.{text_put}
use Rattle.text.specs.Write.{text_of}
use Rattle.text.proofs.Room.{at_most}
use Rattle.answers.proofs.Held.{is_written, holds}
use Rattle.command.proofs.lists.put_text.Goals as goal

-- the room that is lent
abbrev lent : List ℕ
lent = replicate 1028 0

pub unwrap-n-requires : goal.unwrap-n-requires
unwrap-n-requires c =
    let s = meant c.args.words.now in
    is_written s (text_of s) lent c.requires.0 c.requires.1 (at_most s c.requires.0) _ c.write_text.ensures.0

pub returns : goal.returns
returns c =
    let s = meant c.args.words.now in
    let room = at_most s c.requires.0 in
    let e = holds s (text_of s) lent c.requires.0 c.requires.1 room c.unwrap-n.ensures c.write_text.ensures.0 c.write_text.ensures.1 in
    text_put c.put_all.ensures (sym e) (rw e room)
