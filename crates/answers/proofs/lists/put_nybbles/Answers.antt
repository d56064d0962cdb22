-- `answers::lists::put_nybbles` meets its contract: 2,400 bytes are room enough for the nybble list. Assumes nothing.
use native.Mathlib.Omega.{arith}
use mathlib.Core.Path.{sym, ap}
use mathlib.Core.List.{List}
use Prim.Native.Nat.{ℕ}
use lib.ListN.{replicate}
use Rattle.ascii.specs.Hex.{hex}
use Rattle.ascii.proofs.Putting.{text_put}
use Rattle.ascii.proofs.Halves.{hex_length}
use Rattle.schedule.specs.WordLayout.{meant}
use Rattle.nybbles.specs.Write.{nybbles_of}
use Rattle.nybbles.proofs.Room.{at_most}
use Rattle.answers.proofs.Held.{is_written, holds}
use Rattle.answers.proofs.lists.put_nybbles.Goals as goal

-- the room that is lent
abbrev lent : List ℕ
lent = replicate 2400 0

pub unwrap-n-requires : goal.unwrap-n-requires
unwrap-n-requires c =
    let s = meant c.args.words.now in
    is_written s (nybbles_of s) lent c.requires.0 c.requires.1 (at_most s c.requires.0 c.requires.1) _ c.write_nybbles.ensures.0

pub returns : goal.returns
returns c =
    let s = meant c.args.words.now in
    let room = at_most s c.requires.0 c.requires.1 in
    let e = holds s (nybbles_of s) lent c.requires.0 c.requires.1 room c.unwrap-n.ensures c.write_nybbles.ensures.0 c.write_nybbles.ensures.1 in
    text_put c.put_hex.ensures (ap hex (sym e)) (rw e (omega (arith, hex_length (nybbles_of s))))
