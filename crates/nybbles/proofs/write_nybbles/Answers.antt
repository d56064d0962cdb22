-- `write_nybbles` meets its contract: one answer for a list that can't be written, one for a short output, one for a list that fits.
-- Assumes nothing.
use Rattle.std.proofs.Common.{rules}
use mathlib.Core.Path.{◌∙◌}
use Rattle.schedule.specs.WordLayout.{meant}
use Rattle.schedule.proofs.Answers as answers
use Rattle.nybbles.specs.Write.{nybbles_of}
use Rattle.nybbles.proofs.Packed as packed
use Rattle.nybbles.proofs.write_nybbles.Goals as goal

pub returns-in_err-list : goal.returns-in_err-list
returns-in_err-list c =
    let s = meant c.args.words.now in
    let e = answers.refused s (nybbles_of s) c.args.out.now c.args.words.now c.in_err-list.ensures in
    search rules

pub returns-then-out-count : goal.returns-then-out-count
returns-then-out-count c =
    let can = answers.writable_lem (meant c.args.words.now) c.in_ok-list.ensures in
    answers.short _ _ _ can.0 can.1 _ (packed.bytes_counted _ _ (rw (c.of-spelling.ensures, can.2) at c.nybble_count-count.ensures)) c.if-out-count.true

pub put_codes-requires : goal.put_codes-requires
put_codes-requires c =
    let s = meant c.in_ok-list.list.list.words.now in
    let held = c.codes.ensures.0 ∙ c.of-spelling.ensures in (
      c.codes.ensures.1,
      rw held (packed.bytes_low s),
      rw held (packed.bytes_fit s _ (rw c.of-spelling.ensures at c.nybble_count-count.ensures) _ c.if-out-count.false),
    )

pub returns : goal.returns
returns c =
    let can = answers.writable_lem (meant c.args.words.now) c.in_ok-list.ensures in
    answers.taken _ _ _ can.0 can.1 _ (packed.bytes_counted _ _ (rw (c.of-spelling.ensures, can.2) at c.nybble_count-count.ensures)) c.if-out-count.false _
    (packed.bytes_put _ _ _ (rw (c.codes.ensures.0, c.of-spelling.ensures, can.2) at c.put_codes.ensures))
