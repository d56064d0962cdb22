-- `schedule::month_at` meets its contract. Assumes nothing.
use Rattle.std.proofs.Common.{sym, arith}
use Rattle.schedule.proofs.WordLayout.{month_in_place, month_past}
use Rattle.schedule.proofs.month_at.Goals as goal

pub returns-then-i-ge-MAX_LEAPS : goal.returns-then-i-ge-MAX_LEAPS
returns-then-i-ge-MAX_LEAPS c =
    let args = c.args in
    let if1 = c.if-i-ge-MAX_LEAPS in
    sym (month_past args.words.now args.i if1.true)

pub returns : goal.returns
returns c =
    let args = c.args in
    let if1 = c.if-i-ge-MAX_LEAPS in
    sym (month_in_place args.words.now args.i (omega (arith, if1.false)))
