-- `schedule::sign_at` meets its contract. Assumes nothing.
use Rattle.std.proofs.Common.{sym, ap, ◌∙◌, arith}
use Rattle.schedule.specs.WordLayout.{sign_of}
use Rattle.schedule.proofs.WordLayout.{sign_in_place, sign_past}
use Rattle.schedule.proofs.sign_at.Goals as goal

pub returns-then-i-ge-MAX_LEAPS : goal.returns-then-i-ge-MAX_LEAPS
returns-then-i-ge-MAX_LEAPS c = sym (ap sign_of (sign_past c.args.words.now c.args.i c.if-i-ge-MAX_LEAPS.true))

pub returns : goal.returns
returns c = c.from.ensures ∙ ap sign_of (sym (sign_in_place c.args.words.now c.args.i (omega (arith, c.if-i-ge-MAX_LEAPS.false))))
