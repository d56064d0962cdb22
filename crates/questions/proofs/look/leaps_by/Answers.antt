-- `questions::look::leaps_by` meets its contract. Assumes nothing.
use Rattle.std.proofs.Common.{◌-◌, arith}
use Rattle.schedule.specs.WordLayout.{meant}
use Rattle.schedule.proofs.Gaps.{parts}
use Rattle.schedule.proofs.Meant.{count_is, month_word_lem}
use Rattle.questions.proofs.Looked.{beyond_found, beyond_one}
use Rattle.questions.proofs.look.leaps_by.Goals as goal

pub returns-then-list-before : goal.returns-then-list-before
returns-then-list-before c =
    let words = c.args.list.words.now in
    let w = c.args.list.formed in
    let inside = month_word_lem words w (c.loop-before.before - 1) (omega (arith, c.loop-before.invariant.room, count_is words w)) in
    beyond_found c.loop-before.invariant (meant words).expiry (parts (meant words) w).gaps _ (omega arith) (omega (arith, inside, c.if-list-before.true))

pub loop-before-preserved : goal.loop-before-preserved
loop-before-preserved c =
    let words = c.args.list.words.now in
    let w = c.args.list.formed in
    let inside = month_word_lem words w (c.loop-before.before - 1) (omega (arith, c.loop-before.invariant.room, count_is words w)) in
    beyond_one c.loop-before.invariant _ (omega arith) (omega (arith, inside, c.if-list-before.false))
