-- `questions::look::lowered` meets its contract. Assumes nothing.
use Rattle.std.proofs.Common.{arith}
use Rattle.schedule.proofs.Meant.{count_is, count_room, sign_word, sign_fits}
use Rattle.questions.proofs.Looked.{lowered_one}
use Rattle.questions.proofs.look.lowered.Goals as goal

pub overflow_add-down-in-loop-i : goal.overflow_add-down-in-loop-i
overflow_add-down-in-loop-i c =
    let words = c.args.list.words.now in
    let w = c.args.list.formed in
    let n = count_is words w in
    omega (arith, c.loop-i.invariant.few, c.loop-i-test.true, c.requires, count_room words w, sign_fits words w c.loop-i.i (omega (arith, n, c.loop-i-test.true, c.requires)))

pub loop-i-preserved : goal.loop-i-preserved
loop-i-preserved c =
    let words = c.args.list.words.now in
    let w = c.args.list.formed in
    let n = count_is words w in
    lowered_one c.loop-i.invariant (omega (arith, c.loop-i-test.true, c.requires)) _ (sign_word words w c.loop-i.i (omega (arith, n, c.loop-i-test.true, c.requires)))
