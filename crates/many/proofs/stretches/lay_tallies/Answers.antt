-- `many::stretches::lay_tallies` meets its contract. Assumes nothing.
use Prim.Native.Nat.{◌<◌}
use native.Mathlib.Omega.{arith}
use Rattle.schedule.specs.WordLayout.{count_word, meant}
use Rattle.schedule.proofs.Gaps.{parts}
use Rattle.schedule.proofs.Meant.{count_is, count_room, sign_word, sign_fits}
use Rattle.many.proofs.Preparing.{tallying_one}
use Rattle.many.proofs.stretches.lay_tallies.Goals as goal

pub overflow_add-down-in-loop-i : goal.overflow_add-down-in-loop-i
overflow_add-down-in-loop-i c =
    let words = c.args.list.words.now in
    let w = c.args.list.formed in
    let r = sign_fits words w c.loop-i.i (omega (arith, count_is words w, c.loop-i-test.true, c.count-i-end.ensures)) in
    omega (arith, c.loop-i.invariant.few, count_is words w, count_room words w, c.loop-i-test.true, c.count-i-end.ensures)

pub overflow_sub-prepared : goal.overflow_sub-prepared
overflow_sub-prepared c =
    let words = c.args.list.words.now in
    let w = c.args.list.formed in
    let r = sign_fits words w c.loop-i.i (omega (arith, count_is words w, c.loop-i-test.true, c.count-i-end.ensures)) in
    omega (arith, c.loop-i.invariant.few)

pub loop-i-preserved : goal.loop-i-preserved
loop-i-preserved c =
    let words = c.args.list.words.now in
    let w = c.args.list.formed in
    let k : c.loop-i.i < count_word words = omega (arith, count_is words w, c.loop-i-test.true, c.count-i-end.ensures) in
    tallying_one c.requires.0 (parts (meant words) w).room c.loop-i.invariant (omega (arith, k, count_is words w)) _ (sign_word words w c.loop-i.i k) (sign_fits words w c.loop-i.i k)
