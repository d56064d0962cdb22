-- `schedule::check::leaps_fit` meets its contract: the loop counts the faults in the gaps of the schedule that the words lay out, and
-- those of the sign words.
-- Assumes nothing.
use Rattle.std.proofs.Common.{◌+◌, ◌∙◌, eq-eqb, ne_eqb}
use Rattle.schedule.proofs.Faults.{gapped_at_none, gapped_at_one, gapped_at_all}
use Rattle.schedule.proofs.check.leaps_fit.Goals as goal

pub loop-i-init : goal.loop-i-init
loop-i-init c = gapped_at_none c.args.words.now

pub loop-i-preserved : goal.loop-i-preserved
loop-i-preserved c =
    let loop = c.loop-i in
    gapped_at_one c.args.words.now c.requires.0 loop.signs loop.faults loop.last loop.i loop.invariant c.unsigned-signs.result c.misfit-faults.result
    c.loop-i-test.true c.unsigned-signs.ensures c.misfit-faults.ensures

pub returns-then-signs-faults-ne0 : goal.returns-then-signs-faults-ne0
returns-then-signs-faults-ne0 c =
    let loop = c.loop-i in
    let e = gapped_at_all c.args.words.now c.requires.0 loop.signs loop.faults loop.last loop.i loop.invariant c.loop-i-test.false in
    simp (ne_eqb (loop.signs + loop.faults) 0 c.if-signs-faults-ne0.true) at e

pub returns : goal.returns
returns c =
    let loop = c.loop-i in
    let e = gapped_at_all c.args.words.now c.requires.0 loop.signs loop.faults loop.last loop.i loop.invariant c.loop-i-test.false in
    c.expiry_fits.ensures ∙ (simp (eq-eqb (loop.signs + loop.faults) 0 c.if-signs-faults-ne0.false) at e)
