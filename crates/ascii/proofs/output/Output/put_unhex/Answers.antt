-- `ascii::hex`'s `put_unhex` meets its contract. The loop's invariant: all the bytes but those of the digits left are put. Assumes nothing.
use native.Mathlib.Omega.{arith}
use mathlib.Core.Path.{◌∙◌}
use Rattle.ascii.proofs.Halves.{unhex_more, unhex_end}
use Rattle.ascii.proofs.Putting.{step, end, put_pair_of}
use Rattle.ascii.proofs.output.Output.put_unhex.Goals as goal

pub loop-two-preserved : goal.loop-two-preserved
loop-two-preserved c =
    let steps = c.in-Some.ensures.steps in
    let loop = c.loop-two.invariant in (
      steps.0 ∙ loop.0,
      step loop.1 (put_pair_of c.put.ensures c.nybble_of.ensures.0 c.nybble_of-in-loop-two.ensures.0) (unhex_more _ _ _ steps.1.0 (steps.1.1 ∙ loop.0)),
    )

pub returns : goal.returns
returns c = end c.loop-two.invariant.1 (unhex_end _ (omega (arith, c.in-None.ensures.steps.1.0, c.loop-two.invariant.0)))
