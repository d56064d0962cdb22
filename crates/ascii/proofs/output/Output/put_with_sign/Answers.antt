-- `ascii::decimal`'s `put_with_sign` meets its contract: the integer is below zero, or it is not. Assumes nothing.
use native.Mathlib.Omega.{arith}
use mathlib.Core.Path.{◌∙◌}
use Rattle.ascii.proofs.Putting.{up_to, a_byte}
use Rattle.ascii.proofs.Signs.{is_below, is_above}
use Rattle.ascii.proofs.output.Output.put_with_sign.Goals as goal
use Rattle.ascii.proofs.output.Output.put_with_sign.Goals.{then-z-lt0, else-z-lt0}

pub returns : goal.returns
returns c =
    let size = c.from.ensures ∙ c.unsigned_abs.ensures.value in
    elim c.if-z-lt0.branch [
      | then-z-lt0 w ↦ up_to (a_byte (rw w.put-is at c.put.ensures)) c.put_decimal.ensures (is_below c.ranges.z size w.if-z-lt0.true).1 (omega arith)
      | else-z-lt0 w ↦ up_to (a_byte (rw w.put-is at c.put.ensures)) c.put_decimal.ensures (is_above c.ranges.z size w.if-z-lt0.false).1 (omega arith)
    ]
