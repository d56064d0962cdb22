-- `ascii::refusal`'s `put_refusal_number` meets its contract. Assumes nothing.
use native.Mathlib.Omega.{arith}
use Rattle.ascii.specs.Refusal.{refusal}
use Rattle.ascii.proofs.Putting.{up_to, a_byte}
use Rattle.ascii.proofs.output.Output.put_refusal_number.Goals as goal

pub returns : goal.returns
unfolding refusal
returns c = up_to (a_byte c.put.ensures) c.put_decimal.ensures (rw c.from.ensures) (omega arith)
