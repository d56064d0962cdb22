-- `ascii::refusal`'s `put_refusal_number_at` meets its contract. Assumes nothing.
use native.Mathlib.Omega.{arith}
use mathlib.Core.Path.{refl}
use Rattle.ascii.specs.Refusal.{refusal_at}
use Rattle.ascii.proofs.Putting.{up_to, a_byte}
use Rattle.ascii.proofs.output.Output.put_refusal_number_at.Goals as goal

pub returns : goal.returns
unfolding refusal_at
returns c = up_to c.put_refusal_number.ensures (up_to {most = 21} (a_byte c.put.ensures) c.put_decimal.ensures refl (omega arith)) refl (omega arith)
