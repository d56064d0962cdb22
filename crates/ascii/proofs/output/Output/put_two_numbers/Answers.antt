-- `ascii::lines`' `put_two_numbers` meets its contract. Assumes nothing.
use native.Mathlib.Omega.{arith}
use mathlib.Core.Path.{refl}
use Rattle.ascii.proofs.Putting.{up_to, a_byte}
use Rattle.ascii.proofs.output.Output.put_two_numbers.Goals as goal

pub returns : goal.returns
returns c = up_to c.put_decimal.ensures (up_to {most = 21} (a_byte c.put.ensures) c.put_decimal-2.ensures refl (omega arith)) refl (omega arith)
