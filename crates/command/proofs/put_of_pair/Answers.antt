-- `command::put_of_pair` meets its contract. Assumes nothing.
use native.Mathlib.Omega.{arith}
use Rattle.ascii.proofs.Putting.{few}
use Rattle.command.specs.Answer.{of_pair}
use Rattle.command.proofs.put_of_pair.Goals as goal

pub returns-in-Compare : goal.returns-in-Compare
unfolding of_pair
returns-in-Compare c = few c.put_comparison.ensures (rw c.in-Compare.is) (omega arith)

pub returns-in-Longer : goal.returns-in-Longer
unfolding of_pair
returns-in-Longer c = few c.put_longer.ensures (rw c.in-Longer.is) (omega arith)
