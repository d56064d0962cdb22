-- `command::put_of_list` meets its contract. Assumes nothing.
use native.Mathlib.Omega.{arith}
use Rattle.ascii.proofs.Putting.{few}
use Rattle.command.specs.Answer.{of_list}
use Rattle.command.proofs.put_of_list.Goals as goal

pub returns-in-Show : goal.returns-in-Show
unfolding of_list
returns-in-Show c = few c.put_list_shown.ensures (rw c.in-Show.is) (omega arith)

pub returns-in-Nybbles : goal.returns-in-Nybbles
unfolding of_list
returns-in-Nybbles c = few c.put_list_nybbles.ensures (rw c.in-Nybbles.is) (omega arith)
