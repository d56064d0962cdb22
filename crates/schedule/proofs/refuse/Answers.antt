-- `schedule::refuse` meets its contract. Assumes nothing.
use Rattle.schedule.proofs.SoFar.{so_far_refused}
use Rattle.schedule.proofs.refuse.Goals as goal

pub returns : goal.returns
returns c = so_far_refused _ _
