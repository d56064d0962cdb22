-- `schedule::hand_refusal` meets its contract. Assumes nothing.
use Rattle.schedule.proofs.SoFar.{so_far_refusal}
use Rattle.schedule.proofs.hand_refusal.Goals as goal

pub returns : goal.returns
returns c = so_far_refusal _ _
