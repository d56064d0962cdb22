-- `command::lists::put_list_shown` meets its contract: the list is refused, or it is shown. Assumes nothing.
use native.Mathlib.Omega.{arith}
use Rattle.ascii.specs.Refusal.{refusal_at}
use Rattle.ascii.proofs.Putting.{few}
use Rattle.text.proofs.Sound.{read_formed}
use Rattle.schedule.proofs.ByReading.{read_refused, read_taken}
use Rattle.command.proofs.lists.put_list_shown.Goals as goal

pub returns-in-Ok : goal.returns-in-Ok
returns-in-Ok c = few c.put_shown.ensures (read_taken (read_formed _) refusal_at _ c.in-Ok.ensures) (omega arith)

pub returns-in-Err : goal.returns-in-Err
returns-in-Err c = few c.put_refusal_at.ensures (read_refused (read_formed _) refusal_at _ c.in-Err.ensures) (omega arith)
