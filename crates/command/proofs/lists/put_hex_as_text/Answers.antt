-- `command::lists::put_hex_as_text` meets its contract: the list is refused, or it is put as text. Assumes nothing.
use native.Mathlib.Omega.{arith}
use Rattle.ascii.proofs.Putting.{few}
use Rattle.nybbles.proofs.Sound.{read_formed}
use Rattle.ascii.specs.Refusal.{refusal_at}
use Rattle.schedule.proofs.ByReading.{read_well, read_leaves_gap, read_refused, read_taken}
use Rattle.command.proofs.lists.put_hex_as_text.Goals as goal

pub put_text-requires : goal.put_text-requires
put_text-requires c = (read_well (read_formed _) c.in-Ok.ensures, read_leaves_gap (read_formed _) c.in-Ok.ensures)

pub returns-in-Ok : goal.returns-in-Ok
returns-in-Ok c = few c.put_text.ensures (read_taken (read_formed _) refusal_at _ c.in-Ok.ensures) (omega arith)

pub returns-in-Err : goal.returns-in-Err
returns-in-Err c = few c.put_refusal_at.ensures (read_refused (read_formed _) refusal_at _ c.in-Err.ensures) (omega arith)
