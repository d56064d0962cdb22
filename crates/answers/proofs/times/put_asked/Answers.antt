-- `answers::times::put_asked` meets its contract: the list is refused, or it answers the question. Assumes nothing.
use native.Mathlib.Omega.{arith}
use mathlib.Core.Path.{◌∙◌}
use Rattle.ascii.proofs.Putting.{few}
use Rattle.ascii.specs.Refusal.{refusal_at}
use Rattle.text.proofs.Sound.{read_formed}
use Rattle.schedule.proofs.ByReading.{read_refused, read_taken}
use Rattle.answers.specs.Times.{asked_under}
use Rattle.answers.proofs.times.put_asked.Goals as goal

pub returns-in-Err : goal.returns-in-Err
unfolding asked_under
returns-in-Err c = few c.put_refusal_at.ensures (read_refused (read_formed _) refusal_at _ c.in-Err.ensures) (omega arith)

pub returns-in-Err-put_asked_of : goal.returns-in-Err-put_asked_of
unfolding asked_under
returns-in-Err-put_asked_of c =
    let refused = c.in-Err-put_asked_of.ensures in
    few (rw refused.0 at c.put_refusal.ensures) (read_taken (read_formed _) refusal_at _ c.in_default.ensures ∙ refused.1) (omega arith)

pub returns-in_default-put_asked_of : goal.returns-in_default-put_asked_of
unfolding asked_under
returns-in_default-put_asked_of c = few c.in_default-put_asked_of.ensures (read_taken (read_formed _) refusal_at _ c.in_default.ensures) (omega arith)
