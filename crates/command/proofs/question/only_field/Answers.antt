-- `command::question::only_field` meets its contract. Assumes nothing.
use Rattle.command.proofs.Fields.{too_many}
use Rattle.command.proofs.question.only_field.Goals as goal

pub returns-in-Some : goal.returns-in-Some
returns-in-Some c = λ e f. rw c.in-Some.ensures.0 (too_many e _ _ f)
