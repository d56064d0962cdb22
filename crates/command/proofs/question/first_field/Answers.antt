-- `command::question::first_field` meets its contract. Assumes nothing.
use Rattle.command.proofs.Fields.{first}
use Rattle.command.proofs.question.first_field.Goals as goal

pub returns : goal.returns
returns c = first _ _ c.split_once.ensures
