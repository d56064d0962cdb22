-- `command::question`'s `read` meets its contract. Assumes nothing.
use Rattle.command.proofs.Fields.{no_fields}
use Rattle.command.proofs.question.Question.read.Goals as goal

pub returns-in_default : goal.returns-in_default
returns-in_default c = λ lines. rw (c.in_default.ensures, ← c.word_of.ensures) (no_fields lines _)
