-- `command::Questions` answers a line by its answer and an LF. Assumes nothing.
use native.Mathlib.Omega.{arith}
use Rattle.ascii.proofs.Putting.{up_to, a_byte}
use Rattle.command.specs.Lines.{answer_line}
use Rattle.command.proofs.QuestionsResponder.respond.Goals as goal

pub returns-clause-puts : goal.returns-clause-puts
unfolding answer_line
returns-clause-puts c = λ e. up_to c.put_answer.ensures (a_byte c.put.ensures) (rw e) (omega arith)
