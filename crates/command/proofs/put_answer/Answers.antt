-- `command::put_answer` meets its contract: a line that is too long, a question, and what is none. Assumes nothing.
use native.Mathlib.Omega.{arith}
use mathlib.Core.Path.{◌∙◌}
use Rattle.ascii.proofs.Putting.{few, text_put}
use Rattle.command.proofs.Fields.{long_line, in_parts}
use Rattle.command.proofs.put_answer.Goals as goal

pub returns-then-line-gt-MAX_LINE : goal.returns-then-line-gt-MAX_LINE
returns-then-line-gt-MAX_LINE c = text_put c.put_all.ensures (long_line _ _ c.if-line-gt-MAX_LINE.true) (omega arith)

pub returns-in-Ok : goal.returns-in-Ok
returns-in-Ok c = few c.put_reply.ensures (in_parts _ _ c.if-line-gt-MAX_LINE.false ∙ c.in-Ok.ensures _) (omega arith)

pub returns-in-Err : goal.returns-in-Err
returns-in-Err c = few c.put_expected.ensures (in_parts _ _ c.if-line-gt-MAX_LINE.false ∙ c.in-Err.ensures _) (omega arith)
