-- `compare::lines::put_compared` meets its contract: a list is refused, or both are read. Assumes nothing.
use Rattle.std.proofs.Common.{arith, sym, ap, ◌∙◌}
use Rattle.ascii.specs.Decimal.{decimal}
use Rattle.ascii.proofs.Putting.{few}
use Rattle.compare.proofs.Bytes.{joined_bytes}
use Rattle.compare.proofs.TwoTexts.{not_read, read}
use Rattle.compare.proofs.lines.put_compared.Goals as goal

pub returns-in-Ok : goal.returns-in-Ok
returns-in-Ok c = few c.put.ensures (read _ _ decimal _ c.in-Ok.ensures ∙ joined_bytes _ _ _) (omega arith)

pub returns-in-Err : goal.returns-in-Err
returns-in-Err c = few c.put_decimal.ensures (not_read _ _ decimal _ c.in-Err.ensures ∙ sym (ap decimal (c.from.ensures ∙ c.number.ensures))) (omega arith)
