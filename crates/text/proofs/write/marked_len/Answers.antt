-- `text::write::marked_len` meets its contract. Assumes nothing.
use Rattle.std.proofs.Common.{arith, ap, length}
use Rattle.text.proofs.Digits.{one, two, three}
use Rattle.text.proofs.write.marked_len.Goals as goal

pub returns-in-0-to-9 : goal.returns-in-0-to-9
returns-in-0-to-9 c = omega (arith, ap length (one c.args.gap (omega arith)))

pub returns-in-10-to-99 : goal.returns-in-10-to-99
returns-in-10-to-99 c = omega (arith, ap length (two c.args.gap (omega arith) (omega arith)))

pub returns-in_default : goal.returns-in_default
returns-in_default c = omega (arith, ap length (three c.args.gap (omega arith)))
