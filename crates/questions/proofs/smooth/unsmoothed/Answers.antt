-- `questions::smooth::unsmoothed` meets its contract. Assumes nothing.
use Rattle.std.proofs.Common.{arith}
use Rattle.clock.proofs.Back.{back_ordinary, back_inserted_low, back_inserted_high, back_deleted_low, back_deleted_high}
use Rattle.questions.proofs.smooth.unsmoothed.Goals as goal

pub returns-then-u : goal.returns-then-u
returns-then-u c = rw c.in-Inserted.is (back_inserted_low _ (omega arith))

pub returns-then-u-2 : goal.returns-then-u-2
returns-then-u-2 c = rw c.in-Deleted.is (back_deleted_low _ (omega arith))

pub returns-in-Ordinary : goal.returns-in-Ordinary
returns-in-Ordinary c = rw c.in-Ordinary.is (back_ordinary _ c.requires)

pub returns-else-u : goal.returns-else-u
returns-else-u c = rw c.in-Inserted.is (back_inserted_high _ c.requires (omega arith))

pub returns-else-u-2 : goal.returns-else-u-2
returns-else-u-2 c = rw c.in-Deleted.is (back_deleted_high _ c.requires (omega arith))
