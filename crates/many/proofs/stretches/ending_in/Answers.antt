-- `many::stretches::ending_in` meets its contract. Assumes nothing.
use Rattle.many.proofs.Stretched.{usual_in, inserted_in, deleted_in}
use Rattle.many.proofs.stretches.ending_in.Goals as goal

pub returns-then-prepared-next : goal.returns-then-prepared-next
returns-then-prepared-next c s p = usual_in p c.requires.1 c.requires.0 c.if-prepared-next.true

pub returns-then-prepared-at : goal.returns-then-prepared-at
returns-then-prepared-at c s p = deleted_in p c.requires.1 c.requires.0 c.if-prepared-next.false c.if-prepared-at.true

pub returns : goal.returns
returns c s p = inserted_in p c.requires.1 c.requires.0 c.if-prepared-next.false c.if-prepared-at.false
