-- `compare::lines::put_relation` meets its contract. Assumes nothing.
use Rattle.std.proofs.Common.{arith}
use Rattle.ascii.proofs.Putting.{text_put}
use Rattle.compare.specs.Compare.{relation_by}
use Rattle.compare.proofs.lines.put_relation.Goals as goal

pub returns-in-true-true : goal.returns-in-true-true
unfolding relation_by
returns-in-true-true c = text_put c.put_all.ensures (rw (c.in-true-true.is-0, c.in-true-true.is-1)) (omega arith)

pub returns-in-true-false : goal.returns-in-true-false
unfolding relation_by
returns-in-true-false c = text_put c.put_all-in-true-false.ensures (rw (c.in-true-false.is-0, c.in-true-false.is-1)) (omega arith)

pub returns-in-false-true : goal.returns-in-false-true
unfolding relation_by
returns-in-false-true c = text_put c.put_all-in-false-true.ensures (rw (c.in-false-true.is-0, c.in-false-true.is-1)) (omega arith)

pub returns-in-false-false : goal.returns-in-false-false
unfolding relation_by
returns-in-false-false c = text_put c.put_all-in-false-false.ensures (rw (c.in-false-false.is-0, c.in-false-false.is-1)) (omega arith)
