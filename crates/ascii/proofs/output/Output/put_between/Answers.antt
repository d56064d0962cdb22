-- `ascii::lines`' `put_between` meets its contract. Assumes nothing.
use native.Mathlib.Omega.{arith}
use Rattle.ascii.specs.Lines.{between}
use Rattle.ascii.proofs.Putting.{text_put}
use Rattle.ascii.proofs.output.Output.put_between.Goals as goal

pub returns-then-self : goal.returns-then-self
unfolding between
returns-then-self c = text_put c.put.ensures (rw c.if-self.true) (omega arith)

pub returns-else-self : goal.returns-else-self
unfolding between
returns-else-self c = text_put c.put_all.ensures (rw c.if-self.false) (omega arith)
