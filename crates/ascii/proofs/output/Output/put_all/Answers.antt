-- `ascii::output::Output::put_all` meets its contract. Assumes nothing.
use Rattle.ascii.proofs.Lists.{uncons}
use Rattle.ascii.proofs.Putting.{step}
use Rattle.ascii.proofs.output.Output.put_all.Goals as goal

pub loop-b-preserved : goal.loop-b-preserved
loop-b-preserved c = step c.loop-b.invariant c.put.ensures (uncons _ _ c.loop-b-test.true)
