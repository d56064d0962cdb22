-- `schedule::check::rest_clear` meets its contract. Assumes nothing.
use Rattle.schedule.proofs.Clear.{together_next}
use Rattle.schedule.proofs.check.rest_clear.Goals as goal

pub loop-word-preserved : goal.loop-word-preserved
loop-word-preserved c = together_next _ c.loop-word-test.true c.loop-word.invariant
