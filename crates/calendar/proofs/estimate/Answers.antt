-- `calendar::estimate` meets its contract: no step of it wraps or falls below zero, and it is at most one month off.
-- Assumes nothing.
use Rattle.calendar.proofs.Near.{at_most_one_off}
use Rattle.calendar.proofs.estimate.Goals as goal

pub returns : goal.returns
returns c = at_most_one_off c.requires.0 c.requires.1
