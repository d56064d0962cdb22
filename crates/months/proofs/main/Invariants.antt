-- The count stays below the day.
use Rattle.std.proofs.Common.{◌<◌}
use Rattle.months.proofs.main.Given as goal

abbrev pub invariant-loop-day : goal.invariant-loop-day
invariant-loop-day l = l.asked < l.day
