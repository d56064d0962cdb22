use Rattle.schedule.proofs.Faults.{GappedAt}
use Rattle.schedule.proofs.check.leaps_fit.Given as goal

abbrev pub invariant-loop-i : goal.invariant-loop-i
invariant-loop-i l = GappedAt l.words l.signs l.faults l.last l.i
