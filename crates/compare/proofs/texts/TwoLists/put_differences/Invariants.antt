use Rattle.std.proofs.Common.{◌-◌}
use Rattle.schedule.specs.WordLayout.{meant}
use Rattle.compare.specs.Private.{past_months}
use Rattle.compare.proofs.Going.{Going}
use Rattle.compare.proofs.texts.TwoLists.put_differences.Given as goal

abbrev pub invariant-loop-month : goal.invariant-loop-month
invariant-loop-month l = Going (meant l.self.first.words.now) (meant l.self.second.words.now) l.initial.out l.out l.a l.b l.month

abbrev pub decreases-loop-month : goal.decreases-loop-month
decreases-loop-month l = past_months - l.month
