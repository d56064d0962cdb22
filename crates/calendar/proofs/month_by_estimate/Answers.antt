-- `calendar::month_by_estimate` meets its contract: where the estimate's month starts after the day, it is the next one, else the day's own.
-- Assumes nothing.
use native.Mathlib.Omega.{arith}
use Rattle.calendar.proofs.Laws.{month_below}
use Rattle.calendar.proofs.Near.{is_next, is_own}
use Rattle.calendar.proofs.month_by_estimate.Goals as goal

pub computed_start-requires : goal.computed_start-requires
computed_start-requires c = omega (arith, c.estimate-month.ensures.high, month_below c.requires.0 c.requires.1)

-- the step falls below no month
pub overflow_sub-result : goal.overflow_sub-result
overflow_sub-result c = omega (arith, is_next (omega arith) (omega arith) c.estimate-month.ensures (omega arith))

pub returns-then-day-computed_start : goal.returns-then-day-computed_start
returns-then-day-computed_start c = omega (arith, is_next (omega arith) (omega arith) c.estimate-month.ensures (omega arith))

pub returns : goal.returns
returns c = is_own (omega arith) (omega arith) c.estimate-month.ensures (omega arith)
