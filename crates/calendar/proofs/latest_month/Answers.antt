-- `calendar::latest_month` meets its contract: month 0 before 1972, month 2400 from its start on, and else the month of the lookup.
-- Assumes nothing.
use mathlib.Core.Path.{sym}
use native.Mathlib.Omega.{arith}
use Rattle.calendar.proofs.Laws.{early_month, late_month}
use Rattle.calendar.proofs.latest_month.Goals as goal

pub returns-then-day-lt-FIRST_DAY : goal.returns-then-day-lt-FIRST_DAY
returns-then-day-lt-FIRST_DAY c = sym (early_month (omega arith))

pub returns : goal.returns
returns c = sym (late_month (omega arith))
