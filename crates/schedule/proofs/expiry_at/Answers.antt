-- `schedule::expiry_at` meets its contract. Assumes nothing.
use Rattle.std.proofs.Common.{min, sym, ap, ◌∙◌, arith}
use Rattle.schedule.specs.Schedule.{last_month, month_start}
use Rattle.calendar.proofs.Laws.{start_last, start_to}
use Rattle.schedule.proofs.expiry_at.Goals as goal

pub returns-then-month-gt-LAST_MONTH : goal.returns-then-month-gt-LAST_MONTH
returns-then-month-gt-LAST_MONTH c = sym (ap month_start (omega arith) ∙ start_last)

pub overflow_cast-result : goal.overflow_cast-result
overflow_cast-result c = omega (arith, c.first_day.ensures, start_to {m = min c.args.month last_month} (omega arith))
