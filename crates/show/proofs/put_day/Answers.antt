-- `show::put_day` meets its contract: the month of the day, and the day's number in it. Assumes nothing.
use native.Mathlib.Omega.{arith}
use mathlib.Core.Path.{◌≡◌, ap, ◌∙◌}
use Prim.Native.Nat.{ℕ, min}
use Rattle.calendar.specs.Calendar.{last_month, month_start, month_of}
use Rattle.calendar.proofs.Laws.{start_min, month_most, month_started}
use Rattle.show.specs.Show.{date_of}
use Rattle.show.proofs.put_day.Goals as goal

-- the start of the month that the code finds
the_start : (day : ℕ) {month start : ℕ} → month ≡ month_of day → start ≡ month_start (min month last_month) → start ≡ month_start (month_of day)
the_start day e f = f ∙ (ap (λ (m : ℕ). month_start (min m last_month)) e ∙ start_min (month_most day))

pub overflow_sub-day : goal.overflow_sub-day
overflow_sub-day c = omega (arith, the_start c.args.day c.latest_month-month.ensures c.first_day.ensures, month_started c.args.day c.requires.0)

pub returns : goal.returns
unfolding date_of
returns c = rw (← the_start c.args.day c.latest_month-month.ensures c.first_day.ensures, ← c.latest_month-month.ensures) c.put_date.ensures
