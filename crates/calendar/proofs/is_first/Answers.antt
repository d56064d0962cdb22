-- `calendar::is_first` meets its contract: the latest month starts on that day, or it is no first day. Assumes nothing.
use mathlib.Core.Path.{◌≡◌, ◌∙◌, ap}
use Prim.Native.Nat.{ℕ, min}
use lib.Dec.{eqb}
use Rattle.calendar.specs.Calendar.{last_month, month_start, month_of, starts_month}
use Rattle.calendar.proofs.Laws.{start_min, month_most}
use Rattle.calendar.proofs.is_first.Goals as goal

by_latest : (day : ℕ) {m start : ℕ} → m ≡ month_of day → start ≡ month_start (min m last_month) → eqb start day ≡ starts_month day
unfolding starts_month
by_latest day e f = ap (λ (a : ℕ). eqb a day) (f ∙ (ap (λ (k : ℕ). month_start (min k last_month)) e ∙ start_min (month_most day)))

pub returns : goal.returns
returns c = by_latest c.args.day c.latest_month.ensures c.first_day.ensures
