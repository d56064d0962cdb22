-- The date that is printed for an MJD is that of the calendar. Assumes nothing.
use mathlib.Core.Path.{◌≡◌, ap, ◌∙◌}
use mathlib.Core.Bool.{true}
use mathlib.Core.List.{List, [], ◌∷◌, ◌++◌}
use Prim.Native.Nat.{ℕ, ◌+◌, ◌-◌, ◌/◌, ◌%◌, ◌<◌}
use native.Mathlib.Omega.{arith}
use Rattle.ascii.specs.Ascii.{ascii}
use Rattle.ascii.specs.Decimal.{digits_in, decimal, pair, with_sign}
use Rattle.ascii.specs.Lines.{between}
use Rattle.calendar.specs.Calendar.{InMonth, first_day, days_in_month, month_start, month_of}
use Rattle.calendar.proofs.Laws.{start_next, start_last, late_month, is_month}
use Rattle.schedule.specs.declared.Leap.{Leap}
use Rattle.schedule.specs.Schedule.{Schedule, well_formed}
use Rattle.clock.specs.Days.{dtai}
use Rattle.show.specs.Show.{date, date_of, stretch, stretches, shown}

by_month : (day m d : ℕ) → month_of day ≡ m → day - month_start m + 1 ≡ d → date_of day ≡ date m d
unfolding date_of
by_month day m d e f = ap (λ (k : ℕ). date k (day - month_start k + 1)) e ∙ ap (date m) f

-- day d of a month from its first, 1, to its last is printed as year, month and day, with - (45) between them
pub date_of_lem : (m d : ℕ) → m < 2400 → d < days_in_month m
    → date_of (month_start m + d) ≡ decimal (1972 + m / 12) ++ (45 ∷ pair (m % 12 + 1) ++ (45 ∷ pair (d + 1)))
unfolding date
date_of_lem m d h g =
    let in-it : InMonth (month_start m + d) m = record { from = omega arith; before = omega (arith, start_next m) } in
    by_month (month_start m + d) m (d + 1) (is_month h in-it) (omega arith)

-- and the last day on which a list may expire as 2172-01-01
pub last_date : date_of 114_366 ≡ decimal 2172 ++ (45 ∷ pair 1 ++ (45 ∷ pair 1))
unfolding date
last_date = by_month 114_366 2400 1 (late_month (omega arith)) (omega (arith, start_last))

ten : (s : Schedule) → s.leaps ≡ [] → with_sign (dtai s 41_317) ≡ ascii "+10"
unfolding dtai decimal digits_in
ten s e = rw e

alone : (s : Schedule) (ls : List Leap) → ls ≡ [] → (sign : List ℕ) → with_sign (dtai s 41_317) ≡ sign
    → stretches true s first_day ls ++ (between true ++ (date_of s.expiry ++ ascii " unknown"))
    ≡ date_of 41_317 ++ (32 ∷ date_of (s.expiry - 1) ++ (32 ∷ sign)) ++ (10 ∷ date_of s.expiry ++ ascii " unknown")
unfolding stretches stretch between
alone s ls e sign f = rw (e, ← f)

-- a list without leaps is shown as its one stretch, from 1972-01-01 to the day before its expiry, and its expiry
pub shown_alone : (s : Schedule) → well_formed s ≡ true → s.leaps ≡ []
    → shown true s ≡ date_of 41_317 ++ (32 ∷ date_of (s.expiry - 1) ++ (32 ∷ ascii "+10")) ++ (10 ∷ date_of s.expiry ++ ascii " unknown")
unfolding shown
shown_alone s w e = rw w (alone s s.leaps e (ascii "+10") (ten s e))
