-- One test of the months, computed over a list of days, month after month: the Gregorian rule, and the estimates for each month's first and last day.
-- The closed form passes it here, and the table in entry/Proof.
-- Assumes nothing.
use mathlib.Core.Path.{◌≡◌, refl, ◌∙◌, ap}
use mathlib.Core.Bool.{Bool, true, false, ◌&&◌, and-eq-true_iff}
use mathlib.Core.List.{List, [], ◌∷◌}
use Prim.Native.Nat.{ℕ, zero, suc, ◌+◌, ◌-◌, ◌*◌, ◌/◌, ◌%◌, ◌≤◌, ◌<◌}
use native.Mathlib.Nat.{add-zero, zero-add}
use native.Mathlib.Omega.{arith}
use borrow.Author.Tests.{eqb-true, leb-true}
use lib.Dec.{eqb, leb}
use lib.ListN.{length, get_or}
use Rattle.calendar.proofs.Estimates.{estimated}
use Rattle.calendar.specs.Calendar.{first_day, last_month, is_leap_year, month_lengths, days_in_month, month_start}

-- the year 2100 is not a leap year
pub no_leap_2100 : is_leap_year 2100 ≡ false
unfolding is_leap_year
no_leap_2100 = refl

-- the last day of month m, which starts on day s
abbrev last_of : ℕ → ℕ → ℕ
last_of m s = s + days_in_month m - 1

-- the test of month m, which starts on day s: the estimate is not early on its first day, and at most one month late on its last
abbrev near : ℕ → ℕ → Bool
near m s = leb m (estimated s) && leb (estimated (last_of m s)) (m + 1)

-- the test of month m, which starts on day s, and of the number x that the list has for it
abbrev right : ℕ → ℕ → ℕ → Bool
right m s x = eqb x s && near m s

-- each number of the list passes the test, the first being for month m, which starts on day s
abbrev pub all_right : ℕ → ℕ → List ℕ → Bool
all_right m s [] = true
all_right m s (x ∷ xs) = right m s x && all_right (suc m) (s + days_in_month m) xs

moved : (m k : ℕ) → suc m + k ≡ m + suc k
moved m k = omega arith

from : (xs : List ℕ) (m s : ℕ) → s ≡ month_start m → all_right m s xs ≡ true → (k : ℕ) → k < length xs → right (m + k) (month_start (m + k)) (get_or xs k 0) ≡ true
unfolding month_start
from [] m s e t k h = absurd (omega arith)
from (x ∷ xs) m s e t zero h = rw (add-zero, ← e) ((and-eq-true_iff (right m s x) _).0 t).0
from (x ∷ xs) m s e t (suc k) h =
    rw (moved m k) at
    (from xs (suc m) (s + days_in_month m) (ap (λ y. y + days_in_month m) e) ((and-eq-true_iff (right m s x) _).0 t).1 k (omega arith))

-- what the test says of month m, which starts on day s, and of the number x
pub record Right (m s x : ℕ) : Type 0 where
  pub start : x ≡ s
  pub first : m ≤ estimated s
  pub last : estimated (last_of m s) ≤ m + 1

right_means : (m s x : ℕ) → right m s x ≡ true → Right m s x
right_means m s x t =
    let r = (and-eq-true_iff (eqb x s) (near m s)).0 t in
    let n = (and-eq-true_iff (leb m (estimated s)) (leb (estimated (last_of m s)) (m + 1))).0 r.1 in
    record { start = eqb-true x s r.0; first = leb-true _ _ n.0; last = leb-true _ _ n.1 }

-- a list that passes has the start of each month at its place, and the estimates for its first and last day are at most one month off
pub listed : (xs : List ℕ) → all_right 0 first_day xs ≡ true → (m : ℕ) → m < length xs → Right m (month_start m) (get_or xs m 0)
unfolding month_start
listed xs t m h = right_means m (month_start m) (get_or xs m 0) (rw zero-add at (from xs 0 first_day refl t m h))

-- the closed form for the month that comes n months after March 1971, in a year that is taken from March on
abbrev in_year : ℕ → ℕ → ℕ
in_year n year = 365 * year + year / 4 - year / 100 + year / 400 + (153 * (n % 12) + 2) / 5 - 678_881

abbrev pub closed : ℕ → ℕ
closed m = in_year (m + 10) (1971 + (m + 10) / 12)

-- the closed form for n months from month m on
abbrev closed_from : ℕ → ℕ → List ℕ
closed_from zero m = []
closed_from (suc n) m = closed m ∷ closed_from n (suc m)

closed_at : (n m k : ℕ) → k < n → get_or (closed_from n m) k 0 ≡ closed (m + k)
closed_at zero m k h = absurd (omega arith)
closed_at (suc n) m zero h = rw add-zero
closed_at (suc n) m (suc k) h = closed_at n (suc m) k (omega arith) ∙ ap closed (moved m k)

closed_passes : all_right 0 first_day (closed_from (last_month + 1) 0) ≡ true
unfolding days_in_month month_lengths is_leap_year
closed_passes = refl

-- what the test says of each of the months 0 to 2400, and of the closed form for it
pub closed_right : {m : ℕ} → m ≤ last_month → Right m (month_start m) (closed m)
closed_right {m} h =
    let k : m < last_month + 1 = omega arith in
    rw zero-add at (rw (closed_at (last_month + 1) 0 m k) at (listed (closed_from (last_month + 1) 0) closed_passes m k))

-- the closed form gives the day on which each of the months 0 to 2400 starts
pub closed_form : {m : ℕ} → m ≤ last_month → closed m ≡ month_start m
closed_form h = (closed_right h).start
