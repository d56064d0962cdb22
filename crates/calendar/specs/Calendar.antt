-- "Months, days and the schedule": the Gregorian calendar from January 1972 on, in month numbers and Modified Julian Days.
-- Assumes nothing: these are definitions.
use Rattle.std.specs.Prelude.{Bool, cond, not, ◌&&◌, ◌||◌, List, [], ◌∷◌, ℕ, zero, suc, ◌+◌, ◌/◌, ◌%◌, ◌≤◌, ◌<◌, eqb, leb, ltb, get_or}
use Rattle.refusals.specs.Answer.{Answer, given, require}
use Rattle.refusals.specs.Refusals.{before1972, not_known}
use Rattle.calendar.specs.Greatest.{greatest}

-- month 0 starts on 1 January 1972
abbrev pub first_day : ℕ
first_day = 41_317

-- month numbers run to 2400
abbrev pub last_month : ℕ
last_month = 2400

-- month 2400 starts on 1 January 2172
abbrev pub end_day : ℕ
end_day = 114_366

-- the year that month m lies in
abbrev pub year_of : ℕ → ℕ
year_of m = 1972 + m / 12

-- y is divisible by k
abbrev divides : ℕ → ℕ → Bool
divides k y = eqb (y % k) 0

-- a leap year is divisible by 4, and not by 100 unless by 400
unfoldable pub is_leap_year : ℕ → Bool
is_leap_year y = divides 4 y && (not (divides 100 y) || divides 400 y)

-- the numbers of days of the twelve months, January first, in a leap year or another
unfoldable pub month_lengths : Bool → List ℕ
month_lengths leap = 31 ∷ cond leap 29 28 ∷ 31 ∷ 30 ∷ 31 ∷ 30 ∷ 31 ∷ 31 ∷ 30 ∷ 31 ∷ 30 ∷ 31 ∷ []

-- the number of days in month m
unfoldable pub days_in_month : ℕ → ℕ
days_in_month m = get_or (month_lengths (is_leap_year (year_of m))) (m % 12) 0

-- the Modified Julian Day on which month m starts
unfoldable pub month_start : ℕ → ℕ
month_start zero = first_day
month_start (suc m) = month_start m + days_in_month m

-- day d lies in month m
pub record InMonth (d m : ℕ) : Type 0 where
  pub from : month_start m ≤ d
  pub before : d < month_start (m + 1)

-- the month of day d: the last one, up to month 2400, that has started by then
unfoldable pub month_of : ℕ → ℕ
month_of d = greatest (λ m. leb (month_start m) d) last_month

-- day d is the first of a month, up to month 2400
unfoldable pub starts_month : ℕ → Bool
starts_month d = eqb (month_start (month_of d)) d

-- month m is at most one month off for day d, and never early: it is the month of that day, or the next
pub record MonthOrNext (d m : ℕ) : Type 0 where
  pub low : month_of d ≤ m
  pub high : m ≤ month_of d + 1

-- the month of any day: refused with 8 before 1972, and with 10 from the start of month 2400 on
unfoldable pub month_at : ℕ → Answer ℕ
month_at d =
    require (leb first_day d) before1972
    (require (ltb d end_day) not_known
    (given (month_of d)))
