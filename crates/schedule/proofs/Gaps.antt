-- The gaps of a schedule, and the parts of a well-formed one.
-- Assumes nothing.
use Rattle.std.proofs.Common.{◌≡◌, ℕ, ◌+◌, ◌-◌, ◌<◌, ◌≤◌, true, false, ◌&&◌, ltb, leb, List, [], ◌∷◌, length, refl, arith, ltb-true, le-leb, leb-true}
use mathlib.Core.Bool.{and-eq-true_iff}
use Rattle.calendar.specs.Calendar as calendar
use Rattle.calendar.proofs.Laws.{start_lt}
use Rattle.schedule.specs.Schedule.{Leap, Schedule, month_start, end_day, blank_schedule, gap_fits, expiry_fits, gaps_fit, well_formed}

-- a gap that fits
pub fits_lt : (a b : ℕ) → gap_fits a b ≡ true → a < b
fits_lt a b f = ltb-true a b ((and-eq-true_iff (ltb a b) (leb (b - a) 999)).0 f).0

pub fits_le : (a b : ℕ) → gap_fits a b ≡ true → b - a ≤ 999
fits_le a b f = leb-true (b - a) 999 ((and-eq-true_iff (ltb a b) (leb (b - a) 999)).0 f).1

-- an expiry that fits
pub expiry_after : (from expiry : ℕ) → expiry_fits from expiry ≡ true → month_start from < expiry
expiry_after from expiry f = ltb-true (month_start from) expiry ((and-eq-true_iff (ltb (month_start from) expiry) (ltb expiry (month_start (from + 1000)))).0 f).0

pub expiry_within : (from expiry : ℕ) → expiry_fits from expiry ≡ true → expiry < month_start (from + 1000)
expiry_within from expiry f = ltb-true expiry (month_start (from + 1000)) ((and-eq-true_iff (ltb (month_start from) expiry) (ltb expiry (month_start (from + 1000)))).0 f).1

-- the gaps of a list with a first leap
pub first : (from : ℕ) (l : Leap) (ls : List Leap) (expiry : ℕ) → gaps_fit from (l ∷ ls) expiry ≡ true → gap_fits from l.month ≡ true
unfolding gaps_fit
first from l ls expiry f = ((and-eq-true_iff (gap_fits from l.month) (gaps_fit l.month ls expiry)).0 f).0

pub later : (from : ℕ) (l : Leap) (ls : List Leap) (expiry : ℕ) → gaps_fit from (l ∷ ls) expiry ≡ true → gaps_fit l.month ls expiry ≡ true
unfolding gaps_fit
later from l ls expiry f = ((and-eq-true_iff (gap_fits from l.month) (gaps_fit l.month ls expiry)).0 f).1

pub last_fits : (from expiry : ℕ) → gaps_fit from [] expiry ≡ true → expiry_fits from expiry ≡ true
unfolding gaps_fit
last_fits from expiry f = f

pub before_end : (ls : List Leap) (from expiry : ℕ) → gaps_fit from ls expiry ≡ true → month_start from < expiry
unfolding gaps_fit
before_end [] from expiry f = expiry_after from expiry f
before_end (l ∷ ls) from expiry f =
    let a : from < l.month = fits_lt from l.month (first from l ls expiry f) in
    let b : month_start l.month < expiry = before_end ls l.month expiry (later from l ls expiry f) in
    omega (arith, start_lt a)

-- the parts of a well-formed schedule
pub record Parts (s : Schedule) : Type 0 where
  pub room : length s.leaps ≤ 256
  pub end : s.expiry ≤ end_day
  pub gaps : gaps_fit 0 s.leaps s.expiry ≡ true

pub parts : (s : Schedule) → well_formed s ≡ true → Parts s
parts s w =
    let w₁ = (and-eq-true_iff (leb (length s.leaps) 256 && leb s.expiry end_day) (gaps_fit 0 s.leaps s.expiry)).0 w in
    let w₂ = (and-eq-true_iff (leb (length s.leaps) 256) (leb s.expiry end_day)).0 w₁.0 in
    record { room = leb-true _ _ w₂.0; end = leb-true _ _ w₂.1; gaps = w₁.1 }

pub well_by : (s : Schedule) → length s.leaps ≤ 256 → s.expiry ≤ end_day → well_formed s ≡ gaps_fit 0 s.leaps s.expiry
well_by s r e = rw (le-leb (length s.leaps) 256 r, le-leb s.expiry end_day e)

-- the blank schedule is not well formed
pub blank_refused : well_formed blank_schedule ≡ false
unfolding gaps_fit calendar.month_start
blank_refused = refl
