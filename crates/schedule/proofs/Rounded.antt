-- A list as the writers spell it, in months: the expiry is rounded down to its month, and every gap is 1 to 999.
-- Assumes nothing.
use Rattle.std.proofs.Common.{◌≡◌, ℕ, suc, ◌+◌, ◌-◌, ◌<◌, ◌≤◌, Bool, true, ◌&&◌, List, [], ◌∷◌, length, get_or, refl, ap, ◌∙◌, arith, ltb-true, lt-ltb, le-leb}
use mathlib.Core.Bool.{and-eq-true_iff}
use native.Mathlib.Decide.{dec_lt}
use Rattle.calendar.specs.Calendar.{first_day, end_day, month_start, month_of, starts_month}
use Rattle.calendar.proofs.Laws.{start_zero, start_le, start_lt, first_of, month_started}
use Rattle.schedule.specs.Schedule.{Leap, Schedule, max_gap, no_leap, gap_fits, gaps_fit, last_leap, rounded_down, leaves_gap, well_formed}
use Rattle.schedule.specs.Extends.{Extends}
use Rattle.schedule.proofs.Extension.{all_below_lem}
use Rattle.schedule.proofs.ByNumber.{within_number}
use Rattle.schedule.proofs.Gaps.{fits_lt, fits_le, expiry_after, expiry_within, last_fits, first, later, before_end, parts}

-- every gap from a month on, over the leaps, to a last month is 1 to 999
unfoldable pub gaps_to : ℕ → List Leap → ℕ → Bool
gaps_to from [] end = gap_fits from end
gaps_to from (l ∷ ls) end = gap_fits from l.month && gaps_to l.month ls end

pub only_to : (from end : ℕ) → gaps_to from [] end ≡ true → gap_fits from end ≡ true
unfolding gaps_to
only_to from end f = f

pub first_to : (from : ℕ) (l : Leap) (ls : List Leap) (end : ℕ) → gaps_to from (l ∷ ls) end ≡ true → gap_fits from l.month ≡ true
unfolding gaps_to
first_to from l ls end f = ((and-eq-true_iff (gap_fits from l.month) (gaps_to l.month ls end)).0 f).0

pub later_to : (from : ℕ) (l : Leap) (ls : List Leap) (end : ℕ) → gaps_to from (l ∷ ls) end ≡ true → gaps_to l.month ls end ≡ true
unfolding gaps_to
later_to from l ls end f = ((and-eq-true_iff (gap_fits from l.month) (gaps_to l.month ls end)).0 f).1

pub before_to : (ls : List Leap) (from end : ℕ) → gaps_to from ls end ≡ true → from < end
before_to [] from end f = fits_lt from end (only_to from end f)
before_to (l ∷ ls) from end f =
    let a : from < l.month = fits_lt from l.month (first_to from l ls end f) in
    let b : l.month < end = before_to ls l.month end (later_to from l ls end f) in
    omega arith

rounded_fits : (ls : List Leap) (from expiry : ℕ) → gaps_fit from ls expiry ≡ true → last_leap from ls < month_of expiry → gaps_to from ls (month_of expiry) ≡ true
unfolding gaps_to last_leap
rounded_fits [] from expiry f h =
    let g = last_fits from expiry f in
    let n = within_number from expiry (expiry_after from expiry g) (expiry_within from expiry g) in
    simp (lt-ltb from (month_of expiry) h, le-leb (month_of expiry - from) max_gap (omega arith))
rounded_fits (l ∷ ls) from expiry f h = simp (first from l ls expiry f, rounded_fits ls l.month expiry (later from l ls expiry f) h)

pub last_before : (ls : List Leap) (from expiry : ℕ) → gaps_fit from ls expiry ≡ true → month_start (last_leap from ls) < expiry
unfolding last_leap
last_before [] from expiry f = expiry_after from expiry (last_fits from expiry f)
last_before (l ∷ ls) from expiry f = last_before ls l.month expiry (later from l ls expiry f)

-- where rounding leaves a gap, all gaps of a well-formed schedule are 1 to 999 months
pub rounded_gaps : (s : Schedule) → well_formed s ≡ true → leaves_gap s ≡ true → gaps_to 0 s.leaps (month_of s.expiry) ≡ true
rounded_gaps s w g = rounded_fits s.leaps 0 s.expiry (parts s w).gaps (ltb-true (last_leap 0 s.leaps) (month_of s.expiry) g)

-- such a list expires on the first day of its last month
to_days : (ls : List Leap) (from end : ℕ) → gaps_to from ls end ≡ true → gaps_fit from ls (month_start end) ≡ true
unfolding gaps_to gaps_fit
to_days [] from end f =
    let a = fits_lt from end f in
    let b : end < from + 1000 = omega (arith, fits_le from end f) in
    simp (lt-ltb (month_start from) (month_start end) (start_lt a), lt-ltb (month_start end) (month_start (from + 1000)) (start_lt b))
to_days (l ∷ ls) from end f =
    let p = (and-eq-true_iff (gap_fits from l.month) (gaps_to l.month ls end)).0 f in
    simp (p.0, to_days ls l.month end p.1)

module _ (s : Schedule) (w : well_formed s ≡ true) (g : leaves_gap s ≡ true) where
  from_first : first_day ≤ s.expiry
  from_first = omega (arith, start_zero, before_end s.leaps 0 s.expiry (parts s w).gaps)

  earlier : month_start (month_of s.expiry) ≤ s.expiry
  earlier = month_started s.expiry from_first

  -- the schedule rounded down is well formed
  pub rounded_well : well_formed (rounded_down s) ≡ true
  rounded_well =
      let p = parts s w in
      simp (
        le-leb (length s.leaps) 256 p.room,
        le-leb (month_start (month_of s.expiry)) end_day (omega (arith, earlier, p.end)),
        to_days s.leaps 0 (month_of s.expiry) (rounded_gaps s w g),
      )

  -- and the schedule extends it
  pub extends_rounded : Extends s (rounded_down s)
  extends_rounded =
      record { same = all_below_lem s.leaps 0 (month_start (month_of s.expiry)) (to_days s.leaps 0 (month_of s.expiry) (rounded_gaps s w g)); later = earlier }

-- a schedule that expires on the first of a month is its own rounding, and leaves a gap
pub rounds_itself : (s : Schedule) → starts_month s.expiry ≡ true → rounded_down s ≡ s
rounds_itself s m = rw (first_of m)

pub first_leaves_gap : (s : Schedule) → well_formed s ≡ true → starts_month s.expiry ≡ true → leaves_gap s ≡ true
first_leaves_gap s w m = lt-ltb (last_leap 0 s.leaps) (month_of s.expiry) (later_month (last_leap 0 s.leaps) (month_of s.expiry) (omega (arith, first_of m, last_before s.leaps 0 s.expiry (parts s w).gaps)))
  where
    later_month : (a b : ℕ) → month_start a < month_start b → a < b
    later_month a b h = elim (dec_lt a b) [ yes l ↦ l | no l ↦ let k : b ≤ a = omega arith in absurd (omega (arith, start_le k)) ]

-- ---- what the code finds

-- the last leap's month
last_at : (ls : List Leap) (l : Leap) (from : ℕ) → last_leap from (l ∷ ls) ≡ (get_or (l ∷ ls) (length ls) no_leap).month
unfolding last_leap
last_at [] l from = refl
last_at (m ∷ ms) l from = last_at ms m l.month

last_by : (ls : List Leap) (n from : ℕ) → length ls ≡ suc n → last_leap from ls ≡ (get_or ls n no_leap).month
last_by [] n from e = absurd (omega arith)
last_by (l ∷ ls) n from e = let z : length ls ≡ n = omega arith in last_at ls l from ∙ ap (λ k. (get_or (l ∷ ls) k no_leap).month) z

no_leap_lem : (ls : List Leap) → length ls ≡ 0 → last_leap 0 ls ≡ 0
unfolding last_leap
no_leap_lem [] e = refl
no_leap_lem (l ∷ ls) e = absurd (omega arith)

module _ (s : Schedule) (n : ℕ) (e : n ≡ length s.leaps) where
  pub last_none : n ≡ 0 → last_leap 0 s.leaps ≡ 0
  last_none z = no_leap_lem s.leaps (omega arith)

  pub last_some : (i : ℕ) → i + 1 ≡ n → last_leap 0 s.leaps ≡ (get_or s.leaps i no_leap).month
  last_some i z = last_by s.leaps i 0 (omega arith)
