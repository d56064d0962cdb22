-- When an expiry day within the calendar fits the last leap's month: by the number of the day's month, and by bounds of the months' starts.
-- Assumes nothing.
use Rattle.std.proofs.Common.{◌≡◌, ℕ, ◌+◌, ◌-◌, ◌*◌, ◌<◌, ◌≤◌, Bool, true, false, not, ltb, leb, sym, ap, ◌∙◌, arith, le-ltb, lt-ltb, le-leb}
use native.Mathlib.Decide.{dec_lt}
use borrow.Author.Tests.{lt-leb}
use Rattle.calendar.specs.Calendar.{first_day, end_day, last_month, month_start, month_of, starts_month}
use Rattle.calendar.proofs.Laws.{start_zero, start_last, start_from, start_le, start_lt, start_add, started, in_month, late_month, month_started, first_of, no_start}
use Rattle.calendar.proofs.Near.{start_by}
use Rattle.schedule.specs.Schedule.{max_gap, gap_fits, expiry_fits}
use Rattle.schedule.proofs.WordLayout.{within}

-- a month that has started by a day within the calendar is no later than the day's
pub reached : (day : ℕ) → day ≤ end_day → (m : ℕ) → month_start m ≤ day → m ≤ month_of day
reached day i m h =
    elim (dec_lt day end_day) [
      | yes l ↦ started m (in_month (omega (arith, start_from m)) l) h
      | no l ↦ omega (arith, within m (omega arith), late_month {d = day} (omega arith))
    ]

-- the month of a day from 1972 on is before any month that starts after the day
before_start : (day : ℕ) → first_day ≤ day → (m : ℕ) → day < month_start m → month_of day < m
before_start day f m h =
    elim (dec_lt (month_of day) m) [
      | yes l ↦ l
      | no l ↦ let g : m ≤ month_of day = omega arith in absurd (omega (arith, start_le g, month_started day f))
    ]

-- an expiry that fits lies at most 999 months after, by month number
pub within_number : (from expiry : ℕ) → month_start from < expiry → expiry < month_start (from + 1000) → month_of expiry < from + 1000
within_number from expiry a b = before_start expiry (omega (arith, start_from from)) (from + 1000) b

-- the paper's words for how late an expiry may be: at most 999 months after the last leap's month by month number
pub by_number : (from expiry : ℕ) → month_start from < expiry → expiry ≤ end_day → ltb expiry (month_start (from + 1000)) ≡ leb (month_of expiry - from) max_gap
by_number from expiry a i =
    elim (dec_lt expiry (month_start (from + 1000))) [
      | yes l ↦ lt-ltb expiry (month_start (from + 1000)) l ∙ sym (le-leb (month_of expiry - from) max_gap (omega (arith, within_number from expiry a l)))
      | no l ↦ le-ltb expiry (month_start (from + 1000)) (omega arith) ∙ sym (lt-leb (month_of expiry - from) max_gap (omega (arith, reached expiry i (from + 1000) (omega arith))))
    ]

module _ (from expiry : ℕ) (inside : expiry ≤ end_day) where
  -- no expiry fits a month that starts at the end of the calendar or later, and none on the calendar's first day or before fits any
  pub past_all : last_month ≤ from → expiry_fits from expiry ≡ false
  past_all h = simp (le-ltb (month_start from) expiry (omega (arith, start_last, start_le h)))

  pub before_all : expiry ≤ first_day → expiry_fits from expiry ≡ false
  before_all h = simp (le-ltb (month_start from) expiry (omega (arith, start_from from)))

  -- one between bounds of the months' starts does
  pub between : from < last_month → 487 * (from + 2) + 16 * 41_301 ≤ 16 * expiry → expiry < first_day + 28 * (from + 1000) → expiry_fits from expiry ≡ true
  between l h g =
      let z : 0 + (from + 1000) ≡ from + 1000 = omega arith in
      let far : first_day + 28 * (from + 1000) ≤ month_start (from + 1000) = omega (arith, start_zero, start_add 0 (from + 1000), ap month_start z) in
      simp (lt-ltb (month_start from) expiry (omega (arith, start_by l)), lt-ltb expiry (month_start (from + 1000)) (omega arith))

  module _ (after : first_day < expiry) {month : ℕ} (is : month ≡ month_of expiry) where
    -- in the month itself it fits unless it is its first day
    pub same_month : month ≡ from → (b : Bool) → b ≡ starts_month expiry → expiry_fits from expiry ≡ not b
    same_month e true s =
        let first : month_start (month_of expiry) ≡ expiry = first_of (sym s) in
        simp (le-ltb (month_start from) expiry (omega (arith, ap month_start (sym e ∙ is))))
    same_month e false s =
        let own : month_start from ≤ expiry = omega (arith, month_started expiry (omega arith), ap month_start (sym e ∙ is)) in
        let off : (month_start from ≡ expiry → ⊥) = no_start (sym s) from (within from (omega arith)) in
        let later : month_start from < expiry = elim (dec_lt (month_start from) expiry) [ yes l ↦ l | no l ↦ absurd (off (omega arith)) ] in
        simp (lt-ltb (month_start from) expiry later, by_number from expiry later inside, le-leb (month_of expiry - from) max_gap (omega arith))

    -- in another month it fits where the gap does
    pub other_month : (month ≡ from → ⊥) → expiry_fits from expiry ≡ gap_fits from month
    other_month n =
        elim (dec_lt from month) [
          | yes l ↦
              let lower : from < month_of expiry = omega arith in
              let later : month_start from < expiry = omega (arith, start_lt lower, month_started expiry (omega arith)) in
              rw (lt-ltb (month_start from) expiry later, by_number from expiry later inside, lt-ltb from month l, is)
          | no l ↦
              let early : expiry ≤ month_start from =
              elim (dec_lt (month_start from) expiry) [
                | yes a ↦ absurd (n (omega (arith, reached expiry inside from (omega arith))))
                | no a ↦ omega arith
              ] in
              simp (le-ltb (month_start from) expiry early, le-ltb from month (omega arith))
        ]
