-- What callers cite of the calendar: the order of the months' starts, the month that a day lies in, and the lookup's three answers.
-- Assumes nothing.
use mathlib.Core.Path.{◌≡◌, refl, ◌∙◌, ap, sym}
use mathlib.Core.Bool.{Bool, true, false}
use mathlib.Core.List.{List, [], ◌∷◌}
use Prim.Native.Nat.{ℕ, zero, suc, ◌+◌, ◌-◌, ◌*◌, ◌%◌, ◌≤◌, ◌<◌, min}
use native.Mathlib.Nat.{add-zero, add-suc}
use native.Mathlib.Numerals.{add-one}
use native.Mathlib.Omega.{arith}
use native.Mathlib.Decide.{dec_lt}
use borrow.Author.Tests.{leb-true, leb-false, le-leb, lt-leb, lt-ltb, le-ltb, eqb-true, eqb-false, eq-eqb, ne_eqb}
use lib.Dec.{leb}
use lib.ListN.{length, get_or}
use Rattle.refusals.specs.Answer as answer
use Rattle.refusals.specs.Refusals.{before1972, not_known}
use Rattle.calendar.specs.Calendar.{
  first_day,
  last_month,
  end_day,
  year_of,
  is_leap_year,
  month_lengths,
  days_in_month,
  month_start,
  InMonth,
  month_of,
  starts_month,
  month_at,
}
use Rattle.calendar.proofs.Greatest.{greatest_within, greatest_none, greatest_found, greatest_is}
use Rattle.calendar.proofs.Gregorian.{closed_form}

-- ---- the months and their starts

-- each number of the list is 28 to 31
abbrev Lengths : List ℕ → Type 0
Lengths [] = Unit {0}
Lengths (x ∷ xs) = (28 ≤ x) × (x ≤ 31) × Lengths xs

length_at : (xs : List ℕ) → Lengths xs → (k : ℕ) → k < length xs → (28 ≤ get_or xs k 0) × (get_or xs k 0 ≤ 31)
length_at [] l k h = absurd (omega arith)
length_at (x ∷ xs) l zero h = (l.0, l.1)
length_at (x ∷ xs) l (suc k) h = length_at xs l.2 k (omega arith)

lengths : (leap : Bool) (k : ℕ) → k < 12 → (28 ≤ get_or (month_lengths leap) k 0) × (get_or (month_lengths leap) k 0 ≤ 31)
unfolding month_lengths
lengths true k h = length_at (month_lengths true) (omega arith) k h
lengths false k h = length_at (month_lengths false) (omega arith) k h

-- a month has 28 to 31 days
pub days : (m : ℕ) → (28 ≤ days_in_month m) × (days_in_month m ≤ 31)
unfolding days_in_month
days m = lengths (is_leap_year (year_of m)) (m % 12) (omega arith)

pub start_zero : month_start 0 ≡ first_day
unfolding month_start
start_zero = refl

pub start_suc : (m : ℕ) → month_start (suc m) ≡ month_start m + days_in_month m
unfolding month_start
start_suc m = refl

pub start_next : (m : ℕ) → month_start (m + 1) ≡ month_start m + days_in_month m
start_next m = ap month_start (add-one m) ∙ start_suc m

pub start_last : month_start last_month ≡ end_day
start_last = sym (closed_form {m = last_month} (omega arith))

-- k months after month m, 28 to 31 days each
pub start_add : (m k : ℕ) → (month_start m + 28 * k ≤ month_start (m + k)) × (month_start (m + k) ≤ month_start m + 31 * k)
start_add m zero = omega (arith, ap month_start (add-zero m))
start_add m (suc k) =
    omega (arith, start_add m k, days (m + k), ap month_start (add-suc m k), start_suc (m + k))

-- a later month starts at least 28 days later
pub start_rises : {a b : ℕ} → a < b → month_start a + 28 ≤ month_start b
start_rises {a} {b} h =
    let s : a + (b - a) ≡ b = omega arith in
    omega (arith, start_add a (b - a), ap month_start s)

pub start_lt : {a b : ℕ} → a < b → month_start a < month_start b
start_lt h = omega (arith, start_rises h)

pub start_le : {a b : ℕ} → a ≤ b → month_start a ≤ month_start b
start_le {a} {b} h =
    elim (dec_lt a b) [
      | yes l ↦ omega (arith, start_rises l)
      | no l ↦ let e : a ≡ b = omega arith in omega (arith, ap month_start e)
    ]

pub start_from : (m : ℕ) → first_day ≤ month_start m
start_from m = let h : 0 ≤ m = omega arith in omega (arith, start_zero, start_le h)

pub start_to : {m : ℕ} → m ≤ last_month → month_start m ≤ end_day
start_to h = omega (arith, start_last, start_le h)

-- a month up to 2400 is not cut
pub start_min : {m : ℕ} → m ≤ last_month → month_start (min m last_month) ≡ month_start m
start_min h = ap month_start (omega arith)

-- ---- the month that a day lies in

-- of a day in month m: a month that has started by then is m or an earlier one, and one that has not is later
pub started : {d m : ℕ} (k : ℕ) → InMonth d m → month_start k ≤ d → k ≤ m
started {d} {m} k i h =
    elim (dec_lt m k) [ yes l ↦ let n : m + 1 ≤ k = omega arith in absurd (omega (arith, start_le n)) | no l ↦ omega arith ]

pub not_started : {d m : ℕ} (k : ℕ) → InMonth d m → d < month_start k → m < k
not_started {d} {m} k i h =
    elim (dec_lt m k) [ yes l ↦ l | no l ↦ let n : k ≤ m = omega arith in absurd (omega (arith, start_le n)) ]

-- a day lies in one month only
pub same_month : {d m n : ℕ} → InMonth d m → InMonth d n → m ≡ n
same_month {d} {m} {n} i j = omega (arith, started m j i.from, started n i j.from)

-- a later day lies in the same month or a later one
pub month_mono : {c d m n : ℕ} → c ≤ d → InMonth c m → InMonth d n → m ≤ n
month_mono {c} {d} {m} h i j = started m j (omega arith)

-- the first day of a month, and its last
pub first_in : (m : ℕ) → InMonth (month_start m) m
first_in m = record { from = omega arith; before = omega (arith, start_next m, days m) }

pub last_in : (d m : ℕ) → d + 1 ≡ month_start (m + 1) → InMonth d m
last_in d m e = record { from = omega (arith, start_next m, days m); before = omega arith }

-- a day that lies in a month below 2400 has that month
pub is_month : {d m : ℕ} → m < last_month → InMonth d m → month_of d ≡ m
unfolding month_of
is_month {d} {m} h i =
    greatest_is record {
      within = omega arith;
      passes = le-leb (month_start m) d i.from;
      above = λ j a b. lt-leb (month_start j) d (omega (arith, start_le {a = m + 1} {b = j} (omega arith)));
    }

-- a day from 1 January 1972 to 31 December 2171 lies in its month
pub in_month : {d : ℕ} → first_day ≤ d → d < end_day → InMonth d (month_of d)
unfolding month_of
in_month {d} p q =
    let m = month_of d in
    let g = greatest_found (λ m. leb (month_start m) d) last_month 0 (omega arith) (le-leb (month_start 0) d (omega (arith, start_zero))) in
    let f = leb-true (month_start m) d g.passes in
    record {
      from = f;
      before =
          elim (dec_lt m last_month) [
            | yes l ↦ leb-false (month_start (m + 1)) d (g.above (m + 1) (omega arith) (omega arith))
            | no l ↦ let e : m ≡ last_month = omega (arith, g.within) in absurd (omega (arith, ap month_start e, start_last))
          ];
    }

-- the month of such a day is below 2400
pub month_below : {d : ℕ} → first_day ≤ d → d < end_day → month_of d < last_month
month_below p q = not_started last_month (in_month p q) (omega (arith, start_last))

-- from the start of month 2400 on the month is 2400
pub late_month : {d : ℕ} → end_day ≤ d → month_of d ≡ last_month
unfolding month_of
late_month {d} h =
    greatest_is record {
      within = omega arith;
      passes = le-leb (month_start last_month) d (omega (arith, start_last));
      above = λ j a b. absurd (omega arith);
    }

-- before 1972 it is 0, since none has started
pub early_month : {d : ℕ} → d < first_day → month_of d ≡ 0
unfolding month_of
early_month {d} h = greatest_none (λ m. leb (month_start m) d) last_month (λ j. lt-leb (month_start j) d (omega (arith, start_from j)))

-- it is at most 2400
pub month_most : (d : ℕ) → month_of d ≤ last_month
unfolding month_of
month_most d = greatest_within (λ m. leb (month_start m) d) last_month

-- the month of a day from 1972 on has started by then
pub month_started : (d : ℕ) → first_day ≤ d → month_start (month_of d) ≤ d
month_started d h =
    elim (dec_lt d end_day) [
      | yes l ↦ (in_month h l).from
      | no l ↦ let e : end_day ≤ d = omega arith in omega (arith, start_last, ap month_start (late_month e))
    ]

-- the month of a month's first day is that month
pub month_of_start : {m : ℕ} → m ≤ last_month → month_of (month_start m) ≡ m
month_of_start {m} h =
    elim (dec_lt m last_month) [
      | yes l ↦ is_month l (first_in m)
      | no l ↦
          let e : m ≡ last_month = omega arith in
          late_month (omega (arith, start_last, ap month_start e)) ∙ sym e
    ]

-- ---- first days

-- a month starts on its first day
pub starts_month_lem : {m : ℕ} → m ≤ last_month → starts_month (month_start m) ≡ true
unfolding starts_month
starts_month_lem {m} h = eq-eqb (month_start (month_of (month_start m))) (month_start m) (ap month_start (month_of_start h))

-- a first day is that of its month
pub first_of : {d : ℕ} → starts_month d ≡ true → month_start (month_of d) ≡ d
unfolding starts_month
first_of {d} e = eqb-true (month_start (month_of d)) d e

-- past the calendar there is none
pub first_past : {d : ℕ} → end_day < d → starts_month d ≡ false
unfolding starts_month
first_past {d} h = ne_eqb (month_start (month_of d)) d (λ e. omega (arith, start_to (month_most d)))

-- and no month starts on another day
pub no_start : {d : ℕ} → starts_month d ≡ false → (m : ℕ) → m ≤ last_month → (month_start m ≡ d → ⊥)
unfolding starts_month
no_start {d} e m h z = eqb-false (month_start (month_of d)) d e (ap month_start (ap month_of (sym z) ∙ month_of_start h) ∙ z)

-- ---- the lookup's three answers

pub at_early : {d : ℕ} → d < first_day → month_at d ≡ answer.refused before1972
unfolding month_at
at_early {d} h = simp (lt-leb first_day d h)

pub at_late : {d : ℕ} → end_day ≤ d → month_at d ≡ answer.refused not_known
unfolding month_at
at_late {d} h = simp (le-leb first_day d (omega arith), le-ltb d end_day h)

pub at_given : {d : ℕ} → first_day ≤ d → d < end_day → month_at d ≡ answer.given (month_of d)
unfolding month_at
at_given {d} p q = simp (le-leb first_day d p, lt-ltb d end_day q)

-- the answer r about day d is one of the three
pub data Answer (d : ℕ) (r : answer.Answer ℕ) : Type 0 where
  early : d < first_day → r ≡ answer.refused before1972 → Answer d r
  late : end_day ≤ d → r ≡ answer.refused not_known → Answer d r
  given : first_day ≤ d → d < end_day → r ≡ answer.given (month_of d) → Answer d r

-- whoever has the lookup's answer knows which of the three it is
pub answered : {d : ℕ} {r : answer.Answer ℕ} → r ≡ month_at d → Answer d r
answered {d} e =
    elim (dec_lt d first_day) [
      | yes l ↦ early l (e ∙ at_early l)
      | no l ↦
          let p : first_day ≤ d = omega arith in
          elim (dec_lt d end_day) [
            | yes q ↦ given p q (e ∙ at_given p q)
            | no q ↦ let h : end_day ≤ d = omega arith in late h (e ∙ at_late h)
          ]
    ]
