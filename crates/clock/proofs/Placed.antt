-- Leaps in their order: how many are in effect on a day, and how it ends.
-- Assumes nothing.
use mathlib.Core.Bool.{true}
use mathlib.Core.List.{List, [], ◌∷◌}
use mathlib.Core.Logic.{⊎_elim, ◌≢◌}
use mathlib.Core.Path.{◌≡◌, refl}
use Prim.Native.Nat.{ℕ, zero, suc, ◌+◌, ◌≤◌, ◌<◌}
use native.Mathlib.Decide.{dec_lt}
use native.Mathlib.Nat.{not-suc-le-zero, le_of_suc-le-suc, eq-or-lt_of_le}
use native.Mathlib.Omega.{arith}
use lib.ListN.{length, get_or}
use borrow.Author.Tests.{ne_eqb, eq-eqb}
use Rattle.calendar.specs.Calendar.{month_start}
use Rattle.calendar.proofs.Laws.{start_lt}
use Rattle.schedule.specs.declared.Leap.{Leap}
use Rattle.schedule.specs.Schedule.{Schedule, no_leap, gaps_fit, well_formed}
use Rattle.schedule.proofs.Gaps.{fits_lt, first, later, parts}
use Rattle.clock.specs.declared.Ending.TheVariants.{Ordinary}
use Rattle.clock.specs.Days.{ending_of, ending_before, ending}

-- ---- leaps in their order

-- the month of a leap
abbrev pub leap_month : List Leap → ℕ → ℕ
leap_month ls i = (get_or ls i no_leap).month

after_from : (ls : List Leap) (from expiry : ℕ) → gaps_fit from ls expiry ≡ true → (i : ℕ) → i < length ls → from < leap_month ls i
after_from [] from expiry f i h = absurd (not-suc-le-zero h)
after_from (l ∷ ls) from expiry f zero h = fits_lt from l.month (first from l ls expiry f)
after_from (l ∷ ls) from expiry f (suc i) h =
    omega (arith, fits_lt from l.month (first from l ls expiry f), after_from ls l.month expiry (later from l ls expiry f) i (le_of_suc-le-suc h))

pub in_order : (ls : List Leap) (from expiry : ℕ) → gaps_fit from ls expiry ≡ true → (i j : ℕ) → i < j → j < length ls → leap_month ls i < leap_month ls j
in_order [] from expiry f i j l h = absurd (not-suc-le-zero h)
in_order (x ∷ ls) from expiry f i zero l h = absurd (not-suc-le-zero l)
in_order (x ∷ ls) from expiry f zero (suc j) l h = after_from ls x.month expiry (later from x ls expiry f) j (le_of_suc-le-suc h)
in_order (x ∷ ls) from expiry f (suc i) (suc j) l h = in_order ls x.month expiry (later from x ls expiry f) i j (le_of_suc-le-suc l) (le_of_suc-le-suc h)

-- ---- the leaps in effect on a day

-- on a day the first n leaps are in effect, and the next one is not
pub record Placed (ls : List Leap) (day n : ℕ) : Type 0 where
  pub room : n ≤ length ls
  pub begun : (i : ℕ) → i < n → month_start (leap_month ls i) ≤ day
  pub not_begun : n < length ls → day < month_start (leap_month ls n)

-- ---- how the day ends

-- the day before none of the leaps takes effect ends as usual
pub ending_usual : (ls : List Leap) (next : ℕ) → ((i : ℕ) → i < length ls → month_start (leap_month ls i) ≢ next) → ending_before ls next ≡ Ordinary
ending_usual [] next h = refl
ending_usual (l ∷ ls) next h =
    rw (ne_eqb (month_start l.month) next (h 0 (omega arith))) (ending_usual ls next (λ i k. h (suc i) (omega arith)))

-- the day before one does ends with it
ending_at : (ls : List Leap) (from expiry : ℕ) → gaps_fit from ls expiry ≡ true → (n : ℕ) → n < length ls
    → ending_before ls (month_start (leap_month ls n)) ≡ ending_of (get_or ls n no_leap).sign
ending_at [] from expiry f n h = absurd (not-suc-le-zero h)
ending_at (l ∷ ls) from expiry f zero h = rw (eq-eqb (month_start l.month) (month_start l.month) refl)
ending_at (l ∷ ls) from expiry f (suc n) h =
    let rest = later from l ls expiry f in
    let rise = start_lt (after_from ls l.month expiry rest n (le_of_suc-le-suc h)) in
    rw (ne_eqb (month_start l.month) (month_start (leap_month ls n)) (λ e. omega arith)) (ending_at ls l.month expiry rest n (le_of_suc-le-suc h))

-- of the leaps on a day only the next one can take effect on the next day
pub ending_same : (s : Schedule) → well_formed s ≡ true → {day n : ℕ} → Placed s.leaps day n
    → (n < length s.leaps → month_start (leap_month s.leaps n) ≡ day + 1 → ⊥) → ending s day ≡ Ordinary
ending_same s w {day} {n} p ne = ending_usual s.leaps (day + 1) other
  where
    other : (i : ℕ) → i < length s.leaps → month_start (leap_month s.leaps i) ≢ day + 1
    other i h e =
        elim (dec_lt i n) [
          | yes l ↦ omega (arith, p.begun i l)
          | no l ↦
              let o : n ≤ i = omega arith in
              ⊎_elim (λ (z : n ≡ i). ne (omega arith) (rw z e))
              (λ (k : n < i).
              omega (arith, p.not_begun (omega arith), start_lt (in_order s.leaps 0 s.expiry (parts s w).gaps n i k h)))
              (eq-or-lt_of_le o)
        ]

pub ending_next : (s : Schedule) → well_formed s ≡ true → (day n : ℕ) → n < length s.leaps → month_start (leap_month s.leaps n) ≡ day + 1
    → ending s day ≡ ending_of (get_or s.leaps n no_leap).sign
ending_next s w day n h e = rw (← e) (ending_at s.leaps 0 s.expiry (parts s w).gaps n h)
