-- How much room a text list needs: LEAP_TEXT_ROOM of include/leap.h, and that one needs all of it.
-- Assumes nothing.
use Rattle.std.proofs.Common.{◌≡◌, ℕ, zero, suc, ◌+◌, ◌-◌, ◌*◌, ◌<◌, ◌≤◌, true, List, [], ◌∷◌, ◌++◌, length, refl, ap, ◌∙◌, arith, length-append}
use native.Mathlib.Decide.{dec_lt}
use Rattle.ascii.specs.Decimal.{decimal}
use Rattle.ascii.proofs.Digits.{small, two_digits}
use Rattle.calendar.proofs.Laws.{month_most}
use Rattle.schedule.specs.declared.Leap.{Leap}
use Rattle.schedule.specs.Schedule.{Schedule, end_day, month_of, gaps_fit, well_formed}
use Rattle.schedule.specs.declared.Sign.TheVariants.{Positive}
use Rattle.schedule.specs.Answers.{Reading}
use Rattle.schedule.proofs.ByNumber.{reached}
use Rattle.schedule.proofs.Gaps.{fits_lt, expiry_after, last_fits, first, later, parts}
use Rattle.text.specs.Rules.{gap, SoFar, start, then_gap, then_sign, plus, list}
use Rattle.text.specs.Write.{digits, text_from, text_of}
use Rattle.text.proofs.Digits.{one, two, few}
use Rattle.text.proofs.Faults.{list_taken}
use Rattle.text.proofs.Sound.{accepted_well_formed}
use Rattle.text.proofs.Spelling.{one_spelling}

-- a digit more takes a gap that is at least 9 months longer
nine_months : (g : ℕ) → (9 * length (digits g) ≤ g + 9) × (1 ≤ g → 9 * length (digits g) ≤ g + 8)
nine_months g =
    elim (dec_lt g 10) [
      | yes a ↦ let n = ap length (one g a) in (omega arith, λ p. omega arith)
      | no a ↦
          elim (dec_lt g 100) [
            | yes b ↦ let n = ap length (two g (omega arith) b) in (omega arith, λ p. omega arith)
            | no b ↦ let n = few g in (omega arith, λ p. omega arith)
          ]
    ]

-- so nine times the bytes are no more than the months, and 17 for each gap with its mark; a last gap of 0, which is not written, has 18
from_short : (ls : List Leap) (from expiry : ℕ) → gaps_fit from ls expiry ≡ true → expiry ≤ end_day
    → 9 * length (text_from from ls (month_of expiry)) + from ≤ month_of expiry + (17 * length ls + 18)
unfolding text_from
from_short [] from expiry f end =
    let g = last_fits from expiry f in
    let a = (nine_months (month_of expiry - from)).0 in
    let m = reached expiry end from (omega (arith, expiry_after from expiry g)) in
    simp length-append (omega arith)
from_short (l ∷ ls) from expiry f end =
    let g = first from l ls expiry f in
    let a = (nine_months (l.month - from)).1 (omega (arith, fits_lt from l.month g)) in
    let i = from_short ls l.month expiry (later from l ls expiry f) end in
    simp length-append (omega (arith, fits_lt from l.month g))

-- the text of a well-formed schedule has at most 752 bytes
pub at_most_752 : (s : Schedule) → well_formed s ≡ true → length (text_of s) ≤ 752
unfolding text_of
at_most_752 s w =
    let i = from_short s.leaps 0 s.expiry (parts s w).gaps (parts s w).end in
    omega (arith, (parts s w).room, month_most s.expiry)

-- ---- a list that has all of them: 19 gaps of 1 month and 238 of 10

-- bytes that are a list so far, as long as that, with so many months and leaps
record SoMany (size months leaps : ℕ) : Type 0 where
  bytes : List ℕ
  its_leaps : List Leap
  so_far : SoFar gap bytes months its_leaps
  its_size : length bytes ≡ size
  count : length its_leaps ≡ leaps

-- one more gap of g months, which has k digits, with a "+"
one_more : {size months leaps size' months' leaps' : ℕ} → SoMany size months leaps → (g k : ℕ) → 1 ≤ g → g ≤ 999 → length (decimal g) ≡ k → months' ≤ 2400 → leaps < 256
    → size' ≡ size + (k + 1) → months' ≡ months + g → leaps' ≡ leaps + 1 → SoMany size' months' leaps'
one_more {months} m g k low high e few room s n l =
    let whole = then_sign (then_gap m.so_far g low high) (omega arith) (omega (arith, m.count)) 43 Positive plus in
    let a = length-append m.bytes (decimal g) in
    let b = length-append (m.bytes ++ decimal g) (43 ∷ []) in
    let c = length-append m.its_leaps (record { month = months + g; sign = Positive } ∷ []) in
    rw n (record { bytes = _; its_leaps = _; so_far = whole; its_size = omega (arith, m.its_size); count = omega (arith, m.count) })

ones : (n : ℕ) → n ≤ 19 → SoMany (n * 2) n n
ones zero h = record { bytes = []; its_leaps = []; so_far = start; its_size = refl; count = refl }
ones (suc n) h = one_more (ones n (omega arith)) 1 1 (omega arith) (omega arith) (ap length (small 1 (omega arith))) (omega arith) (omega arith) (omega arith) (omega arith) (omega arith)

ten_long : length (decimal 10) ≡ 2
ten_long = ap length (two_digits 10 (omega arith) (omega arith))

tens : (n : ℕ) → n ≤ 237 → SoMany (38 + n * 3) (19 + n * 10) (19 + n)
tens zero h = ones 19 (omega arith)
tens (suc n) h = one_more (tens n (omega arith)) 10 2 (omega arith) (omega arith) ten_long (omega arith) (omega arith) (omega arith) (omega arith) (omega arith)

-- some list has a text of 752 bytes
pub needs_752 : (s : Schedule) × (well_formed s ≡ true) × (length (text_of s) ≡ 752)
needs_752 =
    let m = tens 237 (omega arith) in
    let l = list (then_gap m.so_far 10 (omega arith) (omega arith)) (omega arith) in
    let read = list_taken l in
    let accepted = ap (λ (r : Reading). r.number) read in
    let its_schedule = ap (λ (r : Reading). r.schedule) read in
    let a = length-append m.bytes (decimal 10) in
    let b = length-append (m.bytes ++ decimal 10) (63 ∷ []) in
    let c = ten_long in
    (_, rw its_schedule at (accepted_well_formed _ accepted), ap length (rw its_schedule at (one_spelling _ accepted)) ∙ omega (arith, m.its_size))
