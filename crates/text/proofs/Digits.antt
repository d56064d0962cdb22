-- The digits of a gap, by how many there are.
-- Assumes nothing.
use mathlib.Core.Path.{◌≡◌, sym, ap, ◌∙◌}
use mathlib.Core.List.{[], ◌∷◌}
use Prim.Native.Nat.{ℕ, ◌+◌, ◌/◌, ◌%◌, ◌≤◌, ◌<◌}
use native.Mathlib.Omega.{arith}
use lib.Dec.{ltb}
use lib.ListN.{length}
use borrow.Author.Tests.{ltb-true, ltb-false, lt-ltb, le-ltb}
use Rattle.ascii.specs.Decimal.{decimal}
use Rattle.ascii.proofs.Digits.{small, large, two_digits}
use Rattle.schedule.proofs.Cases.{by_bool}
use Rattle.text.specs.Write.{digits}

pub one : (g : ℕ) → g < 10 → digits g ≡ (48 + g) ∷ []
unfolding digits
one g h = simp (lt-ltb g 10 h)

pub two : (g : ℕ) → 10 ≤ g → g < 100 → digits g ≡ (48 + g / 10) ∷ (48 + g % 10) ∷ []
unfolding digits
two g l h = simp (le-ltb g 10 l, lt-ltb g 100 h)

pub three : (g : ℕ) → 100 ≤ g → digits g ≡ (48 + g / 100) ∷ (48 + g / 10 % 10) ∷ (48 + g % 10) ∷ []
unfolding digits
three g l = simp (le-ltb g 10 (omega arith), le-ltb g 100 l)

-- at most three
pub few : (g : ℕ) → length (digits g) ≤ 3
few g =
    by_bool (ltb g 10) (λ a. omega (arith, ap length (one g (ltb-true g 10 a))))
    (λ a. by_bool (ltb g 100) (λ b. omega (arith, ap length (two g (ltb-false g 10 a) (ltb-true g 100 b))))
    (λ b. omega (arith, ap length (three g (ltb-false g 100 b)))))

-- they are the number in decimal
pub in_decimal : (g : ℕ) → g ≤ 999 → decimal g ≡ digits g
in_decimal g h =
    by_bool (ltb g 10) (λ a. let b = ltb-true g 10 a in small g b ∙ sym (one g b))
    (λ a. let b = ltb-false g 10 a in
    by_bool (ltb g 100)
    (λ c. let d = ltb-true g 100 c in
    let tenth : g / 10 % 10 ≡ g / 10 = omega arith in
    two_digits g b d ∙ rw tenth (sym (two g b d)))
    (λ c. let d = ltb-false g 100 c in
    let tenth : g / 10 / 10 % 10 ≡ g / 100 = omega arith in
    large g b ∙ rw (two_digits (g / 10) (omega arith) (omega arith), tenth) (sym (three g d))))
