-- Integers in decimal are read back. Assumes nothing.
use mathlib.Core.Path.{◌≡◌, refl, ap, ◌∙◌}
use mathlib.Core.Bool.{true, and-eq-true_iff}
use mathlib.Core.List.{List, [], ◌∷◌}
use Prim.Native.Nat.{ℕ, suc}
use native.Mathlib.Omega.{arith}
use lib.IntN.{ℤ, pos, negsuc}
use borrow.Author.Tests.{ne_eqb}
use Rattle.ascii.specs.Ascii.{zero_byte, nine_byte, plus_byte, minus_byte}
use Rattle.ascii.specs.Decimal.{decimal, signed, with_sign, is_digit, all_digits, value_after, integer_of}
use Rattle.ascii.proofs.Bytes.{within_is}
use Rattle.ascii.proofs.Digits.{value_of, are_digits}

-- digits alone are no integer below zero
without_sign : (field : List ℕ) → all_digits field ≡ true → integer_of field ≡ pos (value_after 0 field)
unfolding all_digits integer_of value_after
without_sign [] d = refl
without_sign (b ∷ bs) d =
    let a = (and-eq-true_iff (is_digit b) (all_digits bs)).0 d in
    let h = within_is zero_byte nine_byte b a.0 in
    simp (ne_eqb b minus_byte (λ e. omega (arith, h.0)), ne_eqb b plus_byte (λ e. omega (arith, h.0)))

below_zero : (n : ℕ) → integer_of (minus_byte ∷ decimal (suc n)) ≡ negsuc n
unfolding integer_of
below_zero n = rw (value_of (suc n))

-- an integer is read back from its decimal, with the sign of every one or of those below zero only
pub signed_back : (z : ℤ) → (integer_of (signed z) ≡ z) × (integer_of (with_sign z) ≡ z)
unfolding integer_of
signed_back (pos n) = (without_sign (decimal n) (are_digits n) ∙ ap pos (value_of n), ap pos (value_of n))
signed_back (negsuc n) = (below_zero n, below_zero n)
