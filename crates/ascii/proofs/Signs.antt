-- An integer in decimal, by whether it is below zero.
-- Assumes nothing.
use mathlib.Core.Path.{◌≡◌, refl, ap, ◌∙◌}
use mathlib.Core.Bool.{true, false, true≢false}
use mathlib.Core.List.{◌∷◌}
use Prim.Native.Nat.{ℕ}
use native.Mathlib.Omega.{arith}
use borrow.Author.Tests.{ltb-true}
use lib.IntN.{ℤ, pos, negsuc, nat_abs}
use lib.Signed.{lt_z}
use mir.Syntax.{w32}
use mir.Val.{SFits, to_z, of_z}
use mir.ValLaws.{to_z-of_z}
use Rattle.ascii.specs.Ascii.{plus_byte, minus_byte}
use Rattle.ascii.specs.Decimal.{decimal, signed, with_sign}

signed_below : (z : ℤ) → lt_z z (pos 0) ≡ true → (signed z ≡ minus_byte ∷ decimal (nat_abs z)) × (with_sign z ≡ minus_byte ∷ decimal (nat_abs z))
signed_below (pos n) h = absurd (omega (arith, ltb-true n 0 h))
signed_below (negsuc n) h = (refl, refl)

signed_above : (z : ℤ) → lt_z z (pos 0) ≡ false → (signed z ≡ decimal (nat_abs z)) × (with_sign z ≡ plus_byte ∷ decimal (nat_abs z))
signed_above (pos n) h = (refl, refl)
signed_above (negsuc n) h = absurd (true≢false h)

-- by the machine's test, where n is how far the integer is from zero
module _ {z : ℤ} (f : SFits w32 z) {n : ℕ} (e : n ≡ nat_abs (to_z w32 (of_z w32 z))) where
  size : n ≡ nat_abs z
  size = e ∙ ap nat_abs (to_z-of_z w32 z f)

  pub is_below : lt_z (to_z w32 (of_z w32 z)) (pos 0) ≡ true → (signed z ≡ minus_byte ∷ decimal n) × (with_sign z ≡ minus_byte ∷ decimal n)
  is_below h = rw size (signed_below z (rw (to_z-of_z w32 z f) at h))

  pub is_above : lt_z (to_z w32 (of_z w32 z)) (pos 0) ≡ false → (signed z ≡ decimal n) × (with_sign z ≡ plus_byte ∷ decimal n)
  is_above h = rw size (signed_above z (rw (to_z-of_z w32 z f) at h))
