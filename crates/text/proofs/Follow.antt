-- Which digits may follow those of a gap: exactly those that make it 1 to 999.
-- Assumes nothing.
use mathlib.Core.Path.{◌≡◌, refl, sym}
use mathlib.Core.Bool.{Bool, true, false, not, and-eq-true_iff}
use Prim.Native.Nat.{ℕ, ◌+◌, ◌*◌, ◌≤◌, ◌<◌}
use native.Mathlib.Nat.{pos_of_ne-zero}
use native.Mathlib.Omega.{arith}
use lib.Arith.{lt_of_le-ne}
use lib.Dec.{leb, ltb, eqb}
use borrow.Author.Tests.{leb-true, ltb-true, eqb-true, eqb-false, lt-ltb, le-ltb, eq-eqb, ne_eqb}
use Rattle.schedule.proofs.Cases.{by_bool}
use Rattle.text.specs.Bytes.{zero_byte, nine_byte, is_digit, digit_of}
use Rattle.text.specs.Read.{may_follow}

-- a digit is at least "0" and at most "9"
pub digit_low : (b : ℕ) → is_digit b ≡ true → zero_byte ≤ b
digit_low b h = leb-true zero_byte b ((and-eq-true_iff (leb zero_byte b) (leb b nine_byte)).0 h).0

pub digit_high : (b : ℕ) → is_digit b ≡ true → b ≤ nine_byte
digit_high b h = leb-true b nine_byte ((and-eq-true_iff (leb zero_byte b) (leb b nine_byte)).0 h).1

not-true : (b : Bool) → not b ≡ true → b ≡ false
not-true true h = sym h
not-true false h = refl

module _ (g b : ℕ) (d : is_digit b ≡ true) where
  -- a "0" where a gap starts
  pub leading_zero : g * 10 + digit_of b ≡ 0 → may_follow g b ≡ false
  leading_zero h =
      let low = digit_low b d in
      simp (eq-eqb g 0 (omega arith), eq-eqb b zero_byte (omega arith))

  -- a fourth digit
  pub fourth_digit : 999 < g * 10 + digit_of b → may_follow g b ≡ false
  fourth_digit h =
      let high = digit_high b d in
      simp (ne_eqb g 0 (λ e. omega arith), le-ltb g 100 (omega arith))

  pub follows : (g * 10 + digit_of b ≡ 0 → ⊥) → g * 10 + digit_of b ≤ 999 → may_follow g b ≡ true
  follows z h =
      by_bool (eqb g 0)
      (λ e. let n = eqb-true g 0 e in
      simp (e, ne_eqb b zero_byte (λ k. z (omega arith))))
      (λ e. simp (e, lt-ltb g 100 (omega arith)))

  pub makes_gap : may_follow g b ≡ true → (0 < g * 10 + digit_of b) × (g * 10 + digit_of b ≤ 999)
  makes_gap h =
      let low = digit_low b d in
      let high = digit_high b d in
      by_bool (eqb g 0)
      (λ e.
      let n = eqb-true g 0 e in
      let k₀ : not (eqb b zero_byte) ≡ true = simp e at h in
      let m : zero_byte < b = lt_of_le-ne low (λ k. eqb-false b zero_byte (not-true (eqb b zero_byte) k₀) (sym k)) in
      (omega arith, omega arith))
      (λ e.
      let n : 0 < g = pos_of_ne-zero (eqb-false g 0 e) in
      let k : ltb g 100 ≡ true = simp e at h in
      let l = ltb-true g 100 k in
      (omega arith, omega arith))
