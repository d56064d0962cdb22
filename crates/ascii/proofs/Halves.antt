-- Hex read and written: what is left at a place, and that hex reads back as the bytes that it was written from.
-- Assumes nothing.
use mathlib.Core.Path.{◌≡◌, refl}
use mathlib.Core.Logic.{◌⊎◌, inl, inr}
use mathlib.Core.Bool.{true, false, ◌||◌}
use mathlib.Core.List.{List, [], ◌∷◌, ◌++◌}
use Prim.Native.Nat.{ℕ, ◌+◌, ◌-◌, ◌*◌, ◌/◌, ◌%◌, ◌≤◌, ◌<◌}
use native.Mathlib.Omega.{arith}
use lib.Dec.{ltb, leb}
use borrow.Author.Tests.{ltb-true, ltb-false, le-leb, lt-leb, eq-eqb}
use lib.ListN.{length, get_or, drop, drop_of_length-le}
use Rattle.std.specs.List.{list_all}
use Rattle.ascii.specs.Ascii.{within, zero_byte, nine_byte, low_a, low_f, high_a, high_f}
use Rattle.ascii.specs.Decimal.{is_digit}
use Rattle.ascii.specs.Hex.{hex_digit, hex, is_low, is_high, is_hex_digit, nybble_of, all_hex_digits, is_hex, unhex}
use Rattle.ascii.proofs.Cases.{by_bool}
use Rattle.ascii.proofs.Lists.{uncons}

-- ---- the classes of a byte

-- a hex digit by the machine's test, which asks for upper case first
pub hex_digit_is : (b : ℕ) → (is_digit b || is_high b) || is_low b ≡ is_hex_digit b
hex_digit_is b =
    by_bool (is_digit b) (λ d. simp d)
    (λ d. by_bool (is_low b) (λ l. by_bool (is_high b) (λ h. simp (d, l, h)) (λ h. simp (d, l, h))) (λ l. by_bool (is_high b) (λ h. simp (d, l, h)) (λ h. simp (d, l, h))))

module _ (b : ℕ) where
  pub digit_nybble : zero_byte ≤ b → b ≤ nine_byte → nybble_of b ≡ b - zero_byte
  unfolding nybble_of within
  digit_nybble h g = simp (le-leb zero_byte b h, le-leb b nine_byte g)

  pub low_nybble : low_a ≤ b → b ≤ low_f → nybble_of b ≡ b - low_a + 10
  unfolding nybble_of within
  low_nybble h g = simp (le-leb zero_byte b (omega arith), lt-leb b nine_byte (omega arith), le-leb low_a b h, le-leb b low_f g)

  pub high_nybble : high_a ≤ b → b ≤ high_f → nybble_of b ≡ b - high_a + 10
  unfolding nybble_of within
  high_nybble h g = simp (le-leb zero_byte b (omega arith), lt-leb b nine_byte (omega arith), lt-leb low_a b (omega arith), le-leb high_a b h, le-leb b high_f g)

  -- a byte of none of the three ranges
  outside : (first last : ℕ) → (b < first) ⊎ (last < b) → within first last b ≡ false
  unfolding within
  outside first last (inl h) = simp (lt-leb first b h)
  outside first last (inr h) = by_bool (leb first b) (λ e. simp (e, lt-leb b last h)) (λ e. simp e)

  pub no_nybble : (b < zero_byte) ⊎ (nine_byte < b) → (b < high_a) ⊎ (high_f < b) → (b < low_a) ⊎ (low_f < b) → nybble_of b ≡ 0
  unfolding nybble_of
  no_nybble d h l = simp (outside zero_byte nine_byte d, outside low_a low_f l, outside high_a high_f h)

module _ (bytes : List ℕ) (i : ℕ) where
  pub hex_more : i < length bytes → hex (drop i bytes) ≡ (hex_digit (get_or bytes i 0 / 16) ∷ hex_digit (get_or bytes i 0 % 16) ∷ []) ++ hex (drop (i + 1) bytes)
  unfolding hex
  hex_more h = rw (uncons bytes i h)

  pub hex_end : length bytes ≤ i → hex (drop i bytes) ≡ []
  unfolding hex
  hex_end h = rw (drop_of_length-le bytes h)

-- two digits are a byte, and fewer are none
pub unhex_more : (rest two others : List ℕ) → rest ≡ two ++ others → length two ≡ 2
    → unhex rest ≡ ((nybble_of (get_or two 0 0) * 16 + nybble_of (get_or two 1 0)) ∷ []) ++ unhex others
unfolding unhex
unhex_more rest [] others e h = absurd (omega (arith, h))
unhex_more rest (a ∷ []) others e h = absurd (omega (arith, h))
unhex_more rest (a ∷ b ∷ []) others e h = rw e
unhex_more rest (a ∷ b ∷ c ∷ cs) others e h = absurd (omega (arith, h))

pub unhex_end : (rest : List ℕ) → length rest ≤ 1 → unhex rest ≡ []
unfolding unhex
unhex_end [] h = refl
unhex_end (a ∷ []) h = refl
unhex_end (a ∷ b ∷ bs) h = absurd (omega arith)

-- the test of all of them
pub all_are : (bytes : List ℕ) → list_all is_hex_digit bytes ≡ all_hex_digits bytes
unfolding all_hex_digits
all_are [] = refl
all_are (b ∷ bs) = rw (all_are bs)

-- ---- hex is read back as the bytes

module _ (d : ℕ) (h : d < 16) where
  digit_back : (is_hex_digit (hex_digit d) ≡ true) × (nybble_of (hex_digit d) ≡ d)
  unfolding nybble_of within
  digit_back =
      by_bool (ltb d 10)
      (λ a. let b = ltb-true d 10 a in
      simp (a, le-leb 48 (48 + d) (omega arith), le-leb (48 + d) 57 (omega arith)) (refl, omega arith))
      (λ a. let b = ltb-false d 10 a in
      let e : 97 + (d - 10) ≡ 87 + d = omega arith in
      simp (a, e, lt-leb (87 + d) 57 (omega arith), le-leb 97 (87 + d) (omega arith), le-leb (87 + d) 102 (omega arith), le-leb 48 (87 + d) (omega arith))
      (refl, omega arith))

-- all are below 256
abbrev pub AreBytes : List ℕ → Type 0
AreBytes [] = Unit {0}
AreBytes (b ∷ bs) = (b < 256) × AreBytes bs

unhex_hex : (bytes : List ℕ) → AreBytes bytes → unhex (hex bytes) ≡ bytes
unfolding hex unhex
unhex_hex [] h = refl
unhex_hex (b ∷ bs) h =
    let e : b / 16 * 16 + b % 16 ≡ b = omega arith in
    rw ((digit_back (b / 16) (omega (arith, h.0))).1, (digit_back (b % 16) (omega arith)).1, e, unhex_hex bs h.1)

hex_digits : (bytes : List ℕ) → AreBytes bytes → all_hex_digits (hex bytes) ≡ true
unfolding hex all_hex_digits
hex_digits [] h = refl
hex_digits (b ∷ bs) h = simp ((digit_back (b / 16) (omega (arith, h.0))).0, (digit_back (b % 16) (omega arith)).0, hex_digits bs h.1)

pub hex_length : (bytes : List ℕ) → length (hex bytes) ≡ 2 * length bytes
unfolding hex
hex_length [] = refl
hex_length (b ∷ bs) = omega (arith, hex_length bs)

-- the hex of bytes is hex, and stands for those bytes
pub hex_back : (bytes : List ℕ) → AreBytes bytes → (is_hex (hex bytes) ≡ true) × (unhex (hex bytes) ≡ bytes)
hex_back bytes h =
    let even : length (hex bytes) % 2 ≡ 0 = omega (arith, hex_length bytes) in
    (simp (hex_digits bytes h, eq-eqb (length (hex bytes) % 2) 0 even), unhex_hex bytes h)
