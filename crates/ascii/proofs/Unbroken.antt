-- No byte is LF: what bytes without LF are made of, numbers and refusals among them; and such bytes before an LF are a line.
-- Assumes nothing.
use mathlib.Core.Path.{◌≡◌, refl}
use mathlib.Core.Bool.{Bool, true, false, cond, not, and-eq-true_iff}
use mathlib.Core.List.{List, [], ◌∷◌, ◌++◌}
use Prim.Native.Nat.{ℕ, zero, suc, ◌+◌, ◌/◌, ◌%◌}
use native.Mathlib.Omega.{arith}
use lib.Dec.{ltb, eqb}
use lib.IntN.{ℤ, pos, negsuc}
use borrow.Author.Tests.{ne_eqb, not-true}
use Rattle.ascii.specs.Ascii.{zero_byte}
use Rattle.ascii.specs.Decimal.{digits_in, decimal, signed, with_sign}
use Rattle.ascii.specs.Hex.{hex_digit, hex}
use Rattle.ascii.specs.Lines.{newline}
use Rattle.ascii.specs.Parts.{parts}
use Rattle.ascii.specs.Refusal.{refusal, refusal_at}
use Rattle.ascii.proofs.Cases.{by_bool}
use Rattle.ascii.proofs.Fields.{has_no, part_before}

-- no byte is LF
pub record Unbroken (bytes : List ℕ) : Type 0 where
  pub none : has_no newline bytes ≡ true

pub empty : Unbroken []
unfolding has_no
empty = record { none = refl }

pub more : {b : ℕ} {bs : List ℕ} → eqb b newline ≡ false → Unbroken bs → Unbroken (b ∷ bs)
unfolding has_no
more h u = record { none = simp (h, u.none) }

-- the first byte, and the others
pub parted : (b : ℕ) (bs : List ℕ) → Unbroken (b ∷ bs) → (eqb b newline ≡ false) × Unbroken bs
unfolding has_no
parted b bs u =
    let a = (and-eq-true_iff (not (eqb b newline)) (has_no newline bs)).0 u.none in
    (not-true (eqb b newline) a.0, record { none = a.1 })

pub append : (xs : List ℕ) {ys : List ℕ} → Unbroken xs → Unbroken ys → Unbroken (xs ++ ys)
append [] u v = v
append (x ∷ xs) u v = let p = parted x xs u in more p.0 (append xs p.1 v)

pub either : (b : Bool) {xs ys : List ℕ} → Unbroken xs → Unbroken ys → Unbroken (cond b xs ys)
either true u v = u
either false u v = v

-- ---- numbers

pub digit : (d : ℕ) {bs : List ℕ} → Unbroken bs → Unbroken ((zero_byte + d) ∷ bs)
digit d = more (ne_eqb (zero_byte + d) newline (omega arith))

digits_in_lem : (bound n : ℕ) → Unbroken (digits_in bound n)
unfolding digits_in
digits_in_lem zero n = empty
digits_in_lem (suc bound) n = let tenth = digits_in_lem bound (n / 10) in search (either, append, digit, empty)

pub in_decimal : (n : ℕ) → Unbroken (decimal n)
unfolding decimal
in_decimal n = digits_in_lem (suc n) n

pub in_signed : (z : ℤ) → Unbroken (signed z)
in_signed (pos n) = in_decimal n
in_signed (negsuc n) = more refl (in_decimal (suc n))

pub with_sign_lem : (z : ℤ) → Unbroken (with_sign z)
with_sign_lem (pos n) = more refl (in_decimal n)
with_sign_lem (negsuc n) = more refl (in_decimal (suc n))

hex_digit_lem : (d : ℕ) → eqb (hex_digit d) newline ≡ false
hex_digit_lem d = ne_eqb (hex_digit d) newline (by_bool (ltb d 10) (λ e. simp e (omega arith)) (λ e. simp e (omega arith)))

pub in_hex : (bytes : List ℕ) → Unbroken (hex bytes)
unfolding hex
in_hex [] = empty
in_hex (b ∷ bs) = more (hex_digit_lem (b / 16)) (more (hex_digit_lem (b % 16)) (in_hex bs))

-- ---- refusals

pub in_refusal : (n : ℕ) → Unbroken (refusal n)
unfolding refusal
in_refusal n = more refl (in_decimal n)

pub with_place : (n place : ℕ) → Unbroken (refusal_at n place)
unfolding refusal_at
with_place n place = append (refusal n) (in_refusal n) (more refl (in_decimal place))

-- ---- lines

-- bytes without LF before an LF are the first line
pub first_part_lem : (xs ys : List ℕ) → Unbroken xs → parts newline (xs ++ (newline ∷ ys)) ≡ xs ∷ parts newline ys
first_part_lem xs ys u = part_before newline xs ys u.none
