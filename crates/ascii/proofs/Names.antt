-- Whether bytes are a name, by how many they are and by each of them: what matching them against names goes by.
-- Assumes nothing.
use mathlib.Core.Path.{◌≡◌, ap, ◌∙◌}
use mathlib.Core.Bool.{false}
use mathlib.Core.List.{List, [], ◌∷◌}
use Prim.Native.Nat.{ℕ, zero, suc, ◌+◌}
use native.Mathlib.Omega.{arith}
use lib.ListN.{length, get_or, drop, drop_of_length-le}
use Rattle.ascii.specs.Parts.{same}
use Rattle.ascii.proofs.Cases.{by_bool}
use Rattle.ascii.proofs.Lists.{uncons}
use Rattle.ascii.proofs.Splitting.{same_is}

-- bytes differ from a name by their number, or by one of them
pub other_length : (xs ys : List ℕ) → (length xs ≡ length ys → ⊥) → same xs ys ≡ false
other_length xs ys h = by_bool (same xs ys) (λ e. absurd (h (rw ((same_is xs ys).0 e)))) (λ e. e)

pub other_byte : (xs ys : List ℕ) (i : ℕ) → (get_or xs i 0 ≡ get_or ys i 0 → ⊥) → same xs ys ≡ false
other_byte xs ys i h = by_bool (same xs ys) (λ e. absurd (h (rw ((same_is xs ys).0 e)))) (λ e. e)

-- n bytes from a place on, one by one
abbrev spelled : ℕ → List ℕ → ℕ → List ℕ
spelled zero xs i = []
spelled (suc n) xs i = get_or xs i 0 ∷ spelled n xs (i + 1)

are_spelled : (n : ℕ) (xs : List ℕ) (i : ℕ) → length xs ≡ i + n → drop i xs ≡ spelled n xs i
are_spelled zero xs i h = drop_of_length-le xs (omega (arith, h))
are_spelled (suc n) xs i h = uncons xs i (omega (arith, h)) ∙ ap (λ (ys : List ℕ). get_or xs i 0 ∷ ys) (are_spelled n xs (i + 1) (omega (arith, h)))

module _ (xs : List ℕ) where
  pub of_three : length xs ≡ 3 → xs ≡ spelled 3 xs 0
  of_three = are_spelled 3 xs 0

  pub of_four : length xs ≡ 4 → xs ≡ spelled 4 xs 0
  of_four = are_spelled 4 xs 0

  pub of_six : length xs ≡ 6 → xs ≡ spelled 6 xs 0
  of_six = are_spelled 6 xs 0

  pub of_seven : length xs ≡ 7 → xs ≡ spelled 7 xs 0
  of_seven = are_spelled 7 xs 0

  pub of_eight : length xs ≡ 8 → xs ≡ spelled 8 xs 0
  of_eight = are_spelled 8 xs 0

-- what a `match` of bytes against names is proved from
pub ruleset names = (same_is, other_length, other_byte, of_three, of_four, of_six, of_seven, of_eight)
