-- The parts of a line, and whether two lists of bytes are equal.
-- Assumes nothing: these are definitions.
use Rattle.std.specs.Prelude.{ℕ, Bool, true, false, cond, ◌&&◌, List, [], ◌∷◌, ◌++◌, eqb, ◌≡◌}

-- whether two lists of bytes are equal
unfoldable pub same : List ℕ → List ℕ → Bool
same [] [] = true
same [] (y ∷ ys) = false
same (x ∷ xs) [] = false
same (x ∷ xs) (y ∷ ys) = eqb x y && same xs ys

-- the bytes before the first byte `mark`, or all of them
unfoldable pub first_part : ℕ → List ℕ → List ℕ
first_part mark [] = []
first_part mark (b ∷ bs) = cond (eqb b mark) [] (b ∷ first_part mark bs)

-- bytes split at the first byte `mark`: what stands before it, and behind it
pub record Split (mark : ℕ) (bytes before behind : List ℕ) : Type 0 where
  pub first : before ≡ first_part mark bytes
  pub joined : bytes ≡ before ++ (mark ∷ behind)

-- a byte more at the start of the first part
abbrev pub on_first : ℕ → List (List ℕ) → List (List ℕ)
on_first b [] = []
on_first b (p ∷ ps) = (b ∷ p) ∷ ps

-- the parts of a line: what stands between its bytes `mark`, also where that is nothing; so there is one part more than bytes `mark`
unfoldable pub parts : ℕ → List ℕ → List (List ℕ)
parts mark [] = [] ∷ []
parts mark (b ∷ bs) = cond (eqb b mark) ([] ∷ parts mark bs) (on_first b (parts mark bs))
