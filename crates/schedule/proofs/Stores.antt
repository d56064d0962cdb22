-- Runs of stores into a list, for the writers.
-- Assumes nothing.
use Rattle.std.proofs.Common.{◌≡◌, ℕ, suc, ◌+◌, List, [], ◌∷◌, ◌++◌, length, ◌∙◌, add-zero, add-suc, suc-add}
use lib.Seq.{sets}

-- a run of stores in two parts
pub sets_append : {A : Type 0} (xs l : List A) (i : ℕ) (ys : List A) → sets l i (xs ++ ys) ≡ sets (sets l i xs) (i + length xs) ys
sets_append [] l i ys = rw add-zero
sets_append (x ∷ xs) l i ys = sets_append xs _ (suc i) ys ∙ rw (suc-add, add-suc)
