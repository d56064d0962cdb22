-- How many bytes hex stands for. Assumes nothing.
use mathlib.Core.List.{List, [], ◌∷◌}
use Prim.Native.Nat.{ℕ, ◌*◌, ◌≤◌}
use native.Mathlib.Omega.{arith}
use lib.ListN.{length}
use Rattle.ascii.specs.Hex.{unhex}

pub unhex_length : (field : List ℕ) → 2 * length (unhex field) ≤ length field
unfolding unhex
unhex_length [] = omega arith
unhex_length (a ∷ []) = omega arith
unhex_length (a ∷ b ∷ bs) = let i = unhex_length bs in omega arith
