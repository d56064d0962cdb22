-- The difference of two counts as an i32.
-- Assumes nothing.
use Rattle.std.proofs.Common.{◌≡◌, ℕ, zero, suc, ◌-◌, ◌^◌, ◌<◌, Bool, true, false, cond, ltb, pos, negsuc, ◌-ℤ◌, refl, ap, ◌∙◌, ap₂, arith, w32, SFits, to_z, of_z, le-ltb}
use lib.IntN.{sub_ℕ}
use lib.Signed.{mag}
use mir.ValLaws.{to_z_pos, to_z-of_z}

pos_minus : (a b : ℕ) → pos a -ℤ pos b ≡ sub_ℕ a b
pos_minus a zero = rw (le-ltb a 0 (omega arith)) (ap pos (omega arith))
pos_minus a (suc b) = refl

difference : (a b : ℕ) → a < 2 ^ 31 → b < 2 ^ 31 → to_z w32 a -ℤ to_z w32 b ≡ sub_ℕ a b
difference a b h i = ap₂ ◌-ℤ◌ (to_z_pos w32 a h) (to_z_pos w32 b i) ∙ pos_minus a b

minus_small : (a b : ℕ) → a < 2 ^ 31 → b < 2 ^ 31 → mag (sub_ℕ a b) < 2 ^ 31
minus_small a b h i = go (ltb a b)
  where
    go : (t : Bool) → mag (cond t (negsuc (b - suc a)) (pos (a - b))) < 2 ^ 31
    go true = omega arith
    go false = omega arith

minus_fits : (a b : ℕ) → a < 2 ^ 31 → b < 2 ^ 31 → SFits w32 (sub_ℕ a b)
minus_fits a b h i = record { sfits = minus_small a b h i }

-- it fits, and is kept
pub minus_kept : (a b : ℕ) → a < 2 ^ 31 → b < 2 ^ 31 → to_z w32 (of_z w32 (sub_ℕ a b)) ≡ sub_ℕ a b
minus_kept a b h i = to_z-of_z w32 (sub_ℕ a b) (minus_fits a b h i)

pub difference_fits : (a b : ℕ) → a < 2 ^ 31 → b < 2 ^ 31 → SFits w32 (to_z w32 a -ℤ to_z w32 b)
difference_fits a b h i = rw (difference a b h i) (minus_fits a b h i)

pub difference_kept : (a b : ℕ) → a < 2 ^ 31 → b < 2 ^ 31 → to_z w32 (of_z w32 (to_z w32 a -ℤ to_z w32 b)) ≡ sub_ℕ a b
difference_kept a b h i = rw (difference a b h i) (minus_kept a b h i)
