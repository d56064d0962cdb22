-- The greatest number up to a bound that passes a test. Assumes nothing: this is a definition.
use Rattle.std.specs.Prelude.{Bool, cond, ℕ, zero, suc}

-- the greatest number up to n that passes the test p, or 0 where none does
unfoldable pub greatest : (ℕ → Bool) → ℕ → ℕ
greatest p zero = zero
greatest p (suc n) = let below = greatest p n in cond (p (suc n)) (suc n) below
