-- A difference that wraps is the one that 64 bits hold.
-- Assumes nothing.
use Rattle.std.proofs.Common.{◌≡◌, ℕ, ◌+◌, ◌-◌, ◌%◌, ◌^◌, ◌<◌, arith, le-leb}
use native.Mathlib.Decide.{dec_le}
use borrow.Author.Tests.{lt-leb}
use Rattle.questions.specs.Said.{held}

pub held_is : (a b : ℕ) → a < 2 ^ 64 → b < 2 ^ 64 → (a + (2 ^ 64 - b)) % 2 ^ 64 ≡ held a b
held_is a b h l =
    elim (dec_le b a) [
      | yes k ↦ rw (le-leb b a k) (omega arith)
      | no k ↦ rw (lt-leb b a (omega arith)) (omega arith)
    ]
