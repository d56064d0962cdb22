-- Bytes in a range of bytes. Assumes nothing.
use mathlib.Core.Path.{◌≡◌}
use mathlib.Core.Bool.{true, and-eq-true_iff}
use Prim.Native.Nat.{ℕ, ◌≤◌}
use lib.Dec.{leb}
use borrow.Author.Tests.{leb-true}
use Rattle.ascii.specs.Ascii.{within}

pub within_is : (first last b : ℕ) → within first last b ≡ true → (first ≤ b) × (b ≤ last)
unfolding within
within_is first last b h =
    let a = (and-eq-true_iff (leb first b) (leb b last)).0 h in
    (leb-true first b a.0, leb-true b last a.1)
