-- The parts of a line, and equal lists of bytes, by places.
-- Assumes nothing.
use mathlib.Core.Path.{◌≡◌, refl}
use mathlib.Core.Logic.{◌↔◌}
use mathlib.Core.Bool.{true, and-eq-true_iff, false≢true}
use mathlib.Core.List.{List, [], ◌∷◌}
use Prim.Native.Nat.{ℕ, ◌+◌, ◌≤◌, ◌<◌}
use native.Mathlib.Nat.{suc-add}
use native.Mathlib.Omega.{arith}
use lib.Dec.{eqb}
use lib.ListN.{length, take, drop}
use borrow.Author.Tests.{eq-eqb, eqb-true}
use Rattle.std.specs.Str.{bytes_eq}
use Rattle.ascii.specs.Parts.{same, first_part, parts}
use Rattle.ascii.proofs.Cases.{by_bool}

-- ---- equal lists

same_to : (xs ys : List ℕ) → same xs ys ≡ true → xs ≡ ys
unfolding same
same_to [] [] h = refl
same_to [] (y ∷ ys) h = absurd (false≢true h)
same_to (x ∷ xs) [] h = absurd (false≢true h)
same_to (x ∷ xs) (y ∷ ys) h =
    let a = (and-eq-true_iff (eqb x y) (same xs ys)).0 h in
    let p : x ≡ y = eqb-true x y a.0 in
    let q : xs ≡ ys = same_to xs ys a.1 in
    cc

same_self : (xs : List ℕ) → same xs xs ≡ true
unfolding same
same_self [] = refl
same_self (x ∷ xs) = rw (eq-eqb x x refl) (same_self xs)

-- the test means equality
pub same_is : (xs ys : List ℕ) → (same xs ys ≡ true) ↔ (xs ≡ ys)
same_is xs ys = (same_to xs ys, λ e. rw e (same_self ys))

-- what `==` of two slices says
pub eq_same : (xs ys : List ℕ) → bytes_eq xs ys ≡ same xs ys
unfolding same
eq_same [] [] = refl
eq_same [] (y ∷ ys) = refl
eq_same (x ∷ xs) [] = refl
eq_same (x ∷ xs) (y ∷ ys) = rw (eq_same xs ys)

-- ---- parts

-- the only part of a line, and the first of several with those after it
pub last_part : (mark : ℕ) (bytes : List ℕ) → length bytes ≤ length (first_part mark bytes) → parts mark bytes ≡ bytes ∷ []
unfolding first_part parts
last_part mark [] h = refl
last_part mark (b ∷ bs) h =
    by_bool (eqb b mark) (λ e. absurd (omega (arith, simp e at h)))
    (λ e. let g = simp e at h in simp (e, last_part mark bs (omega arith)))

pub more_parts : (mark : ℕ) (bytes : List ℕ) → length (first_part mark bytes) < length bytes
    → parts mark bytes ≡ take (length (first_part mark bytes)) bytes ∷ parts mark (drop (length (first_part mark bytes) + 1) bytes)
unfolding first_part parts
more_parts mark [] h = absurd (omega arith)
more_parts mark (b ∷ bs) h =
    by_bool (eqb b mark) (λ e. simp e)
    (λ e. let g = simp e at h in simp (e, suc-add, more_parts mark bs (omega arith)))
