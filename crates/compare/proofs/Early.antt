-- The lines of two lists whose leaps all stand in the first 20 months, from those months alone: the same lines, and computed far sooner than from all
-- 2,401 months.
-- Assumes nothing.
use Prim.Native.Nat.{ℕ, zero, suc, ◌+◌, ◌≤◌}
use mathlib.Core.Path.{◌≡◌, refl, sym, ap, ◌∙◌}
use mathlib.Core.Bool.{Bool, true, false, ◌&&◌, and-eq-true_iff}
use mathlib.Core.List.{List, [], ◌∷◌, ◌++◌}
use native.Mathlib.Nat.{zero-add, suc-add}
use native.Mathlib.Omega.{arith}
use lib.Dec.{ltb}
use borrow.Author.Tests.{ltb-true, ne_eqb}
use Rattle.schedule.specs.declared.Leap.{Leap}
use Rattle.schedule.specs.Schedule.{Schedule}
use Rattle.compare.specs.Longer.{about_both}
use Rattle.compare.specs.Compare.{Line, has_leap, line_at, month_lines, expiry_lines, relation, lines_of}
use Rattle.compare.proofs.TwoTexts.{read_as, first_refused, second_refused, both_taken, by_texts}

-- every leap is at a month below n
unfoldable pub all_below : ℕ → List Leap → Bool
all_below n [] = true
all_below n (l ∷ ls) = ltb l.month n && all_below n ls

none_from : (ls : List Leap) (n m : ℕ) → all_below n ls ≡ true → n ≤ m → has_leap ls m ≡ false
unfolding all_below has_leap
none_from [] n m h g = refl
none_from (l ∷ ls) n m h g =
    let p = (and-eq-true_iff (ltb l.month n) (all_below n ls)).0 h in
    simp (ne_eqb l.month m (λ e. absurd (omega (arith, ltb-true l.month n p.0, e))), none_from ls n m p.1 g)

module _ (a b : Schedule) (n : ℕ) (h : all_below n a.leaps ≡ true) (g : all_below n b.leaps ≡ true) where
  no_line_lem : (m : ℕ) → n ≤ m → line_at a b m ≡ []
  unfolding line_at
  no_line_lem m l = rw (none_from a.leaps n m h l, none_from b.leaps n m g l)

  no_lines : (k m : ℕ) → n ≤ m → month_lines a b m k ≡ []
  unfolding month_lines
  no_lines zero m l = refl
  no_lines (suc k) m l = rw (no_line_lem m l, no_lines k (m + 1) (omega arith))

  first_months : (p q m : ℕ) → n ≤ m + p → month_lines a b m (p + q) ≡ month_lines a b m p
  unfolding month_lines
  first_months zero q m l = rw zero-add (no_lines q m (omega arith))
  first_months (suc p) q m l = rw (suc-add, first_months p q (m + 1) (omega arith))

-- the lines by the first 20 months
unfoldable pub early_lines : Schedule → Schedule → List Line
early_lines a b = month_lines a b 0 20 ++ (expiry_lines a b ++ (relation a b ∷ []))

lines_early : (a b : Schedule) → all_below 20 a.leaps ≡ true → all_below 20 b.leaps ≡ true → lines_of a b ≡ early_lines a b
unfolding lines_of early_lines
lines_early a b h g = rw (first_months a b 20 h g 20 2381 0 (omega arith))

-- the leaps of a text all stand in those months
abbrev pub is_early : List ℕ → Bool
is_early x = all_below 20 (read_as x).leaps

-- an answer about two such texts that goes by the lines
pub about_early : {A : Type 0} (x y : List ℕ) (refuse : ℕ → A) (f : List Line → A) → is_early x && is_early y ≡ true
    → about_both x y refuse (λ a b. f (lines_of a b)) ≡ about_both x y refuse (λ a b. f (early_lines a b))
about_early x y refuse f h =
    let p = (and-eq-true_iff (is_early x) (is_early y)).0 h in
    by_texts x y (λ n. first_refused x y refuse _ n ∙ sym (first_refused x y refuse _ n)) (λ t n. second_refused x y refuse _ t n ∙ sym (second_refused x y refuse _ t n))
    (λ t u. both_taken x y refuse _ t u ∙ ap f (lines_early (read_as x) (read_as y) p.0 p.1) ∙ sym (both_taken x y refuse _ t u))
