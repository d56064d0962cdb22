-- Where a number passes a test, `greatest` finds the greatest that does, and whatever is the greatest is what it finds.
-- Assumes nothing.
use mathlib.Core.Bool.{Bool, true, false, cond, true≢false}
use mathlib.Core.Path.{◌≡◌, refl, sym, ◌∙◌}
use Prim.Native.Nat.{ℕ, zero, suc, ◌≤◌, ◌<◌}
use native.Mathlib.Decide.{dec_lt}
use native.Mathlib.Omega.{arith}
use Rattle.calendar.specs.Greatest.{greatest}

-- g is the greatest number up to n that passes the test p
pub record Greatest (p : ℕ → Bool) (n g : ℕ) : Type 0 where
  pub within : g ≤ n
  pub passes : p g ≡ true
  pub above : (j : ℕ) → g < j → j ≤ n → p j ≡ false

-- g is the greatest up to n, and n + 1 does not pass
one_more : {p : ℕ → Bool} {n g : ℕ} → p (suc n) ≡ false → Greatest p n g → Greatest p (suc n) g
one_more {p} {n} {g} q r = record { within = omega arith; passes = r.passes; above = above }
  where
    above : (j : ℕ) → g < j → j ≤ suc n → p j ≡ false
    above j a b =
        elim (dec_lt n j) [
          | yes l ↦ let e : j ≡ suc n = omega arith in rw e q
          | no l ↦ r.above j a (omega arith)
        ]

-- what `greatest` finds is at most n
pub greatest_within : (p : ℕ → Bool) (n : ℕ) → greatest p n ≤ n
unfolding greatest
greatest_within p zero = omega arith
greatest_within p (suc n) = go (greatest_within p n) (p (suc n))
  where
    go : greatest p n ≤ n → (b : Bool) → cond b (suc n) (greatest p n) ≤ suc n
    go h true = omega arith
    go h false = omega arith

-- where none passes, it finds 0
pub greatest_none : (p : ℕ → Bool) (n : ℕ) → ((j : ℕ) → p j ≡ false) → greatest p n ≡ 0
unfolding greatest
greatest_none p zero h = refl
greatest_none p (suc n) h = rw (h (suc n)) (greatest_none p n h)

-- where some number up to n passes, `greatest` finds the greatest
pub greatest_found : (p : ℕ → Bool) (n k : ℕ) → k ≤ n → p k ≡ true → Greatest p n (greatest p n)
unfolding greatest
greatest_found p zero k h e =
    let z : k ≡ 0 = omega arith in
    record { within = omega arith; passes = rw z at e; above = λ j a b. absurd (omega arith) }
greatest_found p (suc n) k h e = go (λ i. greatest_found p n k i e) (p (suc n)) refl
  where
    go : (k ≤ n → Greatest p n (greatest p n)) → (b : Bool) → p (suc n) ≡ b → Greatest p (suc n) (cond b (suc n) (greatest p n))
    go f true q = record { within = omega arith; passes = q; above = λ j a b. absurd (omega arith) }
    go f false q =
        elim (dec_lt n k) [
          | yes l ↦ let z : k ≡ suc n = omega arith in absurd (true≢false (sym (rw z at e) ∙ q))
          | no l ↦ one_more q (f (omega arith))
        ]

greatest_most : {p : ℕ → Bool} {n g k : ℕ} → Greatest p n g → k ≤ n → p k ≡ true → k ≤ g
greatest_most {g = g} {k = k} r h e =
    elim (dec_lt g k) [ yes l ↦ absurd (true≢false (sym e ∙ r.above k l h)) | no l ↦ omega arith ]

-- the greatest is the one that `greatest` finds
pub greatest_is : {p : ℕ → Bool} {n g : ℕ} → Greatest p n g → greatest p n ≡ g
greatest_is {p} {n} {g} r =
    let f = greatest_found p n g r.within r.passes in
    let a = greatest_most r f.within f.passes in
    let b = greatest_most f r.within r.passes in
    omega arith
