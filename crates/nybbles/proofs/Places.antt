-- Where a reading that ends early stops, and that refusal 2 is not given.
-- Assumes nothing.
use mathlib.Core.Path.{◌≡◌, refl}
use mathlib.Core.Bool.{Bool, true, false}
use mathlib.Core.List.{List, [], ◌∷◌}
use Prim.Native.Nat.{ℕ, ◌+◌, ◌<◌}
use native.Mathlib.Omega.{arith}
use lib.Dec.{ltb, leb, eqb}
use lib.ListN.{length}
use borrow.Author.Tests.{eqb-false}
use Rattle.refusals.specs.Answer.{Answer, refused, number, require}
use Rattle.refusals.specs.Refusals.{ends_early, not_allowed}
use Rattle.schedule.specs.Answers.{Reading, refusal}
use Rattle.schedule.proofs.Cases.{by_cond}
use Rattle.nybbles.specs.declared.code.Code.{Code}
use Rattle.nybbles.specs.Codes.{nybbles, codes_of}
use Rattle.nybbles.specs.Read.{State, is_expiry, has_room, fault, after, read_codes, start, read_nybbles}
use Rattle.nybbles.proofs.Codes.{sizes, sizes_add_up}

-- what holds of each answer, where the list has k nybbles
record Answers (k : ℕ) (r : Reading) : Type 0 where
  early : r.number ≡ ends_early → r.place ≡ k
  two : r.number ≡ not_allowed → ⊥

-- a refusal after 2
other : (k n p : ℕ) → 2 < n → Answers k (refusal n p)
other k n p h = record { early = λ e. absurd (omega arith); two = λ e. omega arith }

required : (P : Answer (Unit {0}) → Type 0) (b : Bool) {n : ℕ} {a : Answer (Unit {0})} → P (refused n) → P a → P (require b n a)
required P true r a = a
required P false r a = r

fault_other : (st : State) (c : Code) → (fault st c ≡ 0 → ⊥) → 2 < fault st c
unfolding fault
fault_other st c =
    let Other : Answer (Unit {0}) → Type 0 = λ a. (number a ≡ 0 → ⊥) → 2 < number a in
    required Other (leb (st.gap + c.months) 999) (λ z. omega arith)
    (required Other (leb (st.total + c.months) 2400) (λ z. omega arith)
    (required Other (has_room c.mark (length st.schedule.leaps)) (λ z. omega arith) (λ z. absurd (z refl))))

answers : (cs : List Code) (k p : ℕ) (st : State) → k ≡ p + sizes cs → Answers k (read_codes k p st cs)
unfolding read_codes sizes
answers [] k p st e = record { early = λ z. omega arith; two = λ z. omega arith }
answers (c ∷ cs) k p st e =
    by_cond (Answers k) (eqb (fault st c) 0)
    (λ a. by_cond (Answers k) (is_expiry c.mark)
    (λ b. by_cond (Answers k) (ltb (p + c.size) k) (λ d. other k 6 (p + c.size) (omega arith)) (λ d. record { early = λ z. absurd (omega arith); two = λ z. omega arith }))
    (λ b. answers cs k (p + c.size) (after st c) (omega arith)))
    (λ a. other k (fault st c) p (fault_other st c (eqb-false (fault st c) 0 a)))

module _ (bytes : List ℕ) where
  all : Answers (length (nybbles bytes)) (read_nybbles bytes)
  unfolding read_nybbles
  all = answers (codes_of (nybbles bytes)) (length (nybbles bytes)) 0 start (omega (arith, sizes_add_up (nybbles bytes)))

  -- refusal 2 is not given
  pub two_not_given : (read_nybbles bytes).number ≡ not_allowed → ⊥
  two_not_given = all.two

  -- where no nybble is left and a code is due, the place is the nybble count
  pub ends_at_the_count : (read_nybbles bytes).number ≡ ends_early → (read_nybbles bytes).place ≡ length (nybbles bytes)
  ends_at_the_count = all.early
