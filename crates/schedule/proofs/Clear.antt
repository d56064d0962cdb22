-- How a loop puts the words after the leaps together, by "or".
-- Assumes nothing.
use Rattle.std.proofs.Common.{◌≡◌, ℕ, ◌+◌, ◌*◌, ◌<◌, ◌≤◌, eqb, List, length, get_or, take, drop, refl, ap₂, ⊎_elim, eq-or-lt_of_le, arith, eqb-true, length-take, get_or-drop, get_or-take}
use lib.Bits.{bit_or, or_add_and, and_le_l, and_le_r}
use borrow.Author.Tests.{eqb-false}
use Rattle.schedule.specs.Private.{RestClear}

-- the words from one place up to another are 0
abbrev Zeros : List ℕ → ℕ → ℕ → Type 0
Zeros words from to = (k : ℕ) → from ≤ k → k < to → get_or words k 0 ≡ 0

-- "or" is 0 exactly where both numbers are
or_least : (a b : ℕ) → (a ≤ bit_or a b) × (b ≤ bit_or a b)
or_least a b = (omega (arith, or_add_and a b, and_le_r a b), omega (arith, or_add_and a b, and_le_l a b))

-- the words from one place up to another, put together by "or": that is 0 exactly when all are
pub record Together (words : List ℕ) (from to rest : ℕ) : Type 0 where
  pub begun : from ≤ to
  pub all : rest ≡ 0 → Zeros words from to
  pub none : Zeros words from to → rest ≡ 0

pub together_none : (words : List ℕ) (from : ℕ) → Together words from from 0
together_none words from = record { begun = omega arith; all = λ z k a b. absurd (omega arith); none = λ z. refl }

pub together_one : {words : List ℕ} {from to rest : ℕ} → Together words from to rest → Together words from (to + 1) (bit_or rest (get_or words to 0))
together_one {words} {from} {to} {rest} p =
    let least = or_least rest (get_or words to 0) in
    record {
      begun = omega (arith, p.begun);
      all = λ e k a b.
          ⊎_elim (λ (z : k ≡ to). rw z (omega (arith, least.1)))
          (λ (l : k < to). p.all (omega (arith, least.0)) k a l)
          (let o : k ≤ to = omega arith in eq-or-lt_of_le o);
      none = λ z. ap₂ bit_or (p.none (λ k a b. z k a (omega arith))) (z to p.begun (omega arith));
    }

-- as the loop goes over a part of the words, from one place on
pub together_next : {words : List ℕ} {from i rest : ℕ} (room : ℕ) → i < length (take room (drop from words)) → Together words from (from + i) rest → Together words from (from + (i + 1)) (bit_or rest (get_or (take room (drop from words)) i 0))
together_next {words} {from} {i} {rest} room h p =
    let z : from + i + 1 ≡ from + (i + 1) = omega arith in
    let small : i < room = omega (arith, length-take room (drop from words)) in
    rw (get_or-take room (drop from words) i 0 small, get_or-drop from words i 0, ← z) (together_one p)

-- so the words after the leaps, put together, tell whether the rest is clear
pub together_tells : (words : List ℕ) (count rest : ℕ) → Together words (2 * count) 512 rest → RestClear words count (eqb rest 0)
together_tells words count rest p = record { all = λ t. p.all (eqb-true rest 0 t); none = λ f z. eqb-false rest 0 f (p.none z) }
