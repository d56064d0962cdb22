-- The nybbles of bytes, and the codes that they are divided into, at a place.
-- Assumes nothing.
use mathlib.Core.Path.{◌≡◌, refl, sym, ap, ◌∙◌}
use mathlib.Core.List.{List, [], ◌∷◌}
use Prim.Native.Nat.{ℕ, zero, suc, ◌+◌, ◌*◌, ◌/◌, ◌%◌, ◌≤◌, ◌<◌}
use native.Mathlib.Numerals.{add-one}
use native.Mathlib.Omega.{arith}
use lib.Dec.{ltb, eqb}
use lib.ListN.{length, get_or, drop, drop_of_length-le}
use lib.Seq.{drop-cons}
use borrow.Author.Tests.{lt-ltb, le-ltb}
use Rattle.schedule.proofs.Cases.{by_bool, by_cond}
use Rattle.nybbles.specs.declared.code.Code.{Code}
use Rattle.nybbles.specs.Codes.{nybbles, bit_m, single, wide, last_g, codes_of}
use Rattle.nybbles.specs.Private.{Next}

pub count : (bs : List ℕ) → length (nybbles bs) ≡ 2 * length bs
unfolding nybbles
count [] = refl
count (b ∷ bs) = let i = count bs in omega arith

-- the nybbles at two places are the halves of the byte there
two_halves : (bs : List ℕ) (at k : ℕ) → at ≡ 2 * k → (get_or (nybbles bs) at 0 ≡ get_or bs k 0 / 16) × (get_or (nybbles bs) (suc at) 0 ≡ get_or bs k 0 % 16)
unfolding nybbles
two_halves [] at k e = (refl, refl)
two_halves (b ∷ bs) zero zero e = (refl, refl)
two_halves (b ∷ bs) zero (suc k) e = absurd (omega arith)
two_halves (b ∷ bs) (suc zero) k e = absurd (omega arith)
two_halves (b ∷ bs) (suc (suc a)) zero e = absurd (omega arith)
two_halves (b ∷ bs) (suc (suc a)) (suc k) e = two_halves bs a k (omega arith)

module _ (bs : List ℕ) (at k : ℕ) where
  pub upper : at ≡ 2 * k → get_or (nybbles bs) at 0 ≡ get_or bs k 0 / 16
  upper e = (two_halves bs at k e).0

  pub lower : at ≡ 2 * k + 1 → get_or (nybbles bs) at 0 ≡ get_or bs k 0 % 16
  lower e =
      let q : at ≡ suc (2 * k) = omega arith in
      rw q (two_halves bs (2 * k) k refl).1

-- the three ways in which a code stands first
pub codes_single : (n : ℕ) (ns : List ℕ) → n < 8 → codes_of (n ∷ ns) ≡ single n ∷ codes_of ns
unfolding codes_of
codes_single n [] h = simp (lt-ltb n 8 h)
codes_single n (g ∷ ns) h = simp (lt-ltb n 8 h)

pub codes_wide : (n g : ℕ) (ns : List ℕ) → 8 ≤ n → codes_of (n ∷ g ∷ ns) ≡ wide n g 2 ∷ codes_of ns
unfolding codes_of
codes_wide n g ns h = simp (le-ltb n 8 h)

pub codes_lone : (n : ℕ) → 8 ≤ n → codes_of (n ∷ []) ≡ wide n last_g 1 ∷ codes_of []
unfolding codes_of
codes_lone n h = simp (le-ltb n 8 h)

-- what holds of each element of a list
pub data All {A : Type 0} (P : A → Type 0) : List A → Type 0 where
  none : All P []
  more : {x : A} {xs : List A} → P x → All P xs → All P (x ∷ xs)

-- every code has a month and a nybble
abbrev pub Some : Code → Type 0
Some c = (0 < c.months) × (0 < c.size)

pub single_some : (n : ℕ) → Some (single n)
unfolding single
single_some n = (omega arith, omega arith)

pub wide_some : (n g z : ℕ) → 0 < z → Some (wide n g z)
unfolding wide
wide_some n g z h = (by_cond (λ (m : ℕ). 0 < m) (eqb (bit_m n) 1) (λ b. omega arith) (λ b. omega arith), h)

pub codes_some : (ns : List ℕ) → All Some (codes_of ns)
unfolding codes_of
codes_some [] = none
codes_some (n ∷ []) = by_cond (All Some) (ltb n 8) (λ b. more (single_some n) none) (λ b. more (wide_some n last_g 1 (omega arith)) none)
codes_some (n ∷ g ∷ ns) =
    by_cond (All Some) (ltb n 8) (λ b. more (single_some n) (codes_some (g ∷ ns))) (λ b. more (wide_some n g 2 (omega arith)) (codes_some ns))

-- and at most 96
wide_few : (n g z : ℕ) → g < 16 → (wide n g z).months ≤ 96
unfolding wide
wide_few n g z h = by_cond (λ (m : ℕ). m ≤ 96) (eqb (bit_m n) 1) (λ b. omega arith) (λ b. omega arith)

module _ (bytes : List ℕ) (at n : ℕ) (h : at < length (nybbles bytes)) (e : n ≡ get_or (nybbles bytes) at 0) where
  here : drop at (nybbles bytes) ≡ n ∷ drop (at + 1) (nybbles bytes)
  here = rw (e, add-one, drop-cons (nybbles bytes) at 0 h)

  pub next_single : n < 8 → (c : Code) → c ≡ single n → Next bytes at c
  unfolding single
  next_single s c q = rw q (record {
    divides = ap codes_of here ∙ codes_single n (drop (at + 1) (nybbles bytes)) s;
    some = omega arith;
    few = omega arith;
    one = omega arith;
    two = omega arith;
    inside = omega arith;
  })

  module _ (l : 8 ≤ n) where
    pub next_wide : at + 1 < length (nybbles bytes) → (g : ℕ) → g ≡ get_or (nybbles bytes) (at + 1) 0 → g < 16 → (c : Code) → c ≡ wide n g 2 → Next bytes at c
    unfolding wide
    next_wide k g f s c q =
        let next : at + 2 ≡ suc (at + 1) = omega arith in
        let two : drop (at + 1) (nybbles bytes) ≡ g ∷ drop (at + 2) (nybbles bytes) = rw (f, next, drop-cons (nybbles bytes) (at + 1) 0 k) in
        rw q (record {
          divides = ap codes_of (here ∙ ap (λ (r : List ℕ). n ∷ r) two) ∙ codes_wide n g (drop (at + 2) (nybbles bytes)) l;
          some = (wide_some n g 2 (omega arith)).0;
          few = wide_few n g 2 s;
          one = omega arith;
          two = omega arith;
          inside = omega arith;
        })

    pub next_lone : length (nybbles bytes) ≤ at + 1 → (c : Code) → c ≡ wide n last_g 1 → Next bytes at c
    unfolding wide
    next_lone k c q =
        let none : drop (at + 1) (nybbles bytes) ≡ [] = drop_of_length-le (nybbles bytes) k in
        rw q (record {
          divides = ap codes_of (here ∙ ap (λ (r : List ℕ). n ∷ r) none) ∙ (codes_lone n l ∙ ap (λ (r : List ℕ). wide n last_g 1 ∷ codes_of r) (sym none));
          some = (wide_some n last_g 1 (omega arith)).0;
          few = wide_few n last_g 1 (omega arith);
          one = omega arith;
          two = omega arith;
          inside = omega arith;
        })

-- the nybbles that codes have in all
unfoldable pub sizes : List Code → ℕ
sizes [] = 0
sizes (c ∷ cs) = c.size + sizes cs

-- the codes of a list have all its nybbles: where no code is left, the place is the nybble count
pub sizes_add_up : (ns : List ℕ) → sizes (codes_of ns) ≡ length ns
unfolding codes_of sizes single wide
sizes_add_up [] = refl
sizes_add_up (n ∷ []) = by_bool (ltb n 8) (λ b. simp b) (λ b. simp b)
sizes_add_up (n ∷ g ∷ ns) =
    by_bool (ltb n 8)
    (λ b. let i = sizes_add_up (g ∷ ns) in simp b (omega arith))
    (λ b. let i = sizes_add_up ns in simp b (omega arith))
