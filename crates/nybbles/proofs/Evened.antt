-- Written codes with a 9 put before the last single nybble: what holds in the loop of `pad`.
-- Assumes nothing.
use mathlib.Core.Path.{◌≡◌, refl, sym, ap, ◌∙◌}
use mathlib.Core.Bool.{true, false, false≢true}
use mathlib.Core.List.{List, [], ◌∷◌, ◌++◌, map, map-append, flatten}
use Prim.Native.Nat.{ℕ, zero, suc, ◌+◌, ◌*◌, ◌-◌, ◌%◌, ◌≤◌, ◌<◌}
use native.Mathlib.Omega.{arith}
use Rattle.std.proofs.lemmas.List.{map-set, drop-map, take_more_set}
use lib.ListN.{length, get_or, take, drop, set, length-map, length-append, drop_of_length-le, get_or-map}
use lib.Seq.{length-take-le, get_or-take, take-set-lt, drop-cons}
use borrow.Author.Tests.{eq-eqb, ne_eqb}
use Rattle.schedule.specs.Schedule.{Schedule}
use Rattle.schedule.proofs.Cases.{by_bool}
use Rattle.nybbles.specs.declared.written.WrittenCode.{WrittenCode}
use Rattle.nybbles.specs.declared.written.WrittenCode.TheVariants.{Single, Pair}
use Rattle.nybbles.specs.Private.{code_of}
use Rattle.nybbles.proofs.Division.{padded_more}
use Rattle.nybbles.specs.Write.{is_single, any_single, padded, evened, plain_codes, spelling}

-- where no single nybble is left, and where the last one is
pub pad_none : (cs : List (List ℕ)) → any_single cs ≡ false → padded cs ≡ cs
unfolding any_single padded
pad_none [] e = refl
pad_none (c ∷ cs) e =
    by_bool (is_single c)
    (λ b. absurd (false≢true (sym (simp b at e))))
    (λ b. simp (b, (simp b at e)))

module _ (d : List ℕ) where
  any_at : (cs : List (List ℕ)) (i : ℕ) → i < length cs → is_single (get_or cs i d) ≡ true → any_single cs ≡ true
  unfolding any_single
  any_at [] i h l = absurd (omega arith)
  any_at (c ∷ cs) zero h l = simp l
  any_at (c ∷ cs) (suc i) h l = by_bool (is_single c) (λ b. simp b) (λ b. simp b (any_at cs i (omega arith) l))

  pub pad_at : (cs : List (List ℕ)) (i : ℕ) → i < length cs → is_single (get_or cs i d) ≡ true → any_single (drop (suc i) cs) ≡ false → set cs i (9 ∷ get_or cs i d) ≡ padded cs
  unfolding padded
  pad_at [] i h l e = absurd (omega arith)
  pad_at (c ∷ cs) zero h l e = simp (e, l)
  pad_at (c ∷ cs) (suc i) h l e = simp (any_at cs i (omega arith) l) (ap (λ (t : List (List ℕ)). c ∷ t) (pad_at cs i (omega arith) l e))

-- what holds in the loop of `pad`: no single nybble from here on
pub record Pads (codes₀ : List WrittenCode) (n₀ m₀ : ℕ) (codes : List WrittenCode) (n m i : ℕ) : Type 0 where
  pub same : codes ≡ codes₀
  pub same_count : n ≡ n₀
  pub same_nybbles : m ≡ m₀
  pub none : any_single (map code_of (drop i (take n₀ codes₀))) ≡ false

pub pads_start : (codes : List WrittenCode) (n m : ℕ) → n ≤ length codes → Pads codes n m codes n m n
unfolding any_single
pads_start codes n m full =
    let past : drop n (take n codes) ≡ [] = drop_of_length-le (take n codes) (omega (arith, length-take-le n codes full)) in
    record { same = refl; same_count = refl; same_nybbles = refl; none = rw past refl }

module _ (codes₀ : List WrittenCode) (n₀ m₀ : ℕ) (codes : List WrittenCode) (n m i : ℕ) (s : Pads codes₀ n₀ m₀ codes n m i) where
  module _ (full : n₀ ≤ length codes₀) (h : (0 < i) × (i ≤ n₀)) (d : WrittenCode) where
    here : drop (i - 1) (take n₀ codes₀) ≡ get_or codes (i - 1) d ∷ drop i (take n₀ codes₀)
    here =
        let next : suc (i - 1) ≡ i = omega arith in
        let j : i - 1 < length (take n₀ codes₀) = omega (arith, length-take-le n₀ codes₀ full) in
        drop-cons (take n₀ codes₀) (i - 1) d j ∙ rw (next, get_or-take n₀ codes₀ (i - 1) d (omega arith), s.same)

    pub pads_step : {k g : ℕ} → get_or codes (i - 1) d ≡ Pair k g → Pads codes₀ n₀ m₀ codes n m (i - 1)
    unfolding any_single
    pads_step e = record { same = s.same; same_count = s.same_count; same_nybbles = s.same_nybbles; none = rw (here, e) s.none }

    module _ {v : ℕ} (e : get_or codes (i - 1) d ≡ Single v) where
      abbrev cs : List (List ℕ)
      cs = map code_of (take n₀ codes₀)

      last : get_or cs (i - 1) (code_of d) ≡ v ∷ []
      last =
          let same : get_or codes₀ (i - 1) d ≡ get_or codes (i - 1) d = ap (λ (l : List WrittenCode). get_or l (i - 1) d) (sym s.same) in
          get_or-map code_of (take n₀ codes₀) (i - 1) d ∙ ap code_of (get_or-take n₀ codes₀ (i - 1) d (omega arith) ∙ (same ∙ e))

      inside : i - 1 < length cs
      inside = omega (arith, length-map (take n₀ codes₀) code_of, length-take-le n₀ codes₀ full)

      pub pads_found : map code_of (take n (set codes (i - 1) (Pair 9 v))) ≡ padded cs
      pads_found =
          let next : suc (i - 1) ≡ i = omega arith in
          let none : any_single (drop (suc (i - 1)) cs) ≡ false = rw (next, drop-map code_of i (take n₀ codes₀)) s.none in
          let start : map code_of (take n (set codes (i - 1) (Pair 9 v))) ≡ set cs (i - 1) (9 ∷ v ∷ []) =
          rw (s.same, s.same_count, take-set-lt n₀ codes₀ (i - 1) (Pair 9 v) (omega arith), map-set) in
          start ∙ (ap (λ (c : List ℕ). set cs (i - 1) (9 ∷ c)) (sym last) ∙ pad_at (code_of d) cs (i - 1) inside (ap is_single last) none)

      -- one nybble more
      pub pads_more : m₀ ≡ length (flatten cs) → m + 1 ≡ length (flatten (map code_of (take n (set codes (i - 1) (Pair 9 v)))))
      pads_more h =
          let more = padded_more cs (any_at (code_of d) cs (i - 1) inside (ap is_single last)) in
          rw (s.same_nybbles, h) (sym (ap (λ (l : List (List ℕ)). length (flatten l)) pads_found ∙ more))

  pub pads_none : i ≡ 0 → map code_of (take n codes) ≡ padded (map code_of (take n₀ codes₀))
  pads_none z = rw (s.same, s.same_count) (sym (pad_none (map code_of (take n₀ codes₀)) (rw z at s.none)))

-- a code has at most two nybbles
pub held_few : (c : WrittenCode) → length (code_of c) ≤ 2
held_few (Single v) = omega arith
held_few (Pair n g) = omega arith

flat_few : (cs : List WrittenCode) → length (flatten (map code_of cs)) ≤ 2 * length cs
unfolding flatten
flat_few [] = omega arith
flat_few (c ∷ cs) = let i = flat_few cs in let h = held_few c in simp length-append (omega arith)

pub few : (codes : List WrittenCode) (n m : ℕ) → n ≤ length codes → m ≡ length (flatten (map code_of (take n codes))) → m ≤ 2 * n
few codes n m h e = omega (arith, flat_few (take n codes), length-take-le n codes h)

-- one code more has its nybbles more
flat_more : (cs : List (List ℕ)) (c : List ℕ) → length (flatten (cs ++ (c ∷ []))) ≡ length (flatten cs) + length c
unfolding flatten
flat_more [] c = simp length-append (omega arith)
flat_more (d ∷ cs) c = let i = flat_more cs c in simp length-append (omega arith)

-- the codes in use are as many as the count says
pub in_use : (codes : List WrittenCode) (n : ℕ) (cs : List (List ℕ)) → n ≤ length codes → map code_of (take n codes) ≡ cs → length cs ≡ n
in_use codes n cs h e = sym (ap length e) ∙ (length-map (take n codes) code_of ∙ length-take-le n codes h)

module _ (codes : List WrittenCode) (n m : ℕ) (code : WrittenCode) (h : n < length codes) (e : m ≡ length (flatten (map code_of (take n codes)))) where
  pub push_few : m + length (code_of code) ≤ 2 * n + 2
  push_few = omega (arith, flat_few (take n codes), held_few code, length-take-le n codes)

  pub push_more : m + length (code_of code) ≡ length (flatten (map code_of (take (n + 1) (set codes n code))))
  push_more = rw (take_more_set codes n code h, map-append, e) (sym (flat_more (map code_of (take n codes)) (code_of code)))

-- the evened codes
module _ (s : Schedule) (m : ℕ) (e : m ≡ length (flatten (plain_codes s))) where
  pub spelt_even : (m % 2 ≡ 1 → ⊥) → plain_codes s ≡ spelling s
  unfolding spelling evened
  spelt_even z = let k : length (flatten (plain_codes s)) % 2 ≡ 1 → ⊥ = λ x. omega arith in simp (ne_eqb _ _ k)

  pub spelt_odd : m % 2 ≡ 1 → padded (plain_codes s) ≡ spelling s
  unfolding spelling evened
  spelt_odd z = let k : length (flatten (plain_codes s)) % 2 ≡ 1 = omega arith in simp (eq-eqb _ _ k)
