-- The parts of a line: by where the first of them ends, as code has it; from bytes without the mark; and back to the bytes. Assumes nothing.
use mathlib.Core.Path.{◌≡◌, refl, sym, ap, subst, ◌∙◌}
use mathlib.Core.Bool.{Bool, true, not, ◌&&◌, and-eq-true_iff}
use mathlib.Core.List.{List, [], ◌∷◌, ◌++◌}
use Prim.Native.Nat.{ℕ, ◌+◌, ◌-◌, ◌<◌}
use native.Mathlib.Nat.{suc-add}
use native.Mathlib.Omega.{arith}
use native.Mathlib.Decide.{dec_le}
use lib.Dec.{eqb, ltb}
use lib.ListN.{length, take, drop, length-drop, length-append}
use lib.Seq.{take_all}
use borrow.Author.Tests.{eqb-true, eq-eqb, not-true, ltb-true, ltb-false}
use Rattle.std.specs.Prelude.{Some, None, position}
use Rattle.std.specs.List.{position_or_len}
use Rattle.ascii.specs.Parts.{first_part, Split, parts}
use Rattle.ascii.proofs.Cases.{by_bool}
use Rattle.ascii.proofs.Splitting.{last_part, more_parts}

-- ---- bytes without the mark

-- no byte is this one
unfoldable pub has_no : ℕ → List ℕ → Bool
has_no mark [] = true
has_no mark (b ∷ bs) = not (eqb b mark) && has_no mark bs

-- before a mark they are the first part, and alone the only one
pub part_before : (mark : ℕ) (xs ys : List ℕ) → has_no mark xs ≡ true → parts mark (xs ++ (mark ∷ ys)) ≡ xs ∷ parts mark ys
unfolding parts has_no
part_before mark [] ys h = simp (eq-eqb mark mark refl)
part_before mark (x ∷ xs) ys h =
    let a = (and-eq-true_iff (not (eqb x mark)) (has_no mark xs)).0 h in
    simp (not-true (eqb x mark) a.0, part_before mark xs ys a.1)

pub part_alone : (mark : ℕ) (xs : List ℕ) → has_no mark xs ≡ true → parts mark xs ≡ xs ∷ []
unfolding parts has_no
part_alone mark [] h = refl
part_alone mark (x ∷ xs) h =
    let a = (and-eq-true_iff (not (eqb x mark)) (has_no mark xs)).0 h in
    simp (not-true (eqb x mark) a.0, part_alone mark xs a.1)

-- ---- a line split once

first_has_no : (mark : ℕ) (bytes : List ℕ) → has_no mark (first_part mark bytes) ≡ true
unfolding has_no first_part
first_has_no mark [] = refl
first_has_no mark (b ∷ bs) = by_bool (eqb b mark) (λ e. simp e) (λ e. simp (e, first_has_no mark bs))

-- a line without the mark is its only part, and another is its first part and those of what is behind
pub only : (mark : ℕ) (bytes : List ℕ) → first_part mark bytes ≡ bytes → parts mark bytes ≡ bytes ∷ []
only mark bytes e = part_alone mark bytes (subst (λ (x : List ℕ). has_no mark x ≡ true) e (first_has_no mark bytes))

pub first_and_rest : {mark : ℕ} {bytes before behind : List ℕ} → Split mark bytes before behind → parts mark bytes ≡ before ∷ parts mark behind
first_and_rest {mark} {bytes} {before} {behind} s =
    ap (parts mark) s.joined ∙ part_before mark before behind (rw s.first (first_has_no mark bytes))

-- both are shorter than the line
pub split_long : {mark : ℕ} {bytes before behind : List ℕ} → Split mark bytes before behind → length bytes ≡ length before + 1 + length behind
split_long {mark} {bytes} {before} {behind} s = omega (arith, ap length s.joined, length-append before (mark ∷ behind))

-- ---- back to the bytes

at_mark : (mark : ℕ) (bytes : List ℕ) → length (first_part mark bytes) < length bytes
    → bytes ≡ take (length (first_part mark bytes)) bytes ++ (mark ∷ drop (length (first_part mark bytes) + 1) bytes)
unfolding first_part
at_mark mark [] h = absurd (omega arith)
at_mark mark (b ∷ bs) h =
    by_bool (eqb b mark) (λ e. simp e (ap (λ (x : ℕ). x ∷ bs) (eqb-true b mark e)))
    (λ e. let g = simp e at h in simp (e, suc-add) (ap (λ (xs : List ℕ). b ∷ xs) (at_mark mark bs (omega arith))))

take_first : (mark : ℕ) (bytes : List ℕ) → take (length (first_part mark bytes)) bytes ≡ first_part mark bytes
unfolding first_part
take_first mark [] = refl
take_first mark (b ∷ bs) = by_bool (eqb b mark) (λ e. simp e) (λ e. simp (e, take_first mark bs))

-- by the place of the first mark, as code has it
place_is : (mark : ℕ) (bytes : List ℕ) → position_or_len (λ b. eqb b mark) bytes ≡ length (first_part mark bytes)
unfolding first_part
place_is mark [] = refl
place_is mark (b ∷ bs) = by_bool (eqb b mark) (λ e. simp e) (λ e. simp (e, place_is mark bs) (omega arith))

split_here : (mark : ℕ) (bytes : List ℕ) → length (first_part mark bytes) < length bytes
    → Split mark bytes (take (length (first_part mark bytes)) bytes)
    (take (length bytes - (length (first_part mark bytes) + 1)) (drop (length (first_part mark bytes) + 1) bytes))
split_here mark bytes h =
    let end = length (first_part mark bytes) + 1 in
    let rest : take (length bytes - end) (drop end bytes) ≡ drop end bytes = take_all (length bytes - end) (drop end bytes) (omega (arith, length-drop end bytes)) in
    record { first = take_first mark bytes; joined = rw rest (at_mark mark bytes h) }

pub found : (mark : ℕ) (bytes : List ℕ) (at : ℕ) → position (λ b. eqb b mark) bytes ≡ Some at
    → Split mark bytes (take at bytes) (take (length bytes - (at + 1)) (drop (at + 1) bytes))
found mark bytes at =
    rw (place_is mark bytes)
    (by_bool (ltb (length (first_part mark bytes)) (length bytes))
    (λ l. simp l (λ e. let same : length (first_part mark bytes) ≡ at = cc in subst (λ (x : ℕ). Split mark bytes (take x bytes) (take (length bytes - (x + 1)) (drop (x + 1) bytes))) same (split_here mark bytes (ltb-true _ _ l))))
    (λ l. simp l (λ e. absurd (none_is_some e))))
  where
    none_is_some : None ≡ Some at → ⊥
    none_is_some e = let z : ◌≡◌ {A = ℕ} 0 1 = cc in omega arith

pub not_found : (mark : ℕ) (bytes : List ℕ) → position (λ b. eqb b mark) bytes ≡ None → first_part mark bytes ≡ bytes
not_found mark bytes =
    rw (place_is mark bytes)
    (by_bool (ltb (length (first_part mark bytes)) (length bytes))
    (λ l. simp l (λ e. absurd (some_is_none e)))
    (λ l. simp l (λ e. sym (take_first mark bytes) ∙ take_all _ bytes (ltb-false _ _ l))))
  where
    some_is_none : Some (length (first_part mark bytes)) ≡ None → ⊥
    some_is_none e = let z : ◌≡◌ {A = ℕ} 0 1 = cc in omega arith

some_part : (mark : ℕ) (bytes : List ℕ) → parts mark bytes ≡ [] → ⊥
some_part mark bytes e =
    elim (dec_le (length bytes) (length (first_part mark bytes))) [
      | yes h ↦ omega (arith, ap length (sym (last_part mark bytes h) ∙ e))
      | no h ↦ omega (arith, ap length (sym (more_parts mark bytes (omega arith)) ∙ e))
    ]

-- the first of several, and the others
abbrev pub head_of : List (List ℕ) → List ℕ
head_of [] = []
head_of (x ∷ xs) = x

abbrev pub tail_of : List (List ℕ) → List (List ℕ)
tail_of [] = []
tail_of (x ∷ xs) = xs

one_part : (mark : ℕ) (bytes y : List ℕ) → parts mark bytes ≡ y ∷ [] → bytes ≡ y
one_part mark bytes y e =
    elim (dec_le (length bytes) (length (first_part mark bytes))) [
      | yes h ↦ ap head_of (sym (last_part mark bytes h) ∙ e)
      | no h ↦ absurd (some_part mark (drop (length (first_part mark bytes) + 1) bytes) (ap tail_of (sym (more_parts mark bytes (omega arith)) ∙ e)))
    ]

-- a line of two parts is these, and the mark between them
pub two_parts : (mark : ℕ) (bytes x y : List ℕ) → parts mark bytes ≡ x ∷ y ∷ [] → bytes ≡ x ++ (mark ∷ y)
two_parts mark bytes x y e =
    elim (dec_le (length bytes) (length (first_part mark bytes))) [
      | yes h ↦ absurd (omega (arith, ap length (sym (last_part mark bytes h) ∙ e)))
      | no h ↦
          let inside : length (first_part mark bytes) < length bytes = omega arith in
          let split = sym (more_parts mark bytes inside) ∙ e in
          at_mark mark bytes inside ∙ rw (ap head_of split, one_part mark (drop (length (first_part mark bytes) + 1) bytes) y (ap tail_of split))
    ]
