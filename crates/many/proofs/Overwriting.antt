-- Arrays overwritten from their start: by answers, each in the place of its question, and what then stands where.
-- Assumes nothing.
use mathlib.Core.List.{List, [], ◌∷◌, ◌++◌, map, zip_with, map-append}
use mathlib.Core.Path.{◌≡◌, refl, sym, ap, ◌∙◌}
use Prim.Native.Nat.{ℕ, zero, suc, ◌+◌, ◌-◌, ◌≤◌, ◌<◌, min}
use native.Mathlib.Nat.{not-suc-le-zero, le_of_suc-le-suc, zero-min, min-zero, suc-min-suc}
use native.Mathlib.Numerals.{add-one}
use native.Mathlib.Omega.{arith}
use lib.ListN.{length, get_or, take, drop, set, length-append, length-drop, length-take, length-set, length-map, get_or-append, get_or-map}
use lib.Seq.{set_at, take-suc, drop-cons, append_snoc, get_or-append-add, get_or-drop, get_or-take}
use Rattle.refusals.specs.Answer.{Answer, number, or_zero}
use Rattle.clock.specs.Question.{Utc}
use Rattle.many.specs.Many.{overwrite, HandsMany, HandsManyUtc, day_or_zero, micros_or_zero}
use Rattle.many.specs.Private.{At, Overwritten}

-- ---- one element after the other
module _ {A : Type 0} where
  pub none_written : (old : List A) → Overwritten [] old old
  unfolding overwrite
  none_written old = record { is = refl; size = refl }

  next : (new old : List A) (i : ℕ) → length new ≡ i → i < length old → (v : A) → set (overwrite new old) i v ≡ overwrite (new ++ (v ∷ [])) old
  unfolding overwrite
  next new old i e h v =
      let l : length (new ++ (v ∷ [])) ≡ suc i = omega (arith, length-append new (v ∷ [])) in
      rw (e, l, drop-cons old i v h, set_at new (get_or old i v) (drop (suc i) old) v i e, append_snoc new v (drop (suc i) old))

  pub one_written : {new old array : List A} → Overwritten new old array → (i : ℕ) → length new ≡ i → i < length old → (v : A) → Overwritten (new ++ (v ∷ [])) old (set array i v)
  one_written {new} {old} {array} p i e h v =
      record { is = ap (λ xs. set xs i v) p.is ∙ next new old i e h v; size = length-set array i v ∙ p.size }

-- ---- which element stands at a place of the answers
module _ {A : Type 0} where
  at : (xs : List A) (i : ℕ) (d x : A) → i < length xs → get_or xs i d ≡ x → At xs i x
  at xs i d x h e = record { below = h; is = rw (add-one i, sym e) (take-suc xs i d h) }

module _ {A B C : Type 0} (f : A → B → C) where
  pub zip_length : (xs : List A) (ys : List B) → length (zip_with f xs ys) ≡ min (length xs) (length ys)
  unfolding zip_with
  zip_length [] ys = sym (zero-min (length ys))
  zip_length (x ∷ xs) [] = sym (min-zero (suc (length xs)))
  zip_length (x ∷ xs) (y ∷ ys) = ap suc (zip_length xs ys) ∙ sym (suc-min-suc (length xs) (length ys))

  -- element i of the answers is the answer about the two elements i
  pub each_of_two : (xs : List A) (ys : List B) (i : ℕ) (x : A) (y : B) → i < length xs → i < length ys → get_or (zip_with f xs ys) i (f x y) ≡ f (get_or xs i x) (get_or ys i y)
  unfolding zip_with
  each_of_two [] ys i x y h l = absurd (not-suc-le-zero h)
  each_of_two (x ∷ xs) [] i a b h l = absurd (not-suc-le-zero l)
  each_of_two (x ∷ xs) (y ∷ ys) zero a b h l = refl
  each_of_two (x ∷ xs) (y ∷ ys) (suc i) a b h l = each_of_two xs ys i a b (le_of_suc-le-suc h) (le_of_suc-le-suc l)

module _ {A B : Type 0} (f : A → B) where
  -- element i of the answers is the answer about element i
  pub each_of_one : (xs : List A) (i : ℕ) (x : A) → get_or (map f xs) i (f x) ≡ f (get_or xs i x)
  each_of_one = get_or-map f

  -- a part of each answer goes into an array
  pub part_written : {xs : List A} {i : ℕ} {x : A} {old array : List B} → At xs i x → Overwritten (map f (take i xs)) old array → i < length old → (v : B) → v ≡ f x
      → Overwritten (map f (take (i + 1) xs)) old (set array i v)
  part_written {xs} {i} {x} {old} {array} a p h v e =
      let l : length (map f (take i xs)) ≡ i = omega (arith, length-map (take i xs) f, length-take i xs, a.below) in
      rw (a.is, map-append f (take i xs) (x ∷ []), sym e) (one_written p i l h v)

-- what an answer about the elements i is
pub at_one : {A : Type 0} (ask : ℕ → A) (xs : List ℕ) (i : ℕ) → i < length xs → At (map ask xs) i (ask (get_or xs i 0))
at_one ask xs i h = at (map ask xs) i (ask 0) (ask (get_or xs i 0)) (rw (length-map xs ask) h) (each_of_one ask xs i 0)

pub at_two : {A : Type 0} (ask : ℕ → ℕ → A) (xs ys : List ℕ) (i : ℕ) → i < length xs → i < length ys → At (zip_with ask xs ys) i (ask (get_or xs i 0) (get_or ys i 0))
at_two ask xs ys i h l = at (zip_with ask xs ys) i (ask 0 0) (ask (get_or xs i 0) (get_or ys i 0)) (omega (arith, zip_length ask xs ys)) (each_of_two ask xs ys i 0 0 h l)

-- ---- an overwritten array
module _ {A : Type 0} (new old : List A) where
  -- its first elements are the new ones
  pub each_overwritten : (i : ℕ) (d : A) → i < length new → get_or (overwrite new old) i d ≡ get_or new i d
  unfolding overwrite
  each_overwritten i d h = get_or-append new (drop (length new) old) d i h

  -- the others stay as they were
  pub rest_stays : (i : ℕ) (d : A) → length new ≤ i → get_or (overwrite new old) i d ≡ get_or old i d
  unfolding overwrite
  rest_stays i d h =
      let e : i ≡ length new + (i - length new) = omega arith in
      ap (λ k. get_or (new ++ drop (length new) old) k d) e ∙ (get_or-append-add new (drop (length new) old) (i - length new) d ∙ (get_or-drop (length new) old (i - length new) d ∙ ap (λ k. get_or old k d) (sym e)))

  -- and it is as long as before
  pub overwrite_length : length new ≤ length old → length (overwrite new old) ≡ length old
  unfolding overwrite
  overwrite_length h = omega (arith, length-append new (drop (length new) old), length-drop (length new) old)

other_default : {A : Type 0} (xs : List A) (i : ℕ) (d e : A) → i < length xs → get_or xs i d ≡ get_or xs i e
other_default [] i d e h = absurd (not-suc-le-zero h)
other_default (x ∷ xs) zero d e h = refl
other_default (x ∷ xs) (suc i) d e h = other_default xs i d e (le_of_suc-le-suc h)

-- so, where the first n answers went into an array, each of its first n elements is that part of the answer to its own question (`each_of_one`, `each_of_two`)
pub each_answered : {A B : Type 0} (part : A → B) (answers : List A) (n : ℕ) (old : List B) (i : ℕ) (d : B) (e : A) → i < n → n ≤ length answers
    → get_or (overwrite (map part (take n answers)) old) i d ≡ part (get_or answers i e)
each_answered part answers n old i d e h l =
    let new = map part (take n answers) in
    let below : i < length (map part (take n answers)) = omega (arith, length-map (take n answers) part, length-take n answers) in
    each_overwritten new old i d below ∙ (other_default new i d (part e) below ∙ (each_of_one part (take n answers) i e ∙ ap part (get_or-take n answers i e h)))

-- what a caller finds after a call for many: at every place that the answers and both arrays have, the number and the value of its own answer
pub handed_each : {A : Type 0} {none : A} {answers : List (Answer A)} {numbers : List ℕ} {values : List A} {result : ℕ} {numbers' : List ℕ} {values' : List A}
    → HandsMany none answers numbers values result numbers' values' → (i : ℕ) (e : Answer A) (d : A) → i < length answers → i < length numbers → i < length values
    → (get_or numbers' i 0 ≡ number (get_or answers i e)) × (get_or values' i d ≡ or_zero none (get_or answers i e))
handed_each {none = none} {answers = answers} {numbers = numbers} {values = values} {result = result} h i e d a b c =
    let below : i < result = omega (arith, h.its_count) in
    let within : result ≤ length answers = omega (arith, h.its_count) in (
      ap (λ (xs : List ℕ). get_or xs i 0) h.its_numbers ∙ each_answered number answers result numbers i 0 e below within,
      ap (λ xs. get_or xs i d) h.its_values ∙ each_answered (or_zero none) answers result values i d e below within,
    )

-- and of TAI to UTC the day and its microseconds
pub handed_each_utc : {answers : List (Answer Utc)} {numbers days micros : List ℕ} {result : ℕ} {numbers' days' micros' : List ℕ}
    → HandsManyUtc answers numbers days micros result numbers' days' micros' → (i : ℕ) (e : Answer Utc) → i < length answers → i < length numbers → i < length days → i < length micros
    → (get_or numbers' i 0 ≡ number (get_or answers i e)) × (get_or days' i 0 ≡ (or_zero (record { day = 0; micros = 0 }) (get_or answers i e)).day)
    × (get_or micros' i 0 ≡ (or_zero (record { day = 0; micros = 0 }) (get_or answers i e)).micros)
handed_each_utc {answers} {numbers} {days} {micros} {result} h i e a b c f =
    let below : i < result = omega (arith, h.its_count) in
    let within : result ≤ length answers = omega (arith, h.its_count) in (
      ap (λ (xs : List ℕ). get_or xs i 0) h.its_numbers ∙ each_answered number answers result numbers i 0 e below within,
      ap (λ (xs : List ℕ). get_or xs i 0) h.its_days ∙ each_answered day_or_zero answers result days i 0 e below within,
      ap (λ (xs : List ℕ). get_or xs i 0) h.its_micros ∙ each_answered micros_or_zero answers result micros i 0 e below within,
    )
