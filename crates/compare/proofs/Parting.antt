-- Two lists contradict each other exactly where some line shows no `?`, and are the same exactly where the last line stands alone.
-- Assumes nothing.
use mathlib.Core.Path.{◌≡◌, refl, sym, ap, ◌∙◌}
use mathlib.Core.Bool.{true, false, ◌||◌, true≢false, and-false}
use mathlib.Core.List.{List, [], ◌∷◌, ◌++◌}
use mathlib.Core.Logic.{◌↔◌, ◌≢◌, ◌⊎◌, inl, inr, ⊎_elim}
use Prim.Native.Nat.{ℕ, zero, suc, ◌+◌, ◌≤◌, ◌<◌}
use native.Mathlib.Nat.{not-suc-le-zero, le_of_suc-le-suc, eq-or-lt_of_le}
use native.Mathlib.Decide.{dec_le}
use native.Mathlib.Omega.{arith}
use lib.Dec.{eqb}
use lib.ListN.{length, length-append}
use borrow.Author.Tests.{eqb-true, eqb-false, eq-eqb, ne_eqb}
use Rattle.ascii.specs.Ascii.{ascii, zero_byte}
use Rattle.schedule.specs.Schedule.{Schedule, is_expired, well_formed}
use Rattle.schedule.specs.Extends.{Extends}
use Rattle.schedule.proofs.Cases.{by_bool}
use Rattle.schedule.proofs.Expired.{not_expired, known_until}
use Rattle.schedule.proofs.Gaps.{parts}
use Rattle.schedule.proofs.WordLayout.{within}
use Rattle.schedule.proofs.Order.{both_ways}
use Rattle.compare.specs.Compare.{has_leap, leap_mark, mark, Line, differ, has_line, line_at, month_lines, expiry_lines, relation, lines_of, told}
use Rattle.compare.proofs.Marks.{leap_marked, known_mark, known, not_unknown}
use Rattle.compare.proofs.Told.{marks_kept, by_marks}
use Rattle.compare.proofs.Meaning.{says_contradict, says_same}
use Rattle.compare.proofs.Shown.{In, months_in, month_stands, differ_exactly}

-- ---- months without a line

-- where two marks of leaps differ there is a leap
some_leap : (a b : Schedule) (m : ℕ) → leap_mark a.leaps m ≢ leap_mark b.leaps m → (has_leap a.leaps m || has_leap b.leaps m) ≡ true
some_leap a b m n =
    rw (leap_marked a.leaps m, leap_marked b.leaps m)
    (by_bool (eqb (leap_mark a.leaps m) zero_byte)
    (λ t.
    by_bool (eqb (leap_mark b.leaps m) zero_byte)
    (λ u. absurd (n (eqb-true (leap_mark a.leaps m) zero_byte t ∙ sym (eqb-true (leap_mark b.leaps m) zero_byte u))))
    (λ u. rw (t, u)))
    (λ f. rw f))

module _ (a b : Schedule) (m : ℕ) (f : is_expired a.expiry m ≡ false) (g : is_expired b.expiry m ≡ false) where
  -- a month that both know has its line where their leaps differ
  line_known : leap_mark a.leaps m ≢ leap_mark b.leaps m → has_line a b m ≡ true
  line_known n = rw (some_leap a b m n, ne_eqb (mark a m) (mark b m) (λ z. n (sym (known_mark a m f) ∙ (z ∙ known_mark b m g))))

  -- and where it has none they are alike
  no_line_alike : has_line a b m ≡ false → leap_mark a.leaps m ≡ leap_mark b.leaps m
  no_line_alike e =
      by_bool (eqb (leap_mark a.leaps m) (leap_mark b.leaps m)) (λ t. eqb-true (leap_mark a.leaps m) (leap_mark b.leaps m) t)
      (λ n. absurd (true≢false (sym (line_known (eqb-false (leap_mark a.leaps m) (leap_mark b.leaps m) n)) ∙ e)))

-- ---- a line without `?`

-- a line that shows what both lists know: neither mark is `?`
pub record Parting (a b : Schedule) : Type 0 where
  pub month : ℕ
  pub first : ℕ
  pub second : ℕ
  pub line : In (differ month first second) (lines_of a b)
  pub first_known : first ≢ 63
  pub second_known : second ≢ 63

-- the months before n that a list knows are marked alike, or one is not
module _ (a b : Schedule) (e : ℕ) where
  abbrev Alike : ℕ → Type 0
  Alike m = leap_mark a.leaps m ≡ leap_mark b.leaps m

  record Unlike (n : ℕ) : Type 0 where
    month : ℕ
    inside : month < n
    known_there : is_expired e month ≡ false
    unlike : leap_mark a.leaps month ≢ leap_mark b.leaps month

  one_more : (n : ℕ) → (((m : ℕ) → m < n → is_expired e m ≡ false → Alike m) ⊎ Unlike n) → ((m : ℕ) → m < suc n → is_expired e m ≡ false → Alike m) ⊎ Unlike (suc n)
  one_more n (inr u) = inr (record { month = u.month; inside = omega (arith, u.inside); known_there = u.known_there; unlike = u.unlike })
  one_more n (inl f) =
      by_bool (is_expired e n)
      (λ t. inl (λ m h k. ⊎_elim (λ (z : m ≡ n). absurd (true≢false (sym t ∙ (ap (is_expired e) (sym z) ∙ k)))) (λ (l : m < n). f m l k) (eq-or-lt_of_le (le_of_suc-le-suc h))))
      (λ g.
      by_bool (eqb (leap_mark a.leaps n) (leap_mark b.leaps n))
      (λ t.
      inl (λ m h k.
      ⊎_elim (λ (z : m ≡ n). rw z (eqb-true (leap_mark a.leaps n) (leap_mark b.leaps n) t)) (λ (l : m < n). f m l k) (eq-or-lt_of_le (le_of_suc-le-suc h))))
      (λ n'. inr (record { month = n; inside = omega arith; known_there = g; unlike = eqb-false (leap_mark a.leaps n) (leap_mark b.leaps n) n' })))

  found : (n : ℕ) → ((m : ℕ) → m < n → is_expired e m ≡ false → Alike m) ⊎ Unlike n
  found zero = inl (λ m h k. absurd (not-suc-le-zero h))
  found (suc n) = one_more n (found n)

-- a month that a well-formed list knows is at most 2400
known_early : (s : Schedule) → well_formed s ≡ true → (m : ℕ) → is_expired s.expiry m ≡ false → m < 2401
known_early s w m f = omega (arith, within m (omega (arith, known_until s.expiry m f, (parts s w).end)))

module _ (a b : Schedule) (w : well_formed a ≡ true) (w' : well_formed b ≡ true) where
  -- leaps that differ in a month before both expiries
  parts_at : {e : ℕ} → e ≤ a.expiry → e ≤ b.expiry → Unlike a b e 2401 → Parting a b
  parts_at {e} h h' u =
      let before = known_until e u.month u.known_there in
      let f = not_expired a.expiry u.month (omega arith) in
      let g = not_expired b.expiry u.month (omega arith) in
      record {
        month = u.month;
        first = mark a u.month;
        second = mark b u.month;
        line = month_stands a b u.month u.inside (line_known a b u.month f g u.unlike);
        first_known = known a u.month f;
        second_known = known b u.month g;
      }

  extends_or_parts : Extends a b ⊎ (Extends b a ⊎ Parting a b)
  extends_or_parts =
      elim (dec_le b.expiry a.expiry) [
        | yes h ↦
            ⊎_elim
            (λ (f : (m : ℕ) → m < 2401 → is_expired b.expiry m ≡ false → leap_mark a.leaps m ≡ leap_mark b.leaps m).
            inl (by_marks a b w w' h (λ m k. f m (known_early b w' m k) k)))
            (λ (u : Unlike a b b.expiry 2401). inr (inr (parts_at h (omega arith) u)))
            (found a b b.expiry 2401)
        | no h ↦
            ⊎_elim
            (λ (f : (m : ℕ) → m < 2401 → is_expired a.expiry m ≡ false → leap_mark a.leaps m ≡ leap_mark b.leaps m).
            inr (inl (by_marks b a w' w (omega arith) (λ m k. sym (f m (known_early a w m k) k)))))
            (λ (u : Unlike a b a.expiry 2401). inr (inr (parts_at (omega arith) (omega arith) u)))
            (found a b a.expiry 2401)
      ]

  -- what both lists know and say otherwise
  not_alike : (p : Parting a b) → (is_expired a.expiry p.month ≡ false) × (is_expired b.expiry p.month ≡ false) × (leap_mark a.leaps p.month ≢ leap_mark b.leaps p.month)
  not_alike p =
      let s = (differ_exactly a b w w' p.month p.first p.second).0 p.line in
      let f = not_unknown a p.month (λ z. p.first_known (s.0 ∙ z)) in
      let g = not_unknown b p.month (λ z. p.second_known (s.1 ∙ z)) in (
        f,
        g,
        λ e. s.2.1 (s.0 ∙ (known_mark a p.month f ∙ (e ∙ (sym (known_mark b p.month g) ∙ sym s.1)))),
      )

  -- the last line is `contradict` exactly where some line shows no `?`
  pub contradict_by_line : (told (relation a b) ≡ ascii "contradict") ↔ Parting a b
  contradict_by_line = (
    λ e.
        let n = (says_contradict a b).0 e in
        ⊎_elim (λ x. absurd (n.0 x)) (λ y. ⊎_elim (λ x. absurd (n.1 x)) (λ p. p) y) extends_or_parts,
    λ p.
        let u = not_alike p in
        (says_contradict a b).1 (λ x. u.2 (marks_kept x p.month u.1), λ x. u.2 (sym (marks_kept x p.month u.0))),
  )

-- ---- the last line alone

-- no line of n months from m on: none of each
each_none : (a b : Schedule) (m n : ℕ) → month_lines a b m n ≡ [] → (k : ℕ) → m ≤ k → k < m + n → has_line a b k ≡ false
each_none a b m n e k h g =
    by_bool (has_line a b k) (λ t. absurd (let stands = months_in a b m n k h g t in rw e at stands)) (λ f. f)

-- a list compared with itself has none
no_line_lem : (a : Schedule) (m : ℕ) → has_line a a m ≡ false
no_line_lem a m = rw (eq-eqb (mark a m) (mark a m) refl) (and-false (has_leap a.leaps m || has_leap a.leaps m))

no_lines : (a : Schedule) (m n : ℕ) → month_lines a a m n ≡ []
unfolding month_lines line_at
no_lines a m zero = refl
no_lines a m (suc n) = rw (no_line_lem a m) (no_lines a (m + 1) n)

expiries_same : (a b : Schedule) → expiry_lines a b ≡ [] → a.expiry ≡ b.expiry
unfolding expiry_lines
expiries_same a b e =
    by_bool (eqb a.expiry b.expiry) (λ t. eqb-true a.expiry b.expiry t) (λ f. absurd (omega (arith, ap length (rw f at e))))

no_expiries : (a : Schedule) → expiry_lines a a ≡ []
unfolding expiry_lines
no_expiries a = rw (eq-eqb a.expiry a.expiry refl)

none : (xs : List Line) → length xs ≡ 0 → xs ≡ []
none [] e = refl
none (x ∷ xs) e = absurd (omega arith)

-- the last line alone: no other
others_none : (xs ys : List Line) (l k : Line) → xs ++ (ys ++ (l ∷ [])) ≡ k ∷ [] → (xs ≡ []) × (ys ≡ [])
others_none xs ys l k e =
    let n : length xs + (length ys + 1) ≡ 1 = sym (length-append xs (ys ++ (l ∷ [])) ∙ ap (λ (z : ℕ). length xs + z) (length-append ys (l ∷ []))) ∙ ap length e in
    (none xs (omega arith), none ys (omega arith))

module _ (a b : Schedule) (w : well_formed a ≡ true) (w' : well_formed b ≡ true) where
  -- the last line stands alone exactly where the lists are equal
  pub alone_if_equal : (lines_of a b ≡ relation a b ∷ []) ↔ (a ≡ b)
  unfolding lines_of
  alone_if_equal = (
    λ e.
        let p = others_none (month_lines a b 0 2401) (expiry_lines a b) (relation a b) (relation a b) e in
        let z = expiries_same a b p.1 in
        let alike : (m : ℕ) → is_expired a.expiry m ≡ false → leap_mark a.leaps m ≡ leap_mark b.leaps m
        = λ m f. no_line_alike a b m f (rw z at f) (each_none a b 0 2401 p.0 m (omega arith) (omega (arith, known_early a w m f))) in
        both_ways a b w (by_marks a b w w' (omega (arith, z)) (λ m f. alike m (rw z f))) (by_marks b a w' w (omega (arith, z)) (λ m f. sym (alike m f))),
    λ e. rw (← e, no_lines a 0 2401, no_expiries a),
  )

  -- and exactly where it is `same`
  pub alone_if_same : (lines_of a b ≡ relation a b ∷ []) ↔ (told (relation a b) ≡ ascii "same")
  alone_if_same = (
    λ e. (says_same a b w).1 (alone_if_equal.0 e),
    λ e. alone_if_equal.1 ((says_same a b w).0 e),
  )
