-- What the last line of a comparison says, what a mark says, and which months have a line.
-- Assumes nothing.
use mathlib.Core.Path.{◌≡◌, refl, sym, ap, ◌∙◌}
use mathlib.Core.Bool.{Bool, true, false, not, ◌||◌, true≢false, and-eq-true_iff}
use mathlib.Core.List.{List, [], ◌∷◌}
use mathlib.Core.Logic.{◌↔◌, ◌≢◌, ◌⊎◌, inl, inr, ⊎_elim}
use Prim.Native.Nat.{ℕ, ◌<◌}
use native.Mathlib.Omega.{arith}
use lib.Dec.{eqb}
use lib.ListN.{length, get_or}
use borrow.Author.Tests.{eqb-true, eq-eqb, ne_eqb}
use Rattle.ascii.specs.Ascii.{ascii, zero_byte}
use Rattle.schedule.specs.declared.Sign.{Sign}
use Rattle.schedule.specs.declared.Sign.TheVariants.{Positive, Negative}
use Rattle.schedule.specs.declared.Leap.{Leap}
use Rattle.schedule.specs.Schedule.{Schedule, month_start, gaps_fit, well_formed}
use Rattle.schedule.proofs.WordLayout.{within}
use Rattle.schedule.specs.Extends.{Extends, extends}
use Rattle.schedule.proofs.Cases.{by_bool}
use Rattle.schedule.proofs.Expired.{not_expired, known_until}
use Rattle.schedule.proofs.Extension.{extends_itself, means, tests, fails, failed}
use Rattle.schedule.proofs.Gaps.{later, before_end, parts}
use Rattle.schedule.proofs.Order.{both_ways}
use Rattle.text.specs.Bytes.{sign_byte}
use Rattle.compare.specs.Compare.{has_leap, leap_mark, mark, has_line, relation_by, relation, told}
use Rattle.compare.proofs.Marks.{leap_marked, none_yet, sign_told, not_both, known_mark, not_unknown}

-- ---- the last line

-- it tells which of the two tests passed
relation_told : (x y x' y' : Bool) → relation_by x y ≡ relation_by x' y' → (x ≡ x') × (y ≡ y')
unfolding relation_by
relation_told true true true true e = (refl, refl)
relation_told true true true false e = absurd (omega (arith, ap length e))
relation_told true true false true e = absurd (omega (arith, ap length e))
relation_told true true false false e = absurd (omega (arith, ap length e))
relation_told true false true true e = absurd (omega (arith, ap length e))
relation_told true false true false e = (refl, refl)
relation_told true false false true e = absurd (omega (arith, ap (λ (xs : List ℕ). get_or xs 8 0) e))
relation_told true false false false e = absurd (omega (arith, ap length e))
relation_told false true true true e = absurd (omega (arith, ap length e))
relation_told false true true false e = absurd (omega (arith, ap (λ (xs : List ℕ). get_or xs 8 0) e))
relation_told false true false true e = (refl, refl)
relation_told false true false false e = absurd (omega (arith, ap length e))
relation_told false false true true e = absurd (omega (arith, ap length e))
relation_told false false true false e = absurd (omega (arith, ap length e))
relation_told false false false true e = absurd (omega (arith, ap length e))
relation_told false false false false e = (refl, refl)

module _ (a b : Schedule) where
  -- `extends 1` says that the first extends the second, and not the second the first
  pub says_extends_1 : (told (relation a b) ≡ ascii "extends 1") ↔ (Extends a b × ¬ Extends b a)
  unfolding relation_by
  says_extends_1 = (
    λ e. let p = relation_told (extends a b) (extends b a) true false e in (means p.0, failed p.1),
    λ p. rw (tests p.0, fails p.1),
  )

  -- `extends 2` that the second extends the first, and not the first the second
  pub says_extends_2 : (told (relation a b) ≡ ascii "extends 2") ↔ (¬ Extends a b × Extends b a)
  unfolding relation_by
  says_extends_2 = (
    λ e. let p = relation_told (extends a b) (extends b a) false true e in (failed p.0, means p.1),
    λ p. rw (fails p.0, tests p.1),
  )

  -- `contradict` that neither extends the other
  pub says_contradict : (told (relation a b) ≡ ascii "contradict") ↔ (¬ Extends a b × ¬ Extends b a)
  unfolding relation_by
  says_contradict = (
    λ e. let p = relation_told (extends a b) (extends b a) false false e in (failed p.0, failed p.1),
    λ p. rw (fails p.0, fails p.1),
  )

  -- `same` that each extends the other, and so that the lists are equal
  pub says_same : well_formed a ≡ true → (told (relation a b) ≡ ascii "same") ↔ (a ≡ b)
  unfolding relation_by
  says_same w = (
    λ e. let p = relation_told (extends a b) (extends b a) true true e in both_ways a b w (means p.0) (means p.1),
    λ e. let i = tests (extends_itself a w) in rw (← e, i),
  )

-- ---- which months have a line

-- `+` and `-`
abbrev pub IsLeap : ℕ → Type 0
IsLeap x = (x ≡ 43) ⊎ (x ≡ 45)

sign_leap : (g : Sign) → IsLeap (sign_byte g)
sign_leap Positive = inl refl
sign_leap Negative = inr refl

leap_some : {x : ℕ} → IsLeap x → eqb x zero_byte ≡ false
leap_some (inl e) = rw e refl
leap_some (inr e) = rw e refl

leap_known : {x : ℕ} → IsLeap x → x ≢ 63
leap_known (inl e) z = omega arith
leap_known (inr e) z = omega arith

-- leaps mark a month by `+` or `-`, or by `0`
marked_leap : (ls : List Leap) (m : ℕ) → has_leap ls m ≡ true → IsLeap (leap_mark ls m)
unfolding has_leap leap_mark
marked_leap [] m h = absurd (true≢false (sym h))
marked_leap (l ∷ ls) m h =
    by_bool (eqb l.month m) (λ t. rw t (sign_leap l.sign)) (λ f. rw f (marked_leap ls m (rw f at h)))

-- a list has its leaps before its expiry
early : (ls : List Leap) (from e m : ℕ) → gaps_fit from ls e ≡ true → has_leap ls m ≡ true → month_start m < e
unfolding has_leap
early [] from e m g h = absurd (true≢false (sym h))
early (l ∷ ls) from e m g h =
    let more = later from l ls e g in
    by_bool (eqb l.month m) (λ t. omega (arith, ap month_start (eqb-true l.month m t), before_end ls l.month e more)) (λ f. early ls l.month e m more (rw f at h))

module _ (s : Schedule) (m : ℕ) where
  -- a well-formed list has a leap at a month exactly where its mark is one
  leap_shown : well_formed s ≡ true → (has_leap s.leaps m ≡ true) ↔ IsLeap (mark s m)
  leap_shown w = (
    λ h. rw (known_mark s m (not_expired s.expiry m (early s.leaps 0 s.expiry m (parts s w).gaps h))) (marked_leap s.leaps m h),
    λ l.
        let f = not_unknown s m (leap_known l) in
        leap_marked s.leaps m ∙ ap not (ap (λ (x : ℕ). eqb x zero_byte) (sym (known_mark s m f)) ∙ leap_some l),
  )

or_true_iff : (x y : Bool) → ((x || y) ≡ true) ↔ ((x ≡ true) ⊎ (y ≡ true))
or_true_iff true y = (λ e. inl refl, λ e. refl)
or_true_iff false y = (λ e. inr e, λ e. ⊎_elim (λ z. absurd (true≢false (sym z))) (λ z. z) e)

-- ---- what a mark says

-- one of the leaps is at a month and has a sign
abbrev pub HasLeapOf : List Leap → ℕ → Sign → Type 0
HasLeapOf [] m g = ⊥
HasLeapOf (l ∷ ls) m g = ((l.month ≡ m) × (l.sign ≡ g)) ⊎ HasLeapOf ls m g

is_there : (ls : List Leap) (m : ℕ) (g : Sign) → HasLeapOf ls m g → has_leap ls m ≡ true
unfolding has_leap
is_there [] m g h = elim h [ ]
is_there (l ∷ ls) m g (inl e) = rw (eq-eqb l.month m e.0)
is_there (l ∷ ls) m g (inr h) = (or_true_iff (eqb l.month m) (has_leap ls m)).1 (inr (is_there ls m g h))

marked_there : (ls : List Leap) (m : ℕ) (g : Sign) → leap_mark ls m ≡ sign_byte g → HasLeapOf ls m g
unfolding leap_mark
marked_there [] m g e = absurd (not_both g e refl)
marked_there (l ∷ ls) m g e =
    by_bool (eqb l.month m) (λ t. inl (eqb-true l.month m t, sign_told l.sign g (rw t at e))) (λ f. inr (marked_there ls m g (rw f at e)))

there_marked : (ls : List Leap) (from e m : ℕ) (g : Sign) → gaps_fit from ls e ≡ true → HasLeapOf ls m g → leap_mark ls m ≡ sign_byte g
unfolding leap_mark
there_marked [] from e m g f h = elim h [ ]
there_marked (l ∷ ls) from e m g f (inl p) = rw (eq-eqb l.month m p.0) (ap sign_byte p.1)
there_marked (l ∷ ls) from e m g f (inr h) =
    let more = later from l ls e f in
    let rest = there_marked ls l.month e m g more h in
    by_bool (eqb l.month m) (λ t. absurd (not_both g rest (none_yet ls l.month e m more (omega (arith, eqb-true l.month m t))))) (λ n. rw n rest)

-- a month without a leap is marked `0`
no_leap_lem : (ls : List Leap) (m : ℕ) → has_leap ls m ≡ false → leap_mark ls m ≡ zero_byte
unfolding has_leap leap_mark
no_leap_lem [] m h = refl
no_leap_lem (l ∷ ls) m h =
    by_bool (eqb l.month m) (λ t. absurd (true≢false (sym (rw t refl) ∙ h))) (λ f. rw f (no_leap_lem ls m (rw f at h)))

-- the mark of a well-formed list is a sign's byte exactly where it has a leap of that sign
sign_exactly : (s : Schedule) (m : ℕ) (g : Sign) → well_formed s ≡ true → (mark s m ≡ sign_byte g) ↔ HasLeapOf s.leaps m g
sign_exactly s m g w = (
  λ e. marked_there s.leaps m g (sym (known_mark s m (not_unknown s m (λ z. leap_known (sign_leap g) (sym e ∙ z)))) ∙ e),
  λ h.
      known_mark s m (not_expired s.expiry m (early s.leaps 0 s.expiry m (parts s w).gaps (is_there s.leaps m g h)))
      ∙ there_marked s.leaps 0 s.expiry m g (parts s w).gaps h,
)

-- the mark of a well-formed list is `+` exactly where it has a positive leap at that month, and `-` exactly where it has a negative one
pub plus_exactly : (s : Schedule) (m : ℕ) → well_formed s ≡ true → (mark s m ≡ 43) ↔ HasLeapOf s.leaps m Positive
plus_exactly s m w = sign_exactly s m Positive w

pub minus_exactly : (s : Schedule) (m : ℕ) → well_formed s ≡ true → (mark s m ≡ 45) ↔ HasLeapOf s.leaps m Negative
minus_exactly s m w = sign_exactly s m Negative w

-- and `0` exactly where the month starts before the expiry and there is no leap
pub none_exactly : (s : Schedule) (m : ℕ) → (mark s m ≡ 48) ↔ ((month_start m < s.expiry) × (has_leap s.leaps m ≡ false))
none_exactly s m = (
  λ e.
      let f = not_unknown s m (λ z. omega (arith, e, z)) in
      (known_until s.expiry m f, leap_marked s.leaps m ∙ ap not (eq-eqb (leap_mark s.leaps m) zero_byte (sym (known_mark s m f) ∙ e))),
  λ p. known_mark s m (not_expired s.expiry m p.0) ∙ no_leap_lem s.leaps m p.1,
)

module _ (a b : Schedule) (m : ℕ) where
  -- the test of a line, in its parts
  test_parts : (has_line a b m ≡ true) ↔ (((has_leap a.leaps m ≡ true) ⊎ (has_leap b.leaps m ≡ true)) × (mark a m ≢ mark b m))
  test_parts = (
    λ t.
        let p = (and-eq-true_iff (has_leap a.leaps m || has_leap b.leaps m) (not (eqb (mark a m) (mark b m)))).0 t in (
          (or_true_iff (has_leap a.leaps m) (has_leap b.leaps m)).0 p.0,
          λ e. true≢false (sym p.1 ∙ ap not (eq-eqb (mark a m) (mark b m) e)),
        ),
    λ p. rw ((or_true_iff (has_leap a.leaps m) (has_leap b.leaps m)).1 p.0, ne_eqb (mark a m) (mark b m) p.1),
  )

  -- a month has its line exactly where one list's mark is a leap and the other's is not that leap
  pub line_exactly : well_formed a ≡ true → well_formed b ≡ true → (has_line a b m ≡ true) ↔ ((IsLeap (mark a m) ⊎ IsLeap (mark b m)) × (mark a m ≢ mark b m))
  line_exactly w w' = (
    λ t.
        let p = test_parts.0 t in (
          ⊎_elim (λ (h : has_leap a.leaps m ≡ true). inl ((leap_shown a m w).0 h)) (λ (h : has_leap b.leaps m ≡ true). inr ((leap_shown b m w').0 h)) p.0,
          p.1,
        ),
    λ p. test_parts.1 (
      ⊎_elim (λ (l : IsLeap (mark a m)). inl ((leap_shown a m w).1 l)) (λ (l : IsLeap (mark b m)). inr ((leap_shown b m w').1 l)) p.0,
      p.1,
    ),
  )

  -- such a month is at most 2400
  pub line_early : well_formed a ≡ true → well_formed b ≡ true → has_line a b m ≡ true → m < 2401
  line_early w w' t = ⊎_elim (inside a w) (inside b w') (test_parts.0 t).0
    where
      inside : (s : Schedule) → well_formed s ≡ true → has_leap s.leaps m ≡ true → m < 2401
      inside s u h = omega (arith, within m (omega (arith, early s.leaps 0 s.expiry m (parts s u).gaps h, (parts s u).end)))
