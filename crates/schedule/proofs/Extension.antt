-- The test of extension means Extends.
-- Assumes nothing.
use Rattle.std.proofs.Common.{◌≡◌, ℕ, ◌≤◌, true, false, eqb, leb, ◌↔◌, List, [], ◌∷◌, sym, refl, ◌∙◌, ap₂, true≢false, arith, eq-eqb, eqb-true, le-leb, leb-true}
use mathlib.Core.Bool.{false≢true, and-eq-true_iff}
use Rattle.calendar.proofs.Laws.{start_lt}
use Rattle.schedule.specs.declared.Sign.{Sign}
use Rattle.schedule.specs.declared.Sign.TheVariants.{Positive, Negative}
use Rattle.schedule.specs.Schedule.{Leap, Schedule, month_start, gaps_fit, well_formed}
use Rattle.schedule.proofs.Cases.{by_bool}
use Rattle.schedule.proofs.Gaps.{fits_lt, first, later, before_end, parts}
use Rattle.schedule.proofs.Expired.{is_expired_lem, not_expired}
use Rattle.schedule.specs.Extends.{below, Extends, same_sign, same_leap, same_leaps, extends}

same_sign_lem : (a b : Sign) → same_sign a b ≡ true → a ≡ b
same_sign_lem Positive Positive h = refl
same_sign_lem Positive Negative h = absurd (false≢true h)
same_sign_lem Negative Positive h = absurd (false≢true h)
same_sign_lem Negative Negative h = refl

sign_same : (a : Sign) → same_sign a a ≡ true
sign_same Positive = refl
sign_same Negative = refl

pub leap_path : {a b : Leap} → a.month ≡ b.month → a.sign ≡ b.sign → a ≡ b
leap_path p q = λ i. record { month = p i; sign = q i }

same_leaps_lem : (xs ys : List Leap) → same_leaps xs ys ≡ true → xs ≡ ys
unfolding same_leaps
same_leaps_lem [] [] h = refl
same_leaps_lem [] (y ∷ ys) h = absurd (false≢true h)
same_leaps_lem (x ∷ xs) [] h = absurd (false≢true h)
same_leaps_lem (x ∷ xs) (y ∷ ys) h =
    let a = (and-eq-true_iff (same_leap x y) (same_leaps xs ys)).0 h in
    let b = (and-eq-true_iff (eqb x.month y.month) (same_sign x.sign y.sign)).0 a.0 in
    ap₂ (λ l ls. l ∷ ls) (leap_path (eqb-true x.month y.month b.0) (same_sign_lem x.sign y.sign b.1)) (same_leaps_lem xs ys a.1)

leaps_same : (xs : List Leap) → same_leaps xs xs ≡ true
unfolding same_leaps
leaps_same [] = refl
leaps_same (x ∷ xs) = rw (eq-eqb x.month x.month refl, sign_same x.sign) (leaps_same xs)

pub all_below_lem : (ls : List Leap) (from expiry : ℕ) → gaps_fit from ls expiry ≡ true → below expiry ls ≡ ls
unfolding below
all_below_lem [] from expiry f = refl
all_below_lem (l ∷ ls) from expiry f =
    let rest = later from l ls expiry f in
    rw (not_expired expiry l.month (before_end ls l.month expiry rest), all_below_lem ls l.month expiry rest)

-- none of the leaps after a month lies below its first day
pub below_none : (day from : ℕ) (ls : List Leap) (e : ℕ) → gaps_fit from ls e ≡ true → day ≤ month_start from → below day ls ≡ []
unfolding below
below_none day from [] e h i = refl
below_none day from (l ∷ ls) e h i =
    let g = start_lt (fits_lt from l.month (first from l ls e h)) in
    rw (is_expired_lem day l.month (omega arith)) (below_none day l.month ls e (later from l ls e h) (omega arith))

-- equal lists extend each other
pub extends_itself : (s : Schedule) → well_formed s ≡ true → Extends s s
extends_itself s w = record { same = all_below_lem s.leaps 0 s.expiry (parts s w).gaps; later = omega arith }

-- the test passes exactly where the one list extends the other
pub extends_means : (longer shorter : Schedule) → (extends longer shorter ≡ true) ↔ Extends longer shorter
extends_means l s = (
  λ h.
      let a = (and-eq-true_iff (leb s.expiry l.expiry) (same_leaps (below s.expiry l.leaps) s.leaps)).0 h in
      record { same = same_leaps_lem (below s.expiry l.leaps) s.leaps a.1; later = leb-true s.expiry l.expiry a.0 },
  λ x. rw (le-leb s.expiry l.expiry x.later, x.same) (leaps_same s.leaps),
)

-- the test and the statement
pub means : {a b : Schedule} → extends a b ≡ true → Extends a b
means {a} {b} h = (extends_means a b).0 h

pub tests : {a b : Schedule} → Extends a b → extends a b ≡ true
tests {a} {b} x = (extends_means a b).1 x

-- and where it fails
pub fails : {a b : Schedule} → ¬ Extends a b → extends a b ≡ false
fails {a} {b} n = by_bool (extends a b) (λ t. absurd (n (means t))) (λ f. f)

pub failed : {a b : Schedule} → extends a b ≡ false → ¬ Extends a b
failed f x = true≢false (sym (tests x) ∙ f)
