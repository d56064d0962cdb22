-- The marks of a month: what its leaps give is no `0` exactly where there is a leap, and never a `?`; a list's mark is `?` exactly from its expiry on.
-- Assumes nothing.
use mathlib.Core.Path.{◌≡◌, refl, sym, ap, ◌∙◌}
use mathlib.Core.Bool.{true, false, not, cond, true≢false}
use mathlib.Core.List.{List, [], ◌∷◌}
use mathlib.Core.Logic.{◌↔◌, ◌≢◌}
use Prim.Native.Nat.{ℕ, ◌≤◌}
use lib.Dec.{eqb}
use native.Mathlib.Omega.{arith}
use borrow.Author.Tests.{ne_eqb, eq-eqb, eqb-false}
use Rattle.ascii.specs.Ascii.{zero_byte}
use Rattle.schedule.specs.declared.Sign.{Sign}
use Rattle.schedule.specs.declared.Sign.TheVariants.{Positive, Negative}
use Rattle.schedule.specs.declared.Leap.{Leap}
use Rattle.schedule.specs.Schedule.{Schedule, month_start, gaps_fit}
use Rattle.schedule.proofs.Cases.{by_bool}
use Rattle.schedule.proofs.Expired.{is_expired_lem, expired_from}
use Rattle.schedule.proofs.Gaps.{fits_lt, first, later}
use Rattle.text.specs.Bytes.{sign_byte, end_byte}
use Rattle.compare.specs.Compare.{has_leap, leap_mark, is_unknown, mark}

pub sign_some : (g : Sign) → eqb (sign_byte g) zero_byte ≡ false
sign_some Positive = refl
sign_some Negative = refl

sign_known : (g : Sign) → eqb (sign_byte g) end_byte ≡ false
sign_known Positive = refl
sign_known Negative = refl

-- signs are told by their bytes, and none is `0`
pub sign_told : (g k : Sign) → sign_byte g ≡ sign_byte k → g ≡ k
sign_told Positive Positive e = refl
sign_told Positive Negative e = absurd (omega arith)
sign_told Negative Positive e = absurd (omega arith)
sign_told Negative Negative e = refl

-- a month cannot be marked as a leap and as none
pub not_both : (g : Sign) {x : ℕ} → x ≡ sign_byte g → x ≡ zero_byte → ⊥
not_both g e f = true≢false (sym (eq-eqb (sign_byte g) zero_byte (sym e ∙ f)) ∙ sign_some g)

-- a month has a leap exactly where the mark is not `0`
pub leap_marked : (ls : List Leap) (m : ℕ) → has_leap ls m ≡ not (eqb (leap_mark ls m) zero_byte)
unfolding has_leap leap_mark
leap_marked [] m = refl
leap_marked (l ∷ ls) m =
    by_bool (eqb l.month m) (λ t. rw (t, sign_some l.sign)) (λ f. rw f (leap_marked ls m))

-- leaps after a month: none at it
pub none_yet : (ls : List Leap) (from e k : ℕ) → gaps_fit from ls e ≡ true → k ≤ from → leap_mark ls k ≡ zero_byte
unfolding leap_mark
none_yet [] from e k f h = refl
none_yet (l ∷ ls) from e k f h =
    let g = fits_lt from l.month (first from l ls e f) in
    rw (ne_eqb l.month k (λ z. omega arith)) (none_yet ls l.month e k (later from l ls e f) (omega arith))

-- leaps leave no month unknown
pub never_unknown : (ls : List Leap) (m : ℕ) → eqb (leap_mark ls m) end_byte ≡ false
unfolding leap_mark
never_unknown [] m = refl
never_unknown (l ∷ ls) m = by_bool (eqb l.month m) (λ t. rw (t, sign_known l.sign)) (λ f. rw f (never_unknown ls m))

module _ (s : Schedule) (m : ℕ) where
  -- a mark that is known is that of the leaps
  pub known_mark : is_unknown s m ≡ false → mark s m ≡ leap_mark s.leaps m
  known_mark f = ap (λ b. cond b end_byte (leap_mark s.leaps m)) f

  pub known : is_unknown s m ≡ false → mark s m ≢ 63
  known f e = eqb-false (leap_mark s.leaps m) end_byte (never_unknown s.leaps m) (sym (known_mark f) ∙ e)

  unknown : is_unknown s m ≡ true → mark s m ≡ 63
  unknown t = ap (λ b. cond b end_byte (leap_mark s.leaps m)) t

  pub not_unknown : mark s m ≢ 63 → is_unknown s m ≡ false
  not_unknown n = by_bool (is_unknown s m) (λ t. absurd (n (unknown t))) (λ f. f)

  -- the mark is `?` exactly in months that start on the list's expiry day or later
  pub unknown_exactly : (mark s m ≡ 63) ↔ (s.expiry ≤ month_start m)
  unknown_exactly = (
    λ e. by_bool (is_unknown s m) (λ t. expired_from s.expiry m t) (λ f. absurd (known f e)),
    λ h. unknown (is_expired_lem s.expiry m h),
  )
