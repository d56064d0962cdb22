-- The leaps of a list that lie before a month, and those at or after it.
-- Assumes nothing.
use Rattle.std.proofs.Common.{◌≡◌, ℕ, ◌+◌, ◌≤◌, ◌<◌, true, false, cond, eqb, ltb, Option, Some, None, List, [], ◌∷◌, length, refl, sym, ap, ap₂, ◌∙◌, arith, eqb-true, eq-eqb, ne_eqb}
use Rattle.std.specs.Iterator.{YieldsFirst}
use borrow.Author.Tests.{eqb-false}
use Rattle.ascii.specs.Ascii.{zero_byte}
use Rattle.schedule.specs.declared.Leap.{Leap}
use Rattle.schedule.specs.declared.leaps.Leaps.{Leaps}
use Rattle.schedule.specs.Schedule.{Schedule, gaps_fit, well_formed}
use Rattle.schedule.specs.Left.{left}
use Rattle.schedule.proofs.Cases.{by_bool}
use Rattle.schedule.proofs.Gaps.{fits_lt, first, later, parts}
use Rattle.text.specs.Bytes.{end_byte}
use Rattle.compare.specs.Compare.{leap_mark, mark}
use Rattle.compare.specs.Private.{past_months, first_month, last_known, first_mark, mark_ahead, next_of, passed}
use Rattle.compare.proofs.Marks.{sign_some, none_yet}
use Rattle.compare.proofs.Places.{unknown_after}

-- the leap that an iterator gives, and those that it has left then
pub taken : (it it' : Leaps) (next : Option Leap) → YieldsFirst left it next it' → next_of next (left it') ≡ left it
taken it it' None h = sym h.0
taken it it' (Some l) h = sym h

-- up to the first leap's month the first leap alone gives the mark
first_gives : (ls : List Leap) (from e k : ℕ) → gaps_fit from ls e ≡ true → k ≤ first_month ls → leap_mark ls k ≡ first_mark ls k
unfolding leap_mark first_month first_mark
first_gives [] from e k f h = refl
first_gives (l ∷ ls) from e k f h =
    by_bool (eqb l.month k) (λ t. rw t) (λ n. rw n (none_yet ls l.month e k (later from l ls e f) h))

-- before it there is none, and at it there is one
before_first : (ls : List Leap) (k : ℕ) → k < first_month ls → first_mark ls k ≡ zero_byte
unfolding first_month first_mark
before_first [] k h = refl
before_first (l ∷ ls) k h = rw (ne_eqb l.month k (λ z. omega arith))

at_first : (ls : List Leap) (k : ℕ) → k ≡ first_month ls → k < past_months → eqb (first_mark ls k) zero_byte ≡ false
unfolding first_month first_mark
at_first [] k e h = absurd (omega arith)
at_first (l ∷ ls) k e h = rw (eq-eqb l.month k (sym e)) (sign_some l.sign)

-- leaps after a month: the first is later
after : (ls : List Leap) (from e : ℕ) → gaps_fit from ls e ≡ true → from < past_months → from < first_month ls
unfolding first_month
after [] from e f h = h
after (l ∷ ls) from e f h = fits_lt from l.month (first from l ls e f)

-- of the leaps of a list, `ls` lie at the month or after it, and the others before it
pub record Ahead (s : Schedule) (ls : List Leap) (m : ℕ) : Type 0 where
  pub well : well_formed s ≡ true
  pub fewer : length ls ≤ length s.leaps
  pub last : ℕ
  pub gaps : gaps_fit last ls s.expiry ≡ true
  pub same : (k : ℕ) → m ≤ k → leap_mark s.leaps k ≡ leap_mark ls k
  pub up_to : m ≤ first_month ls

pub begin : (s : Schedule) → well_formed s ≡ true → Ahead s s.leaps 0
begin s w = record { well = w; fewer = omega arith; last = 0; gaps = (parts s w).gaps; same = λ k h. refl; up_to = omega arith }

-- the same from a later month on, up to the first leap
pub later_month : {s : Schedule} {ls : List Leap} {m : ℕ} → Ahead s ls m → (n : ℕ) → m ≤ n → n ≤ first_month ls → Ahead s ls n
later_month a n h g = record { well = a.well; fewer = a.fewer; last = a.last; gaps = a.gaps; same = λ k l. a.same k (omega arith); up_to = g }

module _ {s : Schedule} {ls : List Leap} {m : ℕ} (a : Ahead s ls m) where
  -- the mark of a month up to the first leap's, and whether it has a leap
  leap_mark_lem : (k : ℕ) → m ≤ k → k ≤ first_month ls → leap_mark s.leaps k ≡ first_mark ls k
  leap_mark_lem k h g = a.same k h ∙ first_gives ls a.last s.expiry k a.gaps g

  pub no_leap_lem : (k : ℕ) → m ≤ k → k < first_month ls → leap_mark s.leaps k ≡ zero_byte
  no_leap_lem k h g = leap_mark_lem k h (omega arith) ∙ before_first ls k g

  pub has_leap_lem : m ≡ first_month ls → m < past_months → eqb (leap_mark s.leaps m) zero_byte ≡ false
  has_leap_lem e h = ap (λ (x : ℕ). eqb x zero_byte) (leap_mark_lem m (omega arith) (omega arith)) ∙ at_first ls m e h

  pub mark_is : {known : ℕ} → known ≡ last_known s → mark s m ≡ mark_ahead known ls m
  mark_is {known} e =
      ap₂ (λ b x. cond b end_byte x) (unknown_after s a.well m ∙ ap (λ (k : ℕ). ltb k m) (sym e)) (leap_mark_lem m (omega arith) a.up_to)

-- a leap gives a later month no mark
unmarked : (l : Leap) (ls : List Leap) (k : ℕ) → l.month < k → leap_mark (l ∷ ls) k ≡ leap_mark ls k
unfolding leap_mark
unmarked l ls k g = simp (ne_eqb l.month k (λ z. omega arith))

-- past a month: its leap is passed, if there is one
pub past : {s : Schedule} {m : ℕ} (ls : List Leap) → Ahead s ls m → m < past_months → Ahead s (passed m ls) (m + 1)
unfolding first_month passed
past {m = m} [] a h = later_month a (m + 1) (omega arith) (omega arith)
past {s} {m} (l ∷ ls) a h =
    let rest = later a.last l ls s.expiry a.gaps in
    by_bool (eqb l.month m)
    (λ t.
    let e = eqb-true l.month m t in
    rw t (record {
      well = a.well;
      fewer = omega (arith, a.fewer);
      last = l.month;
      gaps = rest;
      same = λ k g. a.same k (omega arith) ∙ unmarked l ls k (omega arith);
      up_to = omega (arith, after ls l.month s.expiry rest (omega arith), e);
    }))
    (λ f. rw f (later_month a (m + 1) (omega arith) (omega (arith, a.up_to, eqb-false l.month m f))))

-- and one leap fewer is left if there is one at the month
pub fewer_left : {m : ℕ} (ls : List Leap) → m < past_months → (length (passed m ls) ≤ length ls) × (m ≡ first_month ls → length (passed m ls) + 1 ≡ length ls)
unfolding first_month passed
fewer_left [] h = (omega arith, λ e. absurd (omega arith))
fewer_left {m} (l ∷ ls) h =
    by_bool (eqb l.month m) (λ t. rw t (omega arith, λ e. omega arith)) (λ f. rw f (omega arith, λ e. absurd (eqb-false l.month m f (sym e))))
