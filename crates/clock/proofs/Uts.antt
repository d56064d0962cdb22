-- Smoothed time over one day: where it starts to differ from UTC, that it rises, how far it goes, and document 002's algorithm.
-- Assumes nothing.
use mathlib.Core.Bool.{Bool, true, false, cond}
use mathlib.Core.Path.{◌≡◌, refl}
use Prim.Native.Nat.{ℕ, ◌+◌, ◌-◌, ◌*◌, ◌≤◌, ◌<◌}
use native.Mathlib.Omega.{arith}
use native.Mathlib.Decide.{dec_lt}
use lib.Dec.{ltb}
use borrow.Author.Tests.{ltb-false, le-ltb, le-leb, lt-leb}
use Rattle.clock.specs.declared.Ending.{Ending}
use Rattle.clock.specs.declared.Ending.TheVariants.{Ordinary, Inserted, Deleted}
use Rattle.clock.specs.Days.{day_length}
use Rattle.clock.specs.Smoothed.{nanos_per_day, nanos_per_second, smoothing, minus, uts}
use Rattle.clock.specs.Document002.{hms, plus, algorithm}
use Rattle.clock.specs.Known.{uts_cutoff}

-- where more than the last 1,000 s are left, there is nothing to take away
minus_none : (w : Ending) (x y : ℕ) → y ≡ 0 → x ≡ minus w x y
minus_none Ordinary x y e = refl
minus_none Inserted x y e = omega arith
minus_none Deleted x y e = omega arith

pub uts_early : (w : Ending) (t : ℕ) → smoothing ≤ day_length w - t → uts w t ≡ 1000 * t
unfolding uts
uts_early w t h = rw (le-ltb (day_length w - t) smoothing h)

-- the rule without its test, since a difference of numbers stops at 0
pub uts_is : (w : Ending) (t : ℕ) → uts w t ≡ minus w (1000 * t) (smoothing - (day_length w - t))
unfolding uts
uts_is w t = go (ltb (day_length w - t) smoothing) refl
  where
    go : (b : Bool) → ltb (day_length w - t) smoothing ≡ b
        → cond b (minus w (1000 * t) (smoothing - (day_length w - t))) (1000 * t) ≡ minus w (1000 * t) (smoothing - (day_length w - t))
    go true e = refl
    go false e = minus_none w (1000 * t) (smoothing - (day_length w - t)) (omega (arith, ltb-false (day_length w - t) smoothing e))

-- it rises through a day
pub uts_rises : (w : Ending) (a b : ℕ) → a < b → b < day_length w → uts w a < uts w b
uts_rises Ordinary a b h i = rw (uts_is Ordinary a, uts_is Ordinary b) (omega arith)
uts_rises Inserted a b h i = rw (uts_is Inserted a, uts_is Inserted b) (omega arith)
uts_rises Deleted a b h i = rw (uts_is Deleted a, uts_is Deleted b) (omega arith)

-- it stays within 86,400 s
pub uts_within : (w : Ending) (t : ℕ) → t < day_length w → uts w t < nanos_per_day
uts_within Ordinary t h = rw (uts_is Ordinary t) (omega arith)
uts_within Inserted t h = rw (uts_is Inserted t) (omega arith)
uts_within Deleted t h = rw (uts_is Deleted t) (omega arith)

-- and less than one second from UTC
pub uts_near : (w : Ending) (t : ℕ) → t < day_length w → (uts w t < 1000 * t + nanos_per_second) × (1000 * t < uts w t + nanos_per_second)
uts_near Ordinary t h = rw (uts_is Ordinary t) (omega arith)
uts_near Inserted t h = rw (uts_is Inserted t) (omega arith)
uts_near Deleted t h = rw (uts_is Deleted t) (omega arith)

-- however the day ends, it is UTC up to the last 1,000 s of the shortest day
pub uts_plain : (w : Ending) (t : ℕ) → t ≤ uts_cutoff → uts w t ≡ 1000 * t
uts_plain Ordinary t h = uts_is Ordinary t
uts_plain Inserted t h = rw (uts_is Inserted t) (omega arith)
uts_plain Deleted t h = rw (uts_is Deleted t) (omega arith)

-- ---- document 002

remaining : (w : Ending) → plus w (hms 24 0 0) (hms 0 0 1) ≡ day_length w
remaining Ordinary = refl
remaining Inserted = refl
remaining Deleted = refl

-- a time of day from 23:59:60 on lies in an inserted second
in_leap : (w : Ending) (t : ℕ) → hms 23 59 60 ≤ t → t < day_length w → uts w t ≡ 1000 * hms 23 59 59 + 1_000_000 + (t - hms 23 59 60) * 999
in_leap Ordinary t h i = absurd (omega arith)
in_leap Inserted t h i = rw (uts_is Inserted t) (omega arith)
in_leap Deleted t h i = absurd (omega arith)

-- smoothing starts at 23:43:21 before an inserted second and at 23:43:19 before a deleted one: up to then UTS is UTC, and after it not
pub smoothing_starts : (t : ℕ) → (t < day_length Inserted → hms 23 43 21 < t → uts Inserted t < 1000 * t) × (t ≤ hms 23 43 21 → uts Inserted t ≡ 1000 * t)
    × (t < day_length Deleted → hms 23 43 19 < t → 1000 * t < uts Deleted t) × (t ≤ hms 23 43 19 → uts Deleted t ≡ 1000 * t)
smoothing_starts t = (
  λ h i. rw (uts_is Inserted t) (omega arith),
  λ i. rw (uts_is Inserted t) (omega arith),
  λ h i. rw (uts_is Deleted t) (omega arith),
  λ i. rw (uts_is Deleted t) (omega arith),
)

-- the one rule agrees with both branches of document 002
pub both_branches : (w : Ending) (t : ℕ) → t < day_length w → uts w t ≡ algorithm w t
unfolding uts algorithm
both_branches w t h =
    elim (dec_lt t (hms 23 59 60)) [
      | yes l ↦ rw (lt-leb (hms 23 59 60) t l, remaining w)
      | no l ↦ let i : hms 23 59 60 ≤ t = omega arith in rw (le-leb (hms 23 59 60) t i) (in_leap w t i h)
    ]
