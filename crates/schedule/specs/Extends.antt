-- When one list extends another, as a statement and as a test that computes.
-- Of schedules that are not well formed the papers do not speak; the same words are used of them.
-- Assumes nothing: these are definitions.
use Rattle.std.specs.Prelude.{◌≡◌, ℕ, ◌≤◌, Bool, true, false, cond, ◌&&◌, List, [], ◌∷◌, ◌==◌, nat_le}
use Rattle.schedule.specs.declared.Sign.{Sign}
use Rattle.schedule.specs.declared.Sign.TheVariants.{Positive, Negative}
use Rattle.schedule.specs.Schedule.{Leap, Schedule, is_expired}

-- the leaps below an expiry: in months that start before that day
unfoldable pub below : ℕ → List Leap → List Leap
below expiry [] = []
below expiry (l ∷ ls) = cond (is_expired expiry l.month) (below expiry ls) (l ∷ below expiry ls)

-- "extends": the longer list's leaps in months that start before the shorter one's expiry day are the shorter one's leaps, all of them, equal in
-- month and sign, and its own expiry is no earlier
pub record Extends (longer shorter : Schedule) : Type 0 where
  pub same : below shorter.expiry longer.leaps ≡ shorter.leaps
  pub later : shorter.expiry ≤ longer.expiry

abbrev pub same_sign : Sign → Sign → Bool
same_sign Positive Positive = true
same_sign Positive Negative = false
same_sign Negative Positive = false
same_sign Negative Negative = true

-- two leaps equal in month and sign
abbrev pub same_leap : Leap → Leap → Bool
same_leap a b = a.month == b.month && same_sign a.sign b.sign

unfoldable pub same_leaps : List Leap → List Leap → Bool
same_leaps [] [] = true
same_leaps [] (b ∷ ys) = false
same_leaps (a ∷ xs) [] = false
same_leaps (a ∷ xs) (b ∷ ys) = same_leap a b && same_leaps xs ys

-- the test that means Extends
abbrev pub extends : Schedule → Schedule → Bool
extends longer shorter =
    nat_le shorter.expiry longer.expiry && same_leaps (below shorter.expiry longer.leaps) shorter.leaps
