-- What only private functions are held to: the leaps by a month, and those of a sign among them. No public contract and no promise speaks of these.
-- Assumes nothing: these are definitions.
use Rattle.std.specs.Prelude.{◌≡◌, ℕ, ◌+◌, ◌<◌, ◌≤◌, cond, List, [], ◌∷◌, length, get_or, take}
use Rattle.schedule.specs.declared.Sign.{Sign}
use Rattle.schedule.specs.declared.Sign.TheVariants.{Negative}
use Rattle.schedule.specs.declared.Leap.{Leap}
use Rattle.schedule.specs.Schedule.{no_leap}
use Rattle.schedule.specs.Extends.{same_sign}

-- of leaps in their order the first n lie at a month or before it, and the next one after it
pub record ByMonth (ls : List Leap) (month n : ℕ) : Type 0 where
  pub room : n ≤ length ls
  pub by : (i : ℕ) → i < n → (get_or ls i no_leap).month ≤ month
  pub after : n < length ls → month < (get_or ls n no_leap).month

-- 1 for a leap of the sign, else 0
abbrev pub one_of : Sign → Sign → ℕ
one_of sign own = cond (same_sign sign own) 1 0

-- how many of the leaps have the sign
abbrev pub of_sign : Sign → List Leap → ℕ
of_sign sign [] = 0
of_sign sign (l ∷ ls) = one_of sign l.sign + of_sign sign ls

-- so many of the first n leaps are negative
pub record Lowered (ls : List Leap) (n down : ℕ) : Type 0 where
  pub sum : down ≡ of_sign Negative (take n ls)
  pub few : down ≤ n
