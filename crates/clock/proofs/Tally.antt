-- Leaps counted by their sign, for proofs: DTAI is 10 and the positive ones in effect, less the negative ones (`dtai_tallied`).
-- Assumes nothing: these are definitions.
use mathlib.Core.Bool.{Bool, cond, ◌&&◌}
use mathlib.Core.List.{List, [], ◌∷◌}
use Prim.Native.Nat.{ℕ, ◌+◌}
use Rattle.schedule.specs.declared.Sign.{Sign}
use Rattle.schedule.specs.declared.Leap.{Leap}
use Rattle.schedule.specs.Extends.{same_sign}
use Rattle.clock.specs.Days.{in_effect}

-- 1 where a test passes, else 0
abbrev pub count : Bool → ℕ
count b = cond b 1 0

-- how many leaps of a sign are in effect on a day
abbrev pub tally : Sign → List Leap → ℕ → ℕ
tally sign [] day = 0
tally sign (l ∷ ls) day = count (same_sign sign l.sign && in_effect l day) + tally sign ls day
