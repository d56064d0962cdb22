-- How much room a text list needs. Assumes nothing.
use mathlib.Core.Path.{◌≡◌}
use mathlib.Core.Bool.{true}
use mathlib.Core.List.{List, [], ◌∷◌}
use Prim.Native.Nat.{ℕ, ◌+◌, ◌*◌, ◌-◌, ◌≤◌}
use native.Mathlib.Omega.{arith}
use lib.ListN.{length, length-append}
use Rattle.schedule.specs.declared.Leap.{Leap}
use Rattle.schedule.specs.Schedule.{Schedule, expiry_month, well_formed}
use Rattle.schedule.proofs.Gaps.{parts}
use Rattle.text.specs.Write.{text_from, text_of}
use Rattle.text.proofs.Digits.{few}

-- a gap and its mark are at most four bytes
from_short : (ls : List Leap) (from expiry : ℕ) → length (text_from from ls expiry) ≤ 4 * length ls + 4
unfolding text_from
from_short [] from expiry = let a = few (expiry - from) in simp length-append (omega arith)
from_short (l ∷ ls) from expiry =
    let a = few (l.month - from) in
    let i = from_short ls l.month expiry in
    simp length-append (omega arith)

-- and a text has one for each leap, and one for the expiry
pub four_each : (s : Schedule) → length (text_of s) ≤ 4 * length s.leaps + 4
unfolding text_of
four_each s = from_short s.leaps 0 (expiry_month s)

-- the text of a well-formed schedule has at most 1,028 bytes
pub at_most : (s : Schedule) → well_formed s ≡ true → length (text_of s) ≤ 1028
at_most s w = omega (arith, four_each s, (parts s w).room)
