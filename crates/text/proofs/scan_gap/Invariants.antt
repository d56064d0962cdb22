use mathlib.Core.Path.{◌≡◌}
use Prim.Native.Nat.{ℕ, ◌≤◌}
use lib.ListN.{drop}
use Rattle.schedule.specs.Schedule.{Schedule}
use Rattle.text.specs.Read.{read_from}
use Rattle.text.proofs.scan_gap.Given as goal

abbrev pub invariant-loop-at : goal.invariant-loop-at
invariant-loop-at l =
    (l.gap ≤ 999) × ((t : ℕ) (s : Schedule) → read_from 0 l.fn.from.at t s (drop l.fn.from.at l.bytes) ≡ read_from l.gap l.at t s (drop l.at l.bytes))
