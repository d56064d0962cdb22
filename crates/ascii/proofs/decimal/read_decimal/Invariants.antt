use mathlib.Core.Path.{◌≡◌}
use Prim.Native.Nat.{◌≤◌}
use lib.ListN.{drop}
use Rattle.ascii.specs.Decimal.{max_number, number_of}
use Rattle.ascii.proofs.Digits.{number_after}
use Rattle.ascii.proofs.decimal.read_decimal.Given as goal

abbrev pub invariant-loop-b : goal.invariant-loop-b
invariant-loop-b l = (l.n ≤ max_number) × (number_of l.field ≡ number_after l.n (drop l.b-index l.field))
