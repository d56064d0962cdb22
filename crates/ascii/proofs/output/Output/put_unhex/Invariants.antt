use mathlib.Core.Path.{◌≡◌}
use Rattle.ascii.specs.Hex.{unhex}
use Rattle.ascii.proofs.Putting.{Left}
use Rattle.ascii.proofs.output.Output.put_unhex.Given as goal

abbrev pub invariant-loop-two : goal.invariant-loop-two
invariant-loop-two l = (l.two-iterator.size ≡ 2) × Left l.initial.self l.self (unhex l.field) (unhex l.two-iterator.rest.now)
