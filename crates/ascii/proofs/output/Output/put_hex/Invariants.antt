use lib.ListN.{drop}
use Rattle.ascii.specs.Hex.{hex}
use Rattle.ascii.proofs.Putting.{Left}
use Rattle.ascii.proofs.output.Output.put_hex.Given as goal

abbrev pub invariant-loop-b : goal.invariant-loop-b
invariant-loop-b l = Left l.initial.self l.self (hex l.bytes) (hex (drop l.b-index l.bytes))
