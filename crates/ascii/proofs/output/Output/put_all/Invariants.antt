use lib.ListN.{drop}
use Rattle.ascii.proofs.Putting.{Left}
use Rattle.ascii.proofs.output.Output.put_all.Given as goal

abbrev pub invariant-loop-b : goal.invariant-loop-b
invariant-loop-b l = Left l.initial.out l.out l.bytes (drop l.b-index l.bytes)
