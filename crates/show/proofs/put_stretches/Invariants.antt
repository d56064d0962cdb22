use Rattle.schedule.specs.WordLayout.{meant}
use Rattle.schedule.specs.Left.{left}
use Rattle.show.proofs.Going.{Going}
use Rattle.show.proofs.put_stretches.Given as goal

abbrev pub invariant-loop-leap : goal.invariant-loop-leap
invariant-loop-leap l = Going (meant l.list.words.now) l.initial.out l.out l.from (left l.leap-iterator)
