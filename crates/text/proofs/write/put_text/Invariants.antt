use Rattle.schedule.specs.WordLayout.{meant}
use Rattle.schedule.specs.Left.{left}
use Rattle.text.proofs.Steps.{PutSoFar}
use Rattle.text.proofs.write.put_text.Given as goal

abbrev pub invariant-loop-leap : goal.invariant-loop-leap
invariant-loop-leap l = PutSoFar (meant l.list.words.now) l.initial.out l.out l.last (left l.leap-iterator)
