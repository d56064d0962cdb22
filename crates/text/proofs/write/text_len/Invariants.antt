use Rattle.schedule.specs.WordLayout.{meant}
use Rattle.schedule.specs.Left.{left}
use Rattle.text.proofs.Steps.{Counted}
use Rattle.text.proofs.write.text_len.Given as goal

abbrev pub invariant-loop-leap : goal.invariant-loop-leap
invariant-loop-leap l = Counted (meant l.list.words.now) l.len l.last (left l.leap-iterator)
