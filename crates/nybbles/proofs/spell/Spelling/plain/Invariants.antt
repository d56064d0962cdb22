use Rattle.schedule.specs.WordLayout.{meant}
use Rattle.schedule.specs.Left.{left}
use Rattle.nybbles.proofs.Filled.{Fills}
use Rattle.nybbles.proofs.spell.Spelling.plain.Given as goal

abbrev pub invariant-loop-leap : goal.invariant-loop-leap
invariant-loop-leap l = Fills (meant l.list.words.now) l.spelling l.last (left l.leap-iterator)
