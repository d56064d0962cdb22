use Rattle.schedule.specs.WordLayout.{meant}
use Rattle.questions.specs.Private.{Lowered}
use Rattle.questions.proofs.look.lowered.Given as goal

abbrev pub invariant-loop-i : goal.invariant-loop-i
invariant-loop-i l = Lowered (meant l.list.words.now).leaps l.i l.down
