use Rattle.schedule.specs.WordLayout.{meant}
use Rattle.questions.proofs.Looked.{Beyond}
use Rattle.questions.proofs.look.leaps_by.Given as goal

-- the leaps from there on lie after the month
abbrev pub invariant-loop-before : goal.invariant-loop-before
invariant-loop-before l = Beyond (meant l.list.words.now).leaps l.month l.before
