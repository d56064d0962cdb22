use Rattle.schedule.specs.WordLayout.{meant}
use Rattle.many.proofs.Preparing.{Starting}
use Rattle.many.proofs.stretches.lay_starts.Given as goal

abbrev pub invariant-loop-i : goal.invariant-loop-i
invariant-loop-i l = Starting (meant l.list.words.now) l.initial.prepared l.prepared l.i
