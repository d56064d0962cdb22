use Rattle.schedule.specs.WordLayout.{meant}
use Rattle.many.proofs.Preparing.{Tallying}
use Rattle.many.proofs.stretches.lay_tallies.Given as goal

abbrev pub invariant-loop-i : goal.invariant-loop-i
invariant-loop-i l = Tallying (meant l.list.words.now) l.initial.prepared l.prepared l.down l.i
