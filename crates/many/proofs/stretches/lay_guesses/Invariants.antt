use Rattle.many.proofs.Preparing.{Guessing}
use Rattle.many.proofs.stretches.lay_guesses.Given as goal

abbrev pub invariant-loop-i : goal.invariant-loop-i
invariant-loop-i l = Guessing l.initial.prepared l.prepared l.at l.i
