-- The line is still in the bytes that were lent for it, and ends within them.
use Rattle.shell.specs.Line.{Fits}
use Rattle.shell.proofs.arguments.put_arguments.Given as goal

abbrev pub invariant-loop-i : goal.invariant-loop-i
invariant-loop-i l = Fits l.initial.line l.line
