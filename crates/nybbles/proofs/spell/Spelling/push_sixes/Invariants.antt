use Rattle.nybbles.specs.Codes.{np_of_mark}
use Rattle.nybbles.proofs.Stored as stored
use Rattle.nybbles.proofs.spell.Spelling.push_sixes.Given as goal

abbrev pub invariant-loop-left : goal.invariant-loop-left
invariant-loop-left l = stored.Sixes l.initial.self l.self (np_of_mark l.mark) l.k l.left

abbrev pub decreases-loop-left : goal.decreases-loop-left
decreases-loop-left l = l.left
