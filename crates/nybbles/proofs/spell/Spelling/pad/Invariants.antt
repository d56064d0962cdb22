use Rattle.nybbles.proofs.Evened as evened
use Rattle.nybbles.proofs.spell.Spelling.pad.Given as goal

abbrev pub invariant-loop-i : goal.invariant-loop-i
invariant-loop-i l =
    let was = l.initial.self-inside in
    evened.Pads was.codes was.count was.nybbles l.self-inside.codes l.self-inside.count l.self-inside.nybbles l.i
