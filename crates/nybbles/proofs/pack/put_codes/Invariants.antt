use Rattle.nybbles.proofs.Packed as packed
use Rattle.nybbles.proofs.pack.put_codes.Given as goal

abbrev pub invariant-loop-code : goal.invariant-loop-code
invariant-loop-code l = packed.Puts l.codes l.initial.out l.out l.at l.code-index
