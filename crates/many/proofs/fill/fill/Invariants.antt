use Rattle.refusals.specs.Answer.{number, or_zero, answer_of}
use Rattle.many.proofs.Answering.{Filled}
use Rattle.many.proofs.fill.fill.Given as goal

abbrev pub invariant-loop-i : goal.invariant-loop-i
invariant-loop-i g l =
    Filled number l.n (goal.F-post g l.ask) (λ r. answer_of r) l.initial.numbers l.numbers l.i
    × Filled (or_zero l.zero) l.n (goal.F-post g l.ask) (λ r. answer_of r) l.initial.values l.values l.i
