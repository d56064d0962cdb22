use Rattle.refusals.specs.Answer.{number, answer_by}
use Rattle.clock.specs.Answers.{instant}
use Rattle.many.specs.Many.{day_or_zero, micros_or_zero}
use Rattle.many.proofs.Answering.{Filled}
use Rattle.many.proofs.fill.fill_utc.Given as goal

abbrev pub invariant-loop-i : goal.invariant-loop-i
invariant-loop-i g l =
    Filled number l.n (goal.F-post g l.ask) (λ r. answer_by instant r) l.initial.numbers l.numbers l.i
    × Filled day_or_zero l.n (goal.F-post g l.ask) (λ r. answer_by instant r) l.initial.days l.days l.i
    × Filled micros_or_zero l.n (goal.F-post g l.ask) (λ r. answer_by instant r) l.initial.micros l.micros l.i
