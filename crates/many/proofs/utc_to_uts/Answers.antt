-- `many::utc_to_uts` meets its contract. Assumes nothing.
use Rattle.std.proofs.Common.{rules, arith}
use Rattle.refusals.specs.Refusals.{not_well_formed}
use Rattle.refusals.proofs.Checks.{stop}
use Rattle.clock.specs.Question.{utc_to_uts}
use Rattle.many.proofs.Answering.{asks_two}
use Rattle.many.proofs.utc_to_uts.Goals as goal

pub returns : goal.returns
returns c =
    c.answer_each.ensures _
    (asks_two utc_to_uts c.args.days.now c.args.micros.now (λ s w x y. stop _ not_well_formed w) (omega (arith, c.min-n.ensures, c.min-2.ensures, c.min.ensures)) (λ list i r h q. search rules))
