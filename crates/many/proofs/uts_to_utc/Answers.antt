-- `many::uts_to_utc` meets its contract. Assumes nothing.
use Rattle.std.proofs.Common.{rules, arith}
use Rattle.refusals.specs.Refusals.{not_well_formed}
use Rattle.refusals.proofs.Checks.{stop}
use Rattle.clock.specs.Question.{uts_to_utc}
use Rattle.many.proofs.Answering.{asks_two}
use Rattle.many.proofs.uts_to_utc.Goals as goal

pub returns : goal.returns
returns c =
    c.answer_each.ensures _
    (asks_two uts_to_utc c.args.days.now c.args.nanos.now (λ s w x y. stop _ not_well_formed w) (omega (arith, c.min-n.ensures, c.min-2.ensures, c.min.ensures)) (λ list i r h q. search rules))
