-- `many::dtai` meets its contract. Assumes nothing.
use Rattle.std.proofs.Common.{rules, arith}
use Rattle.refusals.specs.Refusals.{not_well_formed}
use Rattle.refusals.proofs.Checks.{stop}
use Rattle.clock.specs.Question.{dtai_on}
use Rattle.many.proofs.Answering.{asks_one}
use Rattle.many.proofs.dtai.Goals as goal

pub returns : goal.returns
returns c =
    c.answer_each.ensures _
    (asks_one dtai_on c.args.days.now (λ s w x. stop _ not_well_formed w) (omega (arith, c.min-n.ensures, c.min.ensures)) (λ list i r h q. search rules))
