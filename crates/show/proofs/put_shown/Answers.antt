-- `show::put_shown` meets its contract: the words are a list, or they are not. Assumes nothing.
use Rattle.std.proofs.Common.{arith, sym}
use Rattle.refusals.specs.Refusals.{not_well_formed}
use Rattle.refusals.proofs.Checks.{required, given_is}
use Rattle.schedule.specs.WordLayout.{meant}
use Rattle.schedule.specs.Schedule.{well_formed}
use Rattle.schedule.proofs.Cases.{by_bool}
use Rattle.ascii.proofs.Putting.{few}
use Rattle.show.specs.Show.{shown}
use Rattle.show.specs.Private.{shown_from}
use Rattle.show.proofs.put_shown.Goals as goal

pub returns-in-Ok : goal.returns-in-Ok
unfolding shown shown_from
returns-in-Ok c =
    let is = required (well_formed (meant c.args.words.now)) not_well_formed (sym c.in-Ok.ensures) in
    few c.put_stretches.ensures (rw (is.0, given_is is.1)) (omega arith)

pub returns-in-Err : goal.returns-in-Err
unfolding shown
returns-in-Err c =
    let s = meant c.args.words.now in
    by_bool (well_formed s) (λ w. absurd (let e = simp w at c.in-Err.ensures in cc))
    (λ w. few c.put_refusal.ensures (rw w (let e = simp w at c.in-Err.ensures in cc)) (omega arith))
