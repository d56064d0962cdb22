-- `questions::tai_to_utc` meets its contract. Assumes nothing.
use Rattle.std.proofs.Common.{sym, ap, ◌∙◌}
use Rattle.refusals.specs.Refusals.{not_well_formed}
use Rattle.refusals.proofs.Checks.{required, given_is}
use Rattle.schedule.specs.Schedule.{well_formed}
use Rattle.schedule.specs.WordLayout.{meant}
use Rattle.clock.specs.Question.{tai_to_utc}
use Rattle.questions.specs.Said.{near_day, day_said}
use Rattle.questions.proofs.Said.{utc_said}
use Rattle.questions.proofs.tai_to_utc.Goals as goal

pub returns : goal.returns
returns c =
    let same = required (well_formed (meant c.args.words.now)) not_well_formed (sym c.in_ok-list.ensures) in
    c.utc_on.ensures
    ∙ utc_said c.args.x.0 (day_said c.day_in.ensures) (λ _. c.near_day-near.ensures ∙ ap (λ last. near_day c.args.x.0 last) c.last_day.ensures)
    ∙ ap (λ words. tai_to_utc (meant words) c.args.x.0) (sym (given_is same.1))
