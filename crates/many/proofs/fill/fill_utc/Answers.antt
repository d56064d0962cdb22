-- `many::fill::fill_utc` meets its contract. Assumes nothing.
use Rattle.std.proofs.Common.{sym, ap, ◌∙◌}
use Rattle.refusals.specs.Answer.{number, answer_by}
use Rattle.clock.specs.Answers.{instant}
use Rattle.many.specs.Many.{day_or_zero, micros_or_zero}
use Rattle.many.proofs.Answering.{filled_none, filled_one}
use Rattle.many.proofs.fill.fill_utc.Goals.{in-Ok, in-Err}
use Rattle.many.proofs.fill.fill_utc.Goals as goal

pub loop-i-init : goal.loop-i-init
loop-i-init g c = (filled_none, filled_none, filled_none)

pub loop-i-preserved : goal.loop-i-preserved
loop-i-preserved g c =
    let p = c.loop-i.invariant in
    let h = c.loop-i-test.true in
    let room = c.requires.room in
    let q = c.ask.ensures in
    elim c.match-ask.branch [
      | in-Ok w ↦
          let e = ap (λ r. answer_by instant r) (sym w.in-Ok.is) in
          rw (w.numbers-is, w.days-is, w.micros-is)
          (filled_one p.0 h room.0 _ q _ (ap number e), filled_one p.1 h room.1 _ q _ (ap day_or_zero e), filled_one p.2 h room.2 _ q _ (ap micros_or_zero e))
      | in-Err w ↦
          let e = ap (λ r. answer_by instant r) (sym w.in-Err.is) in
          rw (w.numbers-is, w.days-is, w.micros-is)
          (filled_one p.0 h room.0 _ q _ (w.number.ensures ∙ ap number e), filled_one p.1 h room.1 _ q _ (ap day_or_zero e), filled_one p.2 h room.2 _ q _ (ap micros_or_zero e))
    ]
