-- `many::fill::fill` meets its contract. Assumes nothing.
use Rattle.std.proofs.Common.{sym, ap, ◌∙◌}
use Rattle.refusals.specs.Answer.{number, or_zero, answer_of}
use Rattle.many.proofs.Answering.{filled_none, filled_one}
use Rattle.many.proofs.fill.fill.Goals.{in-Ok, in-Err}
use Rattle.many.proofs.fill.fill.Goals as goal

pub loop-i-init : goal.loop-i-init
loop-i-init g c = (filled_none, filled_none)

pub loop-i-preserved : goal.loop-i-preserved
loop-i-preserved g c =
    let p = c.loop-i.invariant in
    let h = c.loop-i-test.true in
    let room = c.requires.room in
    let q = c.ask.ensures in
    elim c.match-ask.branch [
      | in-Ok w ↦
          let e = sym w.in-Ok.is in
          rw (w.numbers-is, w.values-is)
          (filled_one p.0 h room.0 _ q _ (ap (λ r. number (answer_of r)) e), filled_one p.1 h room.1 _ q _ (ap (λ r. or_zero c.args.zero (answer_of r)) e))
      | in-Err w ↦
          let e = sym w.in-Err.is in
          rw (w.numbers-is, w.values-is)
          (filled_one p.0 h room.0 _ q _ (w.number.ensures ∙ ap (λ r. number (answer_of r)) e), filled_one p.1 h room.1 _ q _ (ap (λ r. or_zero c.args.zero (answer_of r)) e))
    ]
