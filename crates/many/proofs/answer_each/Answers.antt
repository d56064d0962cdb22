-- `many::answer_each` meets its contract. Assumes nothing.
use Rattle.std.proofs.Common.{◌≡◌, Err, rules}
use Rattle.refusals.specs.Refusals.{not_well_formed}
use Rattle.refusals.specs.declared.Refusal.TheVariants.{NotWellFormed}
use Rattle.schedule.specs.Schedule.{well_formed}
use Rattle.schedule.specs.WordLayout.{meant}
use Rattle.many.proofs.Preparing.{all_clear}
use Rattle.many.proofs.Answering.{hands_many, same_list, no_list}
use Rattle.many.proofs.answer_each.Goals.{in-Ok, in-Err}
use Rattle.many.proofs.answer_each.Goals as goal

pub prepare-requires : goal.prepare-requires
prepare-requires g c = all_clear

pub returns : goal.returns
returns g c answers a =
    let words = c.args.words.now in
    let s = meant words in
    elim c.match-of.branch [
      | in-Ok w ↦
          let prepared = w.new-prepared.result in
          rw (w.numbers-is, w.values-is)
          (hands_many (a.its_count s) (w.fill.ensures (answers s)
          (same_list answers prepared.list.words.now w.in-Ok.list.words.now words w.new-prepared.ensures w.in-Ok.ensures
          (record { each = λ i r h q. (a.given prepared).each i r h (search rules) }))))
      | in-Err w ↦
          let none = no_list words (well_formed s) _ not_well_formed w.in-Err.ensures in
          rw (w.numbers-is, w.values-is)
          (hands_many (a.its_count s) (w.fill-in-Err.ensures (answers s)
          (record { each = λ i r h q. let e : r ≡ Err NotWellFormed = search rules in rw e (a.none s none.0 i h) })))
    ]
