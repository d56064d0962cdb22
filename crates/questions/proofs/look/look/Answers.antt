-- `questions::look::look` meets its contract. Assumes nothing.
use Rattle.std.proofs.Common.{refl}
use Rattle.schedule.specs.WordLayout.{meant}
use Rattle.questions.proofs.Looked.{said_by_lem}
use Rattle.questions.proofs.look.look.Goals as goal

pub returns : goal.returns
returns c =
    let list = c.args.list in
    let n = c.leaps_by-n in (
      c.last_day.ensures,
      λ i. said_by_lem (meant list.words.now) list.formed c.args.day c.args.month n.result n.ensures i
          c.lowered-down.result c.lowered-down.ensures _ refl refl (c.ending_on-ending.ensures c.args.month n.ensures i),
    )
