-- `many::prepared::PreparedList::found` meets its contract. Assumes nothing.
use mathlib.Core.Path.{refl, ◌∙◌}
use native.Mathlib.Omega.{arith}
use Rattle.many.proofs.Stretched.{day_in_stretch, day_for_near}
use Rattle.many.proofs.prepared.PreparedList.found.Goals as goal

pub returns : goal.returns
returns c =
    let list = c.args.self in
    day_for_near (c.from-last.ensures ∙ list.tells.is_last)
    (rw (← c.min-near.ensures) (day_in_stretch list.tells (omega (arith, c.min-near.ensures, c.from-last.ensures, list.ready.inside)) c.walk-at.ensures _ refl refl
    (c.ending_in-ending.ensures _ list.tells) c.from-last.ensures))
