-- `schedule::list::List::month` meets its contract. Assumes nothing.
use Rattle.std.proofs.Common.{sym, ap, ◌∙◌}
use Rattle.schedule.specs.Schedule.{Leap}
use Rattle.schedule.proofs.Meant.{leap_at_lem}
use Rattle.schedule.proofs.list.List.month.Goals as goal

pub returns : goal.returns
returns c = c.month_at.ensures ∙ ap (λ (l : Leap). l.month) (sym (leap_at_lem c.args.self.words.now c.args.self.formed c.args.i))
