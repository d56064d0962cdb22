-- `schedule::list::List::sign` meets its contract. Assumes nothing.
use Rattle.std.proofs.Common.{sym, ap, ◌∙◌}
use Rattle.schedule.specs.Schedule.{Leap}
use Rattle.schedule.proofs.Meant.{leap_at_lem}
use Rattle.schedule.proofs.list.List.sign.Goals as goal

pub returns : goal.returns
returns c = c.sign_at.ensures ∙ ap (λ (l : Leap). l.sign) (sym (leap_at_lem c.args.self.words.now c.args.self.formed c.args.i))
