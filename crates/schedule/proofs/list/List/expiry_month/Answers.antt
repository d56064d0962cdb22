-- `schedule::list::List::expiry_month` meets its contract. Assumes nothing.
use Rattle.std.proofs.Common.{sym, ap, ◌∙◌}
use Rattle.schedule.specs.Schedule.{month_of}
use Rattle.schedule.proofs.Meant.{expiry_is}
use Rattle.schedule.proofs.list.List.expiry_month.Goals as goal

pub returns : goal.returns
returns c = c.expiry_month.ensures ∙ ap month_of (sym (expiry_is c.args.self.words.now c.args.self.formed))
