-- `schedule::list::List::count` meets its contract. Assumes nothing.
use Rattle.std.proofs.Common.{sym, ◌∙◌}
use Rattle.schedule.proofs.Meant.{count_is}
use Rattle.schedule.proofs.list.List.count.Goals as goal

pub returns : goal.returns
returns c = c.count_of.ensures ∙ sym (count_is c.args.self.words.now c.args.self.formed)
