-- `schedule::list::List::expiry` meets its contract. Assumes nothing.
use Rattle.std.proofs.Common.{sym, ◌∙◌}
use Rattle.schedule.proofs.Meant.{expiry_is}
use Rattle.schedule.proofs.list.List.expiry.Goals as goal

pub returns : goal.returns
returns c = c.expiry_of.ensures ∙ sym (expiry_is c.args.self.words.now c.args.self.formed)
