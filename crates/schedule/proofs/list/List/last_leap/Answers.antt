-- `schedule::list::List::last_leap` meets its contract. Assumes nothing.
use Rattle.std.proofs.Common.{sym, ◌∙◌, arith}
use Rattle.schedule.specs.WordLayout.{meant}
use Rattle.schedule.proofs.Rounded.{last_none, last_some}
use Rattle.schedule.proofs.list.List.last_leap.Goals as goal

pub returns-then-n-eq0 : goal.returns-then-n-eq0
returns-then-n-eq0 c = sym (last_none (meant c.args.self.words.now) c.count-n.result c.count-n.ensures c.if-n-eq0.true)

pub returns : goal.returns
returns c = c.month.ensures ∙ sym (last_some (meant c.args.self.words.now) c.count-n.result c.count-n.ensures _ (omega (arith, c.if-n-eq0.false)))
