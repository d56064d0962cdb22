-- `compare::lines`' `put_differences` meets its contract. The loop's invariant: all lines before `month` are put. Assumes nothing.
use Rattle.std.proofs.Common.{min, arith, ap₂, ◌∙◌}
use Rattle.compare.proofs.Going.{start_going, ended, rises, go_on}
use Rattle.compare.proofs.texts.TwoLists.put_differences.Goals as goal

pub loop-month-init : goal.loop-month-init
loop-month-init c =
    start_going _ _ _ _ c.args.self.first.formed c.args.self.second.formed c.of-a.ensures c.of-b.ensures (c.min-month.ensures ∙ ap₂ min c.month.ensures c.month-2.ensures)

pub loop-month-smaller : goal.loop-month-smaller
loop-month-smaller c =
    let next = c.min-month-in-loop-month.ensures ∙ ap₂ min c.month-in-loop-month.ensures c.month-in-loop-month-2.ensures in
    omega (arith, rises c.loop-month.invariant c.loop-month-test.true c.pass.new.self c.pass-in-loop-month.new.self _ c.pass.ensures c.pass-in-loop-month.ensures next, c.loop-month-test.true)

pub loop-month-preserved : goal.loop-month-preserved
loop-month-preserved c =
    let next = c.min-month-in-loop-month.ensures ∙ ap₂ min c.month-in-loop-month.ensures c.month-in-loop-month-2.ensures in
    go_on c.loop-month.invariant c.loop-month-test.true c.mark.ensures c.mark-in-loop-month.ensures c.pass.ensures c.pass-in-loop-month.ensures next c.put_line.ensures

pub returns : goal.returns
returns c = ended c.loop-month.invariant c.loop-month-test.false
