-- `compare::lines::compare_text` meets its contract: a list is refused, or both are read. Assumes nothing.
use Rattle.std.proofs.Common.{rules, ◌∙◌}
use Rattle.compare.proofs.TwoTexts.{not_compared, both_compared}
use Rattle.compare.proofs.lines.compare_text.Goals as goal

pub returns-in_err-read : goal.returns-in_err-read
returns-in_err-read c = let e = not_compared _ _ c.args.out.now c.in_err-read.ensures in search rules

pub returns : goal.returns
returns c =
    let e = both_compared _ _ c.args.out.now c.in_ok-read.ensures in
    (c.write.ensures.0 ∙ e.0, c.write.ensures.1 ∙ e.1)
