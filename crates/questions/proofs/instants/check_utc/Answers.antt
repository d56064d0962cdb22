-- `questions::instants::check_utc` meets its contract. Assumes nothing.
use Rattle.std.proofs.Common.{true, sym, ◌∙◌}
use Rattle.questions.proofs.Checked.{early_utc}
use Rattle.questions.proofs.instants.check_utc.Goals as goal

pub returns-then-t-cutoff-clause-checks : goal.returns-then-t-cutoff-clause-checks
returns-then-t-cutoff-clause-checks c =
    let args = c.args in
    c.check_date.ensures.checks ∙ sym (early_utc tt true args.last args.w args.cutoff args.day args.t c.requires c.if-t-cutoff.true)
