-- `schedule::check::expiry_fits` meets its contract: by bounds of the months' starts, or by the number of the expiry day's month.
-- Assumes nothing.
use Rattle.std.proofs.Common.{◌<◌, sym, ap, ◌∙◌, arith}
use Rattle.calendar.specs.Calendar.{month_of, starts_month}
use Rattle.schedule.specs.Private.{great_month}
use Rattle.schedule.proofs.ByNumber.{past_all, before_all, between, same_month, other_month}
use Rattle.schedule.proofs.check.expiry_fits.Goals as goal

pub returns-then-from-ge-LAST_MONTH : goal.returns-then-from-ge-LAST_MONTH
returns-then-from-ge-LAST_MONTH c = sym (past_all c.args.from c.args.expiry c.requires c.if-from-ge-LAST_MONTH.true)

pub returns-then-expiry-le-FIRST_DAY : goal.returns-then-expiry-le-FIRST_DAY
returns-then-expiry-le-FIRST_DAY c = sym (before_all c.args.from c.args.expiry c.requires c.if-expiry-le-FIRST_DAY.true)

pub returns-then-expiry-from : goal.returns-then-expiry-from
returns-then-expiry-from c = sym (between c.args.from c.args.expiry c.requires c.if-from-ge-LAST_MONTH.false c.if-from-expiry.true c.if-expiry-from.true)

pub returns-then-month-from : goal.returns-then-month-from
returns-then-month-from c =
    let month = c.from-month.ensures ∙ (c.latest_month.ensures ∙ ap month_of c.from.ensures) in
    let first = c.is_first.ensures ∙ ap starts_month c.from-then-month-from.ensures in
    sym (same_month c.args.from c.args.expiry c.requires c.if-expiry-le-FIRST_DAY.false month c.if-month-from.true c.is_first.result first)

pub returns : goal.returns
returns c =
    let month = c.from-month.ensures ∙ (c.latest_month.ensures ∙ ap month_of c.from.ensures) in
    let near : c.args.from < great_month = omega (arith, c.if-from-ge-LAST_MONTH.false) in
    c.misfit.ensures.0 near ∙ sym (other_month c.args.from c.args.expiry c.requires c.if-expiry-le-FIRST_DAY.false month c.if-month-from.false)
