-- `Spelling::push_gap` meets its contract: one answer for each kind of gap. Assumes nothing.
use mathlib.Core.Path.{ap}
use native.Mathlib.Omega.{arith}
use lib.ListN.{length, length-append}
use Rattle.nybbles.specs.Codes.{np_of_mark}
use Rattle.nybbles.proofs.Stored as stored
use Rattle.nybbles.proofs.spell.Spelling.push_gap.Goals as goal

-- a multiple of 6 months
pub push_sixes-requires : goal.push_sixes-requires
push_sixes-requires c = (omega arith, omega (arith, c.requires.2, ap length (stored.gap_sixes (np_of_mark c.args.mark) c.args.gap c.if-gap-eq0.true)))

pub returns-then-gap-eq0 : goal.returns-then-gap-eq0
returns-then-gap-eq0 c = rw (stored.gap_sixes (np_of_mark c.args.mark) c.args.gap c.if-gap-eq0.true) c.push_sixes.ensures

-- up to 16 months
pub push-requires : goal.push-requires
push-requires c = omega (arith, c.requires.2, ap length (stored.gap_months (np_of_mark c.args.mark) c.args.gap c.if-gap-eq0.false c.if-gap-le16.true))

pub returns-then-gap-le16 : goal.returns-then-gap-le16
returns-then-gap-le16 c = rw (stored.gap_months (np_of_mark c.args.mark) c.args.gap c.if-gap-eq0.false c.if-gap-le16.true, c.push.ensures, c.months.ensures)

-- whole years and months
pub push_sixes-requires-2 : goal.push_sixes-requires-2
push_sixes-requires-2 c = (omega arith, omega (arith, c.requires.2, stored.years_length (np_of_mark c.args.mark) c.args.gap c.if-gap-eq0.false c.if-gap-le16.false))

pub push-requires-2 : goal.push-requires-2
push-requires-2 c =
    omega (arith, c.requires.2, simp length-append at (ap length c.push_sixes-2.ensures), stored.years_length (np_of_mark c.args.mark) c.args.gap c.if-gap-eq0.false c.if-gap-le16.false)

pub returns : goal.returns
returns c =
    stored.years_put (np_of_mark c.args.mark) c.args.gap c.if-gap-eq0.false c.if-gap-le16.false _ _ _ c.push_sixes-2.ensures
    (rw c.months-2.ensures at c.push-2.ensures)
