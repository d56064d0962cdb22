-- `Spelling::plain` meets its contract. The loop's invariant: the gaps left, after the codes so far, make the whole. Assumes nothing.
use native.Mathlib.Omega.{arith}
use Rattle.nybbles.proofs.Filled.{fills_start, next_above, next_asked, fills_step, last_above, last_asked, fills_end}
use Rattle.nybbles.proofs.spell.Spelling.plain.Goals as goal

pub loop-leap-init : goal.loop-leap-init
loop-leap-init c =
    rw (c.empty-spelling.ensures, c.into_iter-leap-iterator.ensures.into_iter_gives, c.leaps-leap-items.ensures) (fills_start _ c.args.can.list.formed c.args.can.gap)

-- to a leap
pub overflow_sub-leap : goal.overflow_sub-leap
overflow_sub-leap c = omega (arith, next_above _ c.args.can.list.formed c.args.can.gap (rw c.in-Some.ensures.steps at c.loop-leap.invariant))

pub push_gap-requires : goal.push_gap-requires
push_gap-requires c = next_asked _ c.args.can.list.formed c.args.can.gap (rw c.in-Some.ensures.steps at c.loop-leap.invariant)

pub loop-leap-preserved : goal.loop-leap-preserved
loop-leap-preserved c =
    rw c.push_gap.ensures (fills_step _ c.args.can.list.formed c.args.can.gap (rw c.in-Some.ensures.steps at c.loop-leap.invariant))

-- to the expiry
pub overflow_sub-expiry_month : goal.overflow_sub-expiry_month
overflow_sub-expiry_month c =
    omega (arith, c.expiry_month.ensures, last_above _ c.args.can.list.formed c.args.can.gap (rw c.in-None.ensures.steps.0 at c.loop-leap.invariant))

pub push_gap-requires-2 : goal.push_gap-requires-2
push_gap-requires-2 c =
    rw c.expiry_month.ensures (last_asked _ c.args.can.list.formed c.args.can.gap (rw c.in-None.ensures.steps.0 at c.loop-leap.invariant))

pub returns : goal.returns
returns c =
    rw (c.push_gap-2.ensures, c.expiry_month.ensures) (fills_end _ c.args.can.list.formed c.args.can.gap (rw c.in-None.ensures.steps.0 at c.loop-leap.invariant))
