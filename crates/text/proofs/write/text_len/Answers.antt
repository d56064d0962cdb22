-- `text::write::text_len` meets its contract. Assumes nothing.
use Rattle.std.proofs.Common.{arith}
use Rattle.text.proofs.Steps.{none_counted, next_above, next_fits, next_counted, end_above, end_fits, end_counted}
use Rattle.text.proofs.write.text_len.Goals as goal

pub loop-leap-init : goal.loop-leap-init
loop-leap-init c = rw (c.into_iter-leap-iterator.ensures.into_iter_gives, c.leaps-leap-items.ensures) (none_counted _ c.args.can.list.formed c.args.can.gap)

-- to a leap
pub overflow_sub-leap : goal.overflow_sub-leap
overflow_sub-leap c = omega (arith, next_above (rw c.in-Some.ensures.steps at c.loop-leap.invariant.standing))

pub marked_len-len-requires : goal.marked_len-len-requires
marked_len-len-requires c = next_fits (rw c.in-Some.ensures.steps at c.loop-leap.invariant.standing)

pub overflow_add-len : goal.overflow_add-len
overflow_add-len c =
    let room = (next_counted (rw c.in-Some.ensures.steps at c.loop-leap.invariant.standing) c.args.can.list.formed _ _ c.loop-leap.invariant.count c.marked_len-len.ensures).0 in
    omega (arith, room)

pub loop-leap-preserved : goal.loop-leap-preserved
loop-leap-preserved c =
    (next_counted (rw c.in-Some.ensures.steps at c.loop-leap.invariant.standing) c.args.can.list.formed _ _ c.loop-leap.invariant.count c.marked_len-len.ensures).1

-- to the expiry
pub overflow_sub-expiry_month : goal.overflow_sub-expiry_month
overflow_sub-expiry_month c = omega (arith, c.expiry_month.ensures, end_above (rw c.in-None.ensures.steps.0 at c.loop-leap.invariant.standing))

pub marked_len-requires : goal.marked_len-requires
marked_len-requires c = rw c.expiry_month.ensures (end_fits (rw c.in-None.ensures.steps.0 at c.loop-leap.invariant.standing))

pub overflow_add-result : goal.overflow_add-result
overflow_add-result c =
    let room = (end_counted (rw c.in-None.ensures.steps.0 at c.loop-leap.invariant.standing) c.args.can.list.formed _ _ c.loop-leap.invariant.count (rw c.expiry_month.ensures at c.marked_len.ensures)).0 in
    omega (arith, room)

pub returns : goal.returns
returns c =
    (end_counted (rw c.in-None.ensures.steps.0 at c.loop-leap.invariant.standing) c.args.can.list.formed _ _ c.loop-leap.invariant.count (rw c.expiry_month.ensures at c.marked_len.ensures)).1
