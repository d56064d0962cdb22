-- `text::write::put_text` meets its contract. Assumes nothing.
use Rattle.std.proofs.Common.{arith}
use Rattle.text.proofs.Steps.{none_put, next_above, next_fits, next_put, end_above, end_fits, end_put}
use Rattle.text.proofs.write.put_text.Goals as goal

pub loop-leap-init : goal.loop-leap-init
loop-leap-init c = rw (c.into_iter-leap-iterator.ensures.into_iter_gives, c.leaps-leap-items.ensures) (none_put _ c.args.can.list.formed c.args.can.gap _)

-- to a leap
pub overflow_sub-leap : goal.overflow_sub-leap
overflow_sub-leap c = omega (arith, next_above (rw c.in-Some.ensures.steps at c.loop-leap.invariant.standing))

pub put_marked-requires : goal.put_marked-requires
put_marked-requires c = next_fits (rw c.in-Some.ensures.steps at c.loop-leap.invariant.standing)

pub loop-leap-preserved : goal.loop-leap-preserved
loop-leap-preserved c =
    next_put (rw c.in-Some.ensures.steps at c.loop-leap.invariant.standing) c.loop-leap.invariant.puts (rw c.sign_byte.ensures at c.put_marked.ensures)

-- to the expiry
pub overflow_sub-expiry_month : goal.overflow_sub-expiry_month
overflow_sub-expiry_month c = omega (arith, c.expiry_month.ensures, end_above (rw c.in-None.ensures.steps.0 at c.loop-leap.invariant.standing))

pub put_marked-requires-2 : goal.put_marked-requires-2
put_marked-requires-2 c = rw c.expiry_month.ensures (end_fits (rw c.in-None.ensures.steps.0 at c.loop-leap.invariant.standing))

pub returns : goal.returns
returns c =
    end_put (rw c.in-None.ensures.steps.0 at c.loop-leap.invariant.standing) c.loop-leap.invariant.puts (rw c.expiry_month.ensures at c.put_marked-2.ensures)
