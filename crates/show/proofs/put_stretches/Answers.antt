-- `show::put_stretches` meets its contract. The loop's invariant: all but what is shown from the leaps left on is put. Assumes nothing.
use Rattle.show.proofs.Going.{begin, before_expiry, in_order, go_on, ended}
use Rattle.show.proofs.put_stretches.Goals as goal

pub loop-leap-init : goal.loop-leap-init
loop-leap-init c = rw (c.into_iter-leap-iterator.ensures.into_iter_gives, c.leaps-leap-items.ensures) (begin _ _ c.args.list.formed)

pub put_stretch-requires : goal.put_stretch-requires
put_stretch-requires c = in_order (rw c.in-Some.ensures.steps at c.loop-leap.invariant) c.month_start-start.ensures

pub loop-leap-preserved : goal.loop-leap-preserved
loop-leap-preserved c =
    go_on (rw c.in-Some.ensures.steps at c.loop-leap.invariant) c.month_start-start.ensures c.put_stretch.ensures c.put_between.ensures

pub put_last-requires : goal.put_last-requires
put_last-requires c = before_expiry c.loop-leap.invariant

pub returns : goal.returns
returns c = ended (rw c.in-None.ensures.steps.0 at c.loop-leap.invariant) c.put_last.ensures
