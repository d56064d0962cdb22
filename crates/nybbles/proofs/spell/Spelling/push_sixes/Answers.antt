-- `Spelling::push_sixes` meets its contract. The loop's invariant: the sixes left, after the codes so far, make the whole. Assumes nothing.
use mathlib.Core.Path.{◌∙◌}
use native.Mathlib.Omega.{arith}
use Rattle.nybbles.proofs.Stored as stored
use Rattle.nybbles.proofs.spell.Spelling.push_sixes.Goals as goal

pub push-requires : goal.push-requires
push-requires c = stored.sixes_inside _ _ _ _ _ c.loop-left.invariant c.requires.1

pub loop-left-preserved : goal.loop-left-preserved
loop-left-preserved c = rw c.push.ensures (stored.sixes_step _ _ _ _ _ c.loop-left.invariant c.loop-left-test.true)

pub push-requires-2 : goal.push-requires-2
push-requires-2 c = stored.sixes_inside _ _ _ _ _ c.loop-left.invariant c.requires.1

pub returns : goal.returns
returns c = c.push-2.ensures ∙ rw c.sixes.ensures (stored.sixes_end _ _ _ _ _ c.loop-left.invariant (omega (arith, c.loop-left-test.false)))
