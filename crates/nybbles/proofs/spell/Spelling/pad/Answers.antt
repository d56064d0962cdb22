-- `Spelling::pad` meets its contract. The loop's invariant: no single nybble from here on. Assumes nothing.
use mathlib.Core.Path.{ap, ◌∙◌}
use native.Mathlib.Omega.{arith}
use lib.ListN.{length-set}
use Rattle.nybbles.specs.Write.{padded}
use Rattle.nybbles.proofs.Evened as evened
use Rattle.nybbles.proofs.spell.Spelling.pad.Goals as goal

pub loop-i-init : goal.loop-i-init
loop-i-init c = let inv = c.self.invariant in evened.pads_start _ _ _ (omega (arith, inv.0, inv.1))

pub loop-i-preserved : goal.loop-i-preserved
loop-i-preserved c =
    let inv = c.self.invariant in
    evened.pads_step _ _ _ _ _ _ _ c.loop-i.invariant (omega (arith, inv.0, inv.1)) (omega arith, omega arith) _ c.in_default.is

pub overflow_add-self : goal.overflow_add-self
overflow_add-self c =
    let inv = c.self.invariant in
    omega (arith, c.loop-i.invariant.same_nybbles, evened.few c.self.inside.codes c.self.inside.count c.self.inside.nybbles (omega (arith, inv.0, inv.1)) inv.2, inv.0)

pub invariant_of-self-in-Single : goal.invariant_of-self-in-Single
invariant_of-self-in-Single c =
    let inv = c.self.invariant in
    let loop = c.loop-i.invariant in (
      rw loop.same_count inv.0,
      rw (length-set, loop.same) inv.1,
      evened.pads_more _ _ _ _ _ _ _ loop (omega (arith, inv.0, inv.1)) (omega arith, omega arith) _ c.in-Single.is inv.2,
    )

pub returns-in-Single : goal.returns-in-Single
returns-in-Single c =
    let inv = c.self.invariant in
    evened.pads_found _ _ _ _ _ _ _ c.loop-i.invariant (omega (arith, inv.0, inv.1)) (omega arith, omega arith) _ c.in-Single.is ∙ ap padded c.self.view_is

pub returns : goal.returns
returns c = evened.pads_none _ _ _ _ _ _ _ c.loop-i.invariant (omega (arith, c.loop-i-test.false)) ∙ ap padded c.self.view_is
