-- `Spelling::push` meets its contract: a code has its nybbles. Assumes nothing.
use native.Mathlib.Omega.{arith}
use lib.ListN.{length-set}
use Rattle.nybbles.proofs.Evened as evened
use Rattle.nybbles.proofs.spell.Spelling.push.Goals as goal

pub overflow_add-self-2 : goal.overflow_add-self-2
overflow_add-self-2 c =
    let inv = c.self.invariant in
    let used = evened.in_use c.self.inside.codes c.self.inside.count c.args.self.now (omega arith) c.self.view_is in
    let few = evened.push_few c.self.inside.codes c.self.inside.count c.self.inside.nybbles c.args.code (omega arith) inv.2 in
    omega (arith, c.size.ensures, inv.0)

pub invariant_of-self : goal.invariant_of-self
invariant_of-self c =
    let inv = c.self.invariant in
    let used = evened.in_use c.self.inside.codes c.self.inside.count c.args.self.now (omega arith) c.self.view_is in
    (omega arith, simp length-set inv.1, rw c.size.ensures (evened.push_more c.self.inside.codes c.self.inside.count c.self.inside.nybbles c.args.code (omega arith) inv.2))
