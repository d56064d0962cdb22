-- `Spelling::empty` meets its contract. Assumes nothing.
use mathlib.Core.Path.{refl}
use mathlib.Core.List.{flatten}
use native.Mathlib.Omega.{arith}
use Rattle.nybbles.proofs.spell.Spelling.empty.Goals as goal

pub invariant_of-result : goal.invariant_of-result
unfolding flatten
invariant_of-result c = (omega arith, refl, refl)
