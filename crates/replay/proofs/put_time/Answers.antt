-- `replay::put_time` meets its contract. Assumes nothing.
use native.Mathlib.Omega.{arith}
use mathlib.Core.Path.{refl}
use Rattle.ascii.proofs.Putting.{up_to, a_byte}
use Rattle.replay.specs.Replay.{shown}
use Rattle.replay.proofs.put_time.Goals as goal

pub returns : goal.returns
unfolding shown
returns c = up_to c.put_two_numbers.ensures (a_byte c.put.ensures) refl (omega arith)
