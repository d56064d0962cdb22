-- `pack::put_nybble` meets its contract. Assumes nothing.
use native.Mathlib.Omega.{arith}
use Prim.Native.Nat.{◌/◌}
use Rattle.nybbles.proofs.Codes.{count}
use Rattle.nybbles.proofs.Packed as packed
use Rattle.nybbles.proofs.pack.put_nybble.Goals as goal
use Rattle.nybbles.proofs.pack.put_nybble.Goals.{then-at-eq0, else-at-eq0}

pub bounds-out-i : goal.bounds-out-i
bounds-out-i c = omega (arith, count c.args.out.now)

pub bounds-out-i-2 : goal.bounds-out-i-2
bounds-out-i-2 c = omega (arith, count c.args.out.now)

pub returns : goal.returns
returns c =
    let args = c.args in
    elim c.if-at-eq0.branch [
      | then-at-eq0 w ↦ rw w.out-is (packed.put_upper args.out.now args.at (args.at / 2) args.n (omega arith))
      | else-at-eq0 w ↦ rw w.out-is (packed.put_lower args.out.now args.at (args.at / 2) args.n (omega arith) c.requires.0)
    ]
