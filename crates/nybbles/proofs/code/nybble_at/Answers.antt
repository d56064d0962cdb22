-- `code::nybble_at` meets its contract. Assumes nothing.
use mathlib.Core.Path.{sym}
use native.Mathlib.Omega.{arith}
use Prim.Native.Nat.{◌/◌}
use Rattle.nybbles.proofs.Codes as codes
use Rattle.nybbles.proofs.code.nybble_at.Goals as goal

pub bounds-bytes-at : goal.bounds-bytes-at
bounds-bytes-at c = omega (arith, codes.count c.args.bytes.now)

pub returns-then-at-eq0 : goal.returns-then-at-eq0
returns-then-at-eq0 c = let k = c.args.at in (sym (codes.upper _ k (k / 2) (omega arith)), omega (arith, c.type_inv.bytes (k / 2)))

pub returns-else-at-eq0 : goal.returns-else-at-eq0
returns-else-at-eq0 c = let k = c.args.at in (sym (codes.lower _ k (k / 2) (omega arith)), omega arith)
