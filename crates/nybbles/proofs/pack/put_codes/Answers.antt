-- `pack::put_codes` meets its contract. The loop's invariant: the nybbles left, put from here on, make the whole. Assumes nothing.
use native.Mathlib.Omega.{arith}
use Rattle.nybbles.proofs.Packed as packed
use Rattle.nybbles.proofs.pack.put_codes.Goals as goal

pub put_code-at-requires : goal.put_code-at-requires
put_code-at-requires c =
    let inv = c.loop-code.invariant in
    (packed.puts_low _ _ _ _ _ inv c.loop-code-test.true _, omega (arith, inv.few), packed.puts_room _ _ _ _ _ inv c.loop-code-test.true _ c.requires.2)

pub loop-code-preserved : goal.loop-code-preserved
loop-code-preserved c =
    packed.puts_step _ _ _ _ _ c.loop-code.invariant c.loop-code-test.true _ _ _ c.put_code-at.ensures.0 c.put_code-at.ensures.1

pub returns : goal.returns
returns c = packed.puts_end _ _ _ _ _ c.loop-code.invariant c.loop-code-test.false
