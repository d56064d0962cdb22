-- `ascii::hex`'s `put_hex` meets its contract. Assumes nothing.
use Rattle.ascii.proofs.Halves.{hex_more, hex_end}
use Rattle.ascii.proofs.Putting.{step, end, both_bytes}
use Rattle.ascii.proofs.output.Output.put_hex.Goals as goal

pub loop-b-preserved : goal.loop-b-preserved
loop-b-preserved c = step c.loop-b.invariant (both_bytes c.put_both.ensures c.hex_digit.ensures c.hex_digit-in-loop-b.ensures) (hex_more _ _ c.loop-b-test.true)

pub returns : goal.returns
returns c = end c.loop-b.invariant (hex_end _ _ c.loop-b-test.false)
