-- `compare::lines`' `put` meets its contract. Assumes nothing.
use Rattle.std.proofs.Common.{arith, refl}
use Rattle.ascii.proofs.Putting.{up_to}
use Rattle.compare.specs.Private.{comparison}
use Rattle.compare.proofs.texts.TwoLists.put.Goals as goal

pub returns : goal.returns
unfolding comparison
returns c =
    let lines = c.put_differences.ensures.puts.same_lines in
    up_to c.put_differences.ensures (up_to {most = 27} c.put_expiries.ensures c.put_relation.ensures refl (omega arith))
    (rw (lines, c.extends-over.ensures, c.extends-under.ensures)) (omega arith)
