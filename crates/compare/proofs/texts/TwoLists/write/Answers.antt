-- `compare::lines`' `write` meets its contract: the local output has room for every comparison. Assumes nothing.
use Rattle.std.proofs.Common.{length, ap, rules}
use Rattle.compare.proofs.Written.{all_held, too_short, copied_out}
use Rattle.compare.proofs.texts.TwoLists.write.Goals as goal

pub returns-then-out-count : goal.returns-then-out-count
returns-then-out-count c =
    let new = c.new-lines.ensures in
    too_short _ _ c.args.self.first.formed c.args.self.second.formed c.put.ensures.puts c.put-2.ensures new.same_lines new.at_start (ap length new.same_bytes) _ c.if-out-count.true

pub slice_bounds-put_all-end : goal.slice_bounds-put_all-end
slice_bounds-put_all-end c =
    let new = c.new-lines.ensures in
    all_held _ _ c.args.self.first.formed c.args.self.second.formed c.put.ensures.puts c.put-2.ensures new.same_lines new.at_start (ap length new.same_bytes)

pub returns : goal.returns
returns c =
    let new = c.new-lines.ensures in
    copied_out _ _ c.args.self.first.formed c.args.self.second.formed c.put.ensures.puts c.put-2.ensures new.same_lines new.at_start (ap length new.same_bytes) _ c.if-out-count.false
    c.put_all.ensures (search rules) (search rules) (search rules)
