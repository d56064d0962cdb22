-- `replay::replay_end` meets its contract. Assumes nothing.
use borrow.Author.Rules.{rules}
use mathlib.Core.Path.{refl}
use Rattle.ascii.proofs.Putting.{held}
use Rattle.replay.proofs.Ends.{end_nothing, end_short, end_some}
use Rattle.replay.proofs.replay_end.Goals as goal

pub returns-then-is_empty : goal.returns-then-is_empty
returns-then-is_empty c = end_nothing _ _ c.if-is_empty.ensures

pub returns-then-out-lt-NO_LINE_BYTES : goal.returns-then-out-lt-NO_LINE_BYTES
returns-then-out-lt-NO_LINE_BYTES c = end_short _ _ c.if-is_empty.ensures c.if-out-lt-NO_LINE_BYTES.true

pub returns : goal.returns
returns c =
    end_some _ c.if-is_empty.ensures c.if-out-lt-NO_LINE_BYTES.false
    (held c.put_refused.ensures.puts c.new-output.ensures.at_start c.new-output.ensures.same_bytes (search rules) refl)
