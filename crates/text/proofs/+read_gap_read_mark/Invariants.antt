-- The bytes left fall: twice their number, and one more for `read_gap`, which calls `read_mark` where a gap may have been read of which nothing says
-- that it has a byte.
use Rattle.std.proofs.Common.{◌+◌, ◌-◌, length}
use Rattle.text.proofs.+read_gap_read_mark.Given as goal

abbrev pub decreases-read_gap : goal.decreases-read_gap
decreases-read_gap l = (length l.bytes.now - l.from.at) + (length l.bytes.now - l.from.at) + 1

abbrev pub decreases-read_mark : goal.decreases-read_mark
decreases-read_mark l = (length l.bytes.now - l.from.at) + (length l.bytes.now - l.from.at)
