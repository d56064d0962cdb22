-- `compare::cursor::Cursor::of` meets its contract. Assumes nothing.
use Rattle.std.proofs.Common.{arith}
use Rattle.schedule.specs.WordLayout.{meant}
use Rattle.compare.proofs.Places.{later_day}
use Rattle.compare.proofs.cursor.Cursor.of.Goals as goal

pub overflow_sub-expiry : goal.overflow_sub-expiry
overflow_sub-expiry c = omega (arith, later_day (meant c.args.list.words.now) c.args.list.formed, c.expiry.ensures)
