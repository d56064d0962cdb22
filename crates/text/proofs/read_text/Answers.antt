-- `text::read_text` meets its contract: the recursion starts at the blank schedule, of which nothing is in the words. Assumes nothing.
use Rattle.schedule.specs.Schedule.{blank_schedule}
use Rattle.schedule.proofs.SoFar.{so_far_blank}
use Rattle.text.specs.Read.{read_text}
use Rattle.text.proofs.Laws as laws
use Rattle.text.proofs.read_text.Goals as goal

pub returns-in-Err : goal.returns-in-Err
unfolding read_text
returns-in-Err c = laws.was_refused _ _ c.in-Err.is (c.read_gap.ensures blank_schedule so_far_blank) c.refuse.ensures

pub returns : goal.returns
unfolding read_text
returns c = laws.was_taken _ _ c.in_default.is (c.read_gap.ensures blank_schedule so_far_blank)
