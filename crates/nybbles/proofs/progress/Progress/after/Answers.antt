-- `Progress::after` meets its contract: a leap is stored at its place. Assumes nothing.
use Rattle.nybbles.specs.Read.{after}
use Rattle.nybbles.proofs.Reading as reading
use Rattle.nybbles.proofs.progress.Progress.after.Goals as goal

pub returns-in-Leaps : goal.returns-in-Leaps
unfolding after
returns-in-Leaps c s kept =
    reading.leap_after _ _ _ _ _ c.in-Leaps.is (reading.leap_room _ _ _ c.in-Leaps.is c.requires.room) c.from.ensures s kept
