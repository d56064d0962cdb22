-- The leaps that an iterator over a list's leaps has left.
-- Assumes nothing: these are definitions.
use Rattle.std.specs.Prelude.{List, drop}
use Rattle.schedule.specs.declared.Leap.{Leap}
use Rattle.schedule.specs.declared.leaps.Leaps.{Leaps}
use Rattle.schedule.specs.WordLayout.{meant}

-- those of the list after the ones that were taken
abbrev pub left : Leaps → List Leap
left it = drop it.taken (meant it.list.words.now).leaps
