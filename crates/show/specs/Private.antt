-- What only private functions are held to. No public contract and no promise speaks of these.
-- Assumes nothing: these are definitions.
use Rattle.std.specs.Prelude.{ℕ, Bool, List, ◌++◌}
use Rattle.ascii.specs.Ascii.{ascii}
use Rattle.ascii.specs.Lines.{between}
use Rattle.schedule.specs.declared.Leap.{Leap}
use Rattle.schedule.specs.Schedule.{Schedule}
use Rattle.show.specs.Show.{date_of, stretches}

-- what is shown of a well-formed schedule from a day on, with the leaps after it: the stretches, and then the first day from which DTAI is unknown
unfoldable pub shown_from : Bool → Schedule → ℕ → List Leap → List ℕ
shown_from lines s from ls = stretches lines s from ls ++ (between lines ++ (date_of s.expiry ++ ascii " unknown"))
