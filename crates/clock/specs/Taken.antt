-- "Times": which dates and instants a well-formed schedule answers.
-- Assumes nothing: these are definitions.
use Rattle.std.specs.Prelude.{◌⊎◌, true, ◌≡◌, ℕ, ◌≤◌, ◌<◌}
use Rattle.calendar.specs.Calendar.{first_day}
use Rattle.schedule.specs.Schedule.{Schedule}
use Rattle.clock.specs.Days.{ending, day_length}
use Rattle.clock.specs.Smoothed.{nanos_per_day}
use Rattle.clock.specs.Known.{last_day, fully_known, tai_cutoff, uts_cutoff, nanos_cutoff, tai_end}
use Rattle.clock.specs.Question.{first_tai, Question, ask_dtai, ask_utc_to_tai, ask_tai_to_utc, ask_utc_to_uts, ask_uts_to_utc}

-- before the day Z, or on it below the cut-off, or on it if it is fully known
abbrev pub Within : ℕ → ℕ → ℕ → ℕ → Type 0
Within Z cutoff day t = (day < Z) ⊎ ((day ≡ Z) × ((fully_known Z ≡ true) ⊎ (t < cutoff)))

-- a date from 1972 through Z; an instant of UTC from 1972 on that its day has, before Z or on it below the cut-off of TAI or of UTS, which does not
-- apply if Z is fully known; an instant of UTS from 1972 on, likewise; a TAI from that of 1972 on, below that of Z at its cut-off or at its end
abbrev pub Takes : Schedule → Question → Type 0
Takes s (ask_dtai day) = (first_day ≤ day) × (day ≤ last_day s)
Takes s (ask_utc_to_tai day t) = (first_day ≤ day) × (t < day_length (ending s day)) × Within (last_day s) tai_cutoff day t
Takes s (ask_tai_to_utc x) = (first_tai ≤ x) × (x < tai_end s)
Takes s (ask_utc_to_uts day t) = (first_day ≤ day) × (t < day_length (ending s day)) × Within (last_day s) uts_cutoff day t
Takes s (ask_uts_to_utc day u) = (first_day ≤ day) × (u < nanos_per_day) × Within (last_day s) nanos_cutoff day u
