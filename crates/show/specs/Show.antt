-- What a list says, a line a stretch of constant DTAI.
-- Assumes nothing: these are definitions.
use Rattle.std.specs.Prelude.{ℕ, ◌+◌, ◌-◌, ◌%◌, Bool, cond, List, [], ◌∷◌, ◌++◌}
use Rattle.refusals.specs.Refusals.{not_well_formed}
use Rattle.ascii.specs.Ascii.{ascii, minus_byte}
use Rattle.ascii.specs.Decimal.{decimal, pair, with_sign}
use Rattle.calendar.specs.Calendar.{first_day, year_of, month_start, month_of}
use Rattle.schedule.specs.declared.Leap.{Leap}
use Rattle.schedule.specs.Schedule.{Schedule, well_formed}
use Rattle.clock.specs.Days.{dtai}
use Rattle.ascii.specs.Lines.{space_byte, between}
use Rattle.ascii.specs.Refusal.{refusal}

-- day d of month m as a date: year, month and day, as `1972-01-31`
unfoldable pub date : ℕ → ℕ → List ℕ
date m d = decimal (year_of m) ++ (minus_byte ∷ pair (m % 12 + 1) ++ (minus_byte ∷ pair d))

-- an MJD as a date
unfoldable pub date_of : ℕ → List ℕ
date_of day = date (month_of day) (day - month_start (month_of day) + 1)

-- the stretch from a day to the day before another: its first day, its last day, and the DTAI of its first day, and so of all (`every_day`)
unfoldable pub stretch : Schedule → ℕ → ℕ → List ℕ
stretch s from to = date_of from ++ (space_byte ∷ date_of (to - 1) ++ (space_byte ∷ with_sign (dtai s from)))

-- the stretches from a day on: DTAI changes on the first day of each leap's month, and is known up to the expiry
unfoldable pub stretches : Bool → Schedule → ℕ → List Leap → List ℕ
stretches lines s from [] = stretch s from s.expiry
stretches lines s from (l ∷ ls) = stretch s from (month_start l.month) ++ (between lines ++ stretches lines s (month_start l.month) ls)

-- all stretches from 1 January 1972 on, and then the first day from which DTAI is unknown; 11 where the schedule is not well formed
unfoldable pub shown : Bool → Schedule → List ℕ
shown lines s =
    cond (well_formed s)
    (stretches lines s first_day s.leaps ++ (between lines ++ (date_of s.expiry ++ ascii " unknown")))
    (refusal not_well_formed)
