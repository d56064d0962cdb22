-- "The expiry mark", and what "Times" says of Z: how far a schedule's knowledge goes. Every refusal 10 comes from here.
-- Assumes nothing: these are definitions.
use Rattle.std.specs.Prelude.{Bool, ◌&&◌, ◌||◌, not, cond, ℕ, ◌+◌, ◌-◌, leb, ltb, eqb}
use Rattle.calendar.specs.Calendar.{starts_month}
use Rattle.schedule.specs.Schedule.{Schedule}
use Rattle.clock.specs.Days.{micros_per_day, tai}

-- "Z", the last day before expiry: it has a known DTAI, and an unknown length if the expiry is the first of a month
abbrev pub last_day : Schedule → ℕ
last_day s = s.expiry - 1

-- whether Z is fully known: the day after it, the expiry, isn't the first of a month
unfoldable pub fully_known : ℕ → Bool
fully_known Z = not (starts_month (Z + 1))

-- TAI is given on Z below this microsecond
abbrev pub tai_cutoff : ℕ
tai_cutoff = 86_399_000_000

-- UTS is given on Z below this microsecond, and coming back below this nanosecond
abbrev pub uts_cutoff : ℕ
uts_cutoff = 85_399_000_000

abbrev pub nanos_cutoff : ℕ
nanos_cutoff = 85_399_000_000_000

-- an instant, t into a day, is known before Z, and on Z below the cut-off or if Z is fully known
unfoldable pub known_to : ℕ → ℕ → ℕ → ℕ → Bool
known_to Z cutoff day t = ltb day Z || (eqb day Z && (fully_known Z || ltb t cutoff))

-- DTAI is given through Z
abbrev pub known_date : ℕ → ℕ → Bool
known_date Z day = leb day Z

-- the TAI of Z at 86,399,000,000; or of Z's end, if it is fully known
unfoldable pub tai_end : Schedule → ℕ
tai_end s = tai s (last_day s) (cond (fully_known (last_day s)) micros_per_day tai_cutoff)

-- TAI to UTC is given below that
abbrev pub known_tai : Schedule → ℕ → Bool
known_tai s x = ltb x (tai_end s)
