-- "Months, days and the schedule" and "Times": DTAI, how a day ends, how long it is, and TAI.
-- Assumes nothing: these are definitions.
use Rattle.std.specs.Prelude.{Bool, cond, List, [], ◌∷◌, ℕ, ◌+◌, leb, eqb, ℤ, pos, negsuc, neg_ℤ, ◌+ℤ◌, ◌-ℤ◌, ◌*ℤ◌}
use Rattle.calendar.specs.Calendar.{first_day, month_start}
use Rattle.schedule.specs.declared.Sign.{Sign}
use Rattle.schedule.specs.declared.Sign.TheVariants.{Positive, Negative}
use Rattle.schedule.specs.declared.Leap.{Leap}
use Rattle.schedule.specs.Schedule.{Schedule}
use Rattle.clock.specs.declared.Ending.{Ending}
use Rattle.clock.specs.declared.Ending.TheVariants.{Ordinary, Inserted, Deleted}

-- a second in microseconds
abbrev pub micros_per_second : ℕ
micros_per_second = 1_000_000

-- a day of 86,400 s in microseconds
abbrev pub micros_per_day : ℕ
micros_per_day = 86_400_000_000

-- a day of 86,401 s, and one of 86,399 s
abbrev pub long_day : ℕ
long_day = 86_401_000_000

abbrev pub short_day : ℕ
short_day = 86_399_000_000

-- DTAI from MJD 41317 on, before any leap
abbrev pub first_dtai : ℕ
first_dtai = 10

-- a leap is in effect from the first day of its month on
abbrev pub in_effect : Leap → ℕ → Bool
in_effect l day = leb (month_start l.month) day

-- the second that a leap of the sign adds to DTAI: 1, or -1, which takes one away
abbrev pub second_of : Sign → ℤ
second_of Positive = pos 1
second_of Negative = neg_ℤ (pos 1)

-- what the leaps add by a day, each from the first day of its month on
abbrev pub leap_seconds : List Leap → ℕ → ℤ
leap_seconds [] day = pos 0
leap_seconds (l ∷ ls) day = cond (in_effect l day) (second_of l.sign) (pos 0) +ℤ leap_seconds ls day

-- "DTAI", TAI minus UTC on a day in seconds: 10 from MJD 41317; each positive leap adds 1 and each negative one takes 1 away, from the
-- first day of its month
unfoldable pub dtai : Schedule → ℕ → ℤ
dtai s day = pos first_dtai +ℤ leap_seconds s.leaps day

-- how a day ends at whose end a leap of the sign happens
abbrev pub ending_of : Sign → Ending
ending_of Positive = Inserted
ending_of Negative = Deleted

-- a leap at month m happens at the end of the day before month m starts: how the day before `next` ends
abbrev pub ending_before : List Leap → ℕ → Ending
ending_before [] next = Ordinary
ending_before (l ∷ ls) next = cond (eqb (month_start l.month) next) (ending_of l.sign) (ending_before ls next)

-- how a day ends: with a second inserted, with one deleted, or as usual
abbrev pub ending : Schedule → ℕ → Ending
ending s day = ending_before s.leaps (day + 1)

-- a day's length in microseconds: 86,400 s, or 86,401 s before a positive leap, or 86,399 s before a negative one
abbrev pub day_length : Ending → ℕ
day_length Ordinary = micros_per_day
day_length Inserted = long_day
day_length Deleted = short_day

-- an integer as a natural number, and 0 where it is below zero
abbrev pub natural : ℤ → ℕ
natural (pos n) = n
natural (negsuc n) = 0

-- TAI, microseconds from 1972-01-01 00:00:00 TAI, where DTAI is d: 86,400,000,000 x (MJD - 41317) + UTC microseconds + 1,000,000 x DTAI
unfoldable pub tai_with : ℤ → ℕ → ℕ → ℕ
tai_with d day t = natural (pos micros_per_day *ℤ (pos day -ℤ pos first_day) +ℤ pos t +ℤ pos micros_per_second *ℤ d)

-- From MJD 41317 on under a well-formed schedule it is that integer itself: none is below zero (`tai_exact`).
unfoldable pub tai : Schedule → ℕ → ℕ → ℕ
tai s day t = tai_with (dtai s day) day t
