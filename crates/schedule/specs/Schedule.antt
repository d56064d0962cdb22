-- The schedule: its leaps and its expiry, its limits, the blank schedule, and when a schedule is well formed.
-- Assumes nothing: these are definitions.
use Rattle.std.specs.Prelude.{ℕ, ◌+◌, ◌-◌, Bool, ◌&&◌, List, [], ◌∷◌, length, nat_le, nat_lt}
pub use Rattle.calendar.specs.Calendar.{last_month, end_day, month_start, month_of}
-- a leap: the month at whose start it takes effect, and its sign
pub use Rattle.schedule.specs.declared.Leap.{Leap}
use Rattle.schedule.specs.declared.Sign.TheVariants.{Positive}

-- a schedule: its leaps, and the day (MJD) from which on nothing is known
pub record Schedule : Type 0 where
  pub leaps : List Leap
  pub expiry : ℕ

-- a schedule has at most 256 leaps
abbrev pub max_leaps : ℕ
max_leaps = 256

-- a gap is at most 999 months
abbrev pub max_gap : ℕ
max_gap = 999

-- no leap, as an unused place of the words has it: month 0 and a positive sign
abbrev pub no_leap : Leap
no_leap = record { month = 0; sign = Positive }

-- "blank": the schedule with no leaps and expiry day 0
abbrev pub blank_schedule : Schedule
blank_schedule = record { leaps = []; expiry = 0 }

-- a month is at or after an expiry: it starts on the expiry day or later, so that nothing is known of it
unfoldable pub is_expired : ℕ → ℕ → Bool
is_expired expiry month = nat_le expiry (month_start month)

-- a gap from one month to a later one is 1 to 999
abbrev pub gap_fits : ℕ → ℕ → Bool
gap_fits from to = nat_lt from to && nat_le (to - from) max_gap

-- the expiry day is later than the first day of a month, and at most 999 months after it by month number: month from + 1000 has not started
-- (`by_number` says it by the month of the day)
abbrev pub expiry_fits : ℕ → ℕ → Bool
expiry_fits from expiry = nat_lt (month_start from) expiry && nat_lt expiry (month_start (from + (max_gap + 1)))

-- every gap fits: to the first leap and between leaps, so that the leap months strictly rise; and the expiry fits the last leap, or month 0
unfoldable pub gaps_fit : ℕ → List Leap → ℕ → Bool
gaps_fit from [] expiry = expiry_fits from expiry
gaps_fit from (l ∷ ls) expiry = gap_fits from l.month && gaps_fit l.month ls expiry

-- the month of the last leap; where there is none, the month given
unfoldable pub last_leap : ℕ → List Leap → ℕ
last_leap from [] = from
last_leap from (l ∷ ls) = last_leap l.month ls

-- the writers round the expiry down to its month
abbrev pub expiry_month : Schedule → ℕ
expiry_month s = month_of s.expiry

-- the schedule rounded down: it expires on the first day of that month
abbrev pub rounded_down : Schedule → Schedule
rounded_down s = record { leaps = s.leaps; expiry = month_start (expiry_month s) }

-- rounding down leaves a gap of at least 1 month from the last leap, or from month 0
abbrev pub leaves_gap : Schedule → Bool
leaves_gap s = nat_lt (last_leap 0 s.leaps) (expiry_month s)

-- "well formed": at most 256 leaps, the expiry at most day 114366, every gap from month 0 on to the last leap 1 to 999, and the expiry later than
-- the first day of the last leap's month and at most 999 months after it by month number
abbrev pub well_formed : Schedule → Bool
well_formed s = nat_le (length s.leaps) max_leaps && nat_le s.expiry end_day && gaps_fit 0 s.leaps s.expiry
