-- What a list says of a day, as `by_day` has it, and what is answered by it: for single questions, whose day is found in the words, and for many,
-- whose days are found in a list prepared. Where a schedule says it of the day, the answers are the schedule's (`dtai_said_lem`, `tai_said_lem`, ..).
-- Assumes nothing: these are definitions.
use Rattle.std.specs.Prelude.{◌≡◌, ℕ, ◌+◌, ◌-◌, ◌*◌, ◌/◌, ◌^◌, ◌≤◌, min, true, false, cond, ℤ, nat_le, nat_lt}
use Rattle.std.proofs.Math.IntN.{sub_ℕ}
use Rattle.refusals.specs.Refusals.{before1972, not_known, not_well_formed}
use Rattle.calendar.specs.Calendar.{first_day, end_day}
use Rattle.schedule.specs.Schedule.{Schedule, well_formed}
use Rattle.clock.specs.Days.{micros_per_second, micros_per_day, short_day, first_dtai, dtai, ending, day_length}
use Rattle.clock.specs.Smoothed.{uts, utc_of}
use Rattle.clock.specs.Known.{last_day, tai_cutoff, uts_cutoff, known_to}
use Rattle.refusals.specs.Answer.{Answer, given, refused, require}
use Rattle.clock.specs.Question.{at_date, at_utc, at_uts, first_tai, Utc}
use Rattle.questions.specs.declared.by_day.Day.{Day}

-- ---- what a schedule says of a day

-- the DTAI that is said of a day: 10, the seconds added by then, less those taken away
abbrev pub dtai_said : Day → ℤ
dtai_said k = sub_ℕ (first_dtai + k.up) k.down

-- the schedule is well formed, and that is its last day
pub record ListSaid (s : Schedule) (last : ℕ) : Type 0 where
  pub well : well_formed s ≡ true
  pub is_last : last ≡ last_day s

-- what is said of any schedule: its last day, or that it is not well formed
pub data ListFor (s : Schedule) : Answer ℕ → Type 0 where
  list_said : {last : ℕ} → ListSaid s last → ListFor s (given last)
  no_list : well_formed s ≡ false → ListFor s (refused not_well_formed)

-- the day's DTAI, and how it ends
pub record SaidOf (s : Schedule) (day : ℕ) (k : Day) : Type 0 where
  pub offset : dtai_said k ≡ dtai s day
  pub ends : k.ending ≡ ending s day

-- k is what a well-formed schedule says of the day: its last day; and DTAI and how the day ends for a day from 1972 through the last one
pub record DaySaid (s : Schedule) (day : ℕ) (k : Day) : Type 0 where
  pub list : ListSaid s k.last
  pub is : first_day ≤ day → day ≤ last_day s → SaidOf s day k

-- what is said of a day under any schedule: that, or that the schedule is not well formed
pub data DayFor (s : Schedule) (day : ℕ) : Answer Day → Type 0 where
  day_said : {k : Day} → DaySaid s day k → DayFor s day (given k)
  no_day : well_formed s ≡ false → DayFor s day (refused not_well_formed)

-- ---- what is answered by it

-- the answer by what is said, or the refusal of what is not
abbrev pub by_said : {A B : Type 0} → Answer A → (A → Answer B) → Answer B
by_said (given k) f = f k
by_said (refused n) f = refused n

-- a - b as 64 bits hold it, with 2^64 more where it is below zero. By what a list says it never is (`tai_said_lem`, `utc_said`).
abbrev pub held : ℕ → ℕ → ℕ
held a b = cond (nat_le b a) (a - b) (2 ^ 64 + a - b)

-- TAI by the DTAI that is said, t microseconds into a day of the calendar: 86,400,000,000 x (MJD - 41317) + t + 1,000,000 x DTAI
abbrev pub tai_said : Day → ℕ → ℕ → ℕ
tai_said k day t = held (micros_per_day * day + t + micros_per_second * (first_dtai + k.up)) (micros_per_day * first_day + micros_per_second * k.down)

-- DTAI for a date
abbrev pub dtai_by : Answer Day → ℕ → Answer ℤ
dtai_by said day = by_said said (λ k. at_date true k.last day (dtai_said k))

-- UTC to TAI; no list ends past the calendar
abbrev pub tai_by : Answer Day → ℕ → ℕ → Answer ℕ
tai_by said day t =
    by_said said (λ k. require (nat_lt k.last end_day) not_well_formed (at_utc true k.last k.ending tai_cutoff day t (tai_said k day t)))

-- UTC to UTS; and before the last 1,001 s of a day, by the last day of the list
abbrev pub uts_by : Answer Day → ℕ → ℕ → Answer ℕ
uts_by said day t = by_said said (λ k. at_utc true k.last k.ending uts_cutoff day t (uts k.ending t))

abbrev pub early_uts : Answer ℕ → ℕ → ℕ → Answer ℕ
early_uts said day t = by_said said (λ last. at_date true last day (1000 * min t uts_cutoff))

-- UTS to UTC; and likewise
abbrev pub micros_by : Answer Day → ℕ → ℕ → Answer ℕ
micros_by said day u = by_said said (λ k. at_uts true k.last day u (utc_of k.ending u))

abbrev pub early_micros : Answer ℕ → ℕ → ℕ → Answer ℕ
early_micros said day u = by_said said (λ last. at_date true last day (u / 1000))

-- TAI to UTC goes by a day near the TAI: no DTAI is above 266 s, so the day that this gives is that of the TAI or the one before it, or `last`
abbrev pub most_dtai : ℕ
most_dtai = 266_000_000

abbrev pub near_day : ℕ → ℕ → ℕ
near_day x last = min (first_day + (x - most_dtai) / micros_per_day) last

-- t microseconds into a day, if that is known where `last` is the last day
abbrev pub on_day : ℕ → ℕ → ℕ → Answer Utc
on_day day t last = require (known_to last tai_cutoff day t) not_known (given (record { day = day; micros = t }))

-- the instant t microseconds after a day's start: it lies on that day, or on the next; in the first 86,399 s, which every day has, it is known
abbrev pub from_start : Day → ℕ → ℕ → Answer Utc
from_start k day t =
    cond (nat_lt t short_day) (given (record { day = day; micros = t }))
    (cond (nat_lt t (day_length k.ending)) (on_day day t k.last) (on_day (day + 1) (t - day_length k.ending) k.last))

-- TAI to UTC, by the day near it: 11, 8, 10 where that day lies past the calendar; and then the instant so far after that day's start
abbrev pub utc_by : Answer Day → ℕ → ℕ → Answer Utc
utc_by said near x =
    by_said said λ k.
    require (nat_le first_tai x) before1972
    (require (nat_lt near end_day) not_known
    (from_start k near (held x (tai_said k near 0))))
