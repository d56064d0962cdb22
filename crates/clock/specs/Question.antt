-- The five questions: what is checked, in the order in which the paper has the refusals, and what is answered.
-- Assumes nothing: these are definitions.
use Rattle.std.specs.Prelude.{Bool, ℕ, ◌-◌, leb, ltb, ℤ}
use Rattle.refusals.specs.Answer.{Answer, given, require}
use Rattle.refusals.specs.Refusals.{before1972, no_instant, not_known, not_well_formed}
use Rattle.calendar.specs.Calendar.{first_day}
use Rattle.calendar.specs.Greatest.{greatest}
use Rattle.schedule.specs.Schedule.{Schedule, well_formed}
use Rattle.clock.specs.declared.Ending.{Ending}
use Rattle.clock.specs.Days.{long_day, dtai, ending, day_length, tai}
use Rattle.clock.specs.Smoothed.{nanos_per_day, uts, utc_of}
use Rattle.clock.specs.Known.{last_day, tai_cutoff, uts_cutoff, nanos_cutoff, known_to, known_date, known_tai}

-- the TAI of 1972-01-01 00:00:00 UTC
abbrev pub first_tai : ℕ
first_tai = 10_000_000

-- an instant of UTC: an MJD and microseconds of that day
pub record Utc : Type 0 where
  pub day : ℕ
  pub micros : ℕ

-- What is checked of a schedule is whether it is well formed, and Z, its last day before expiry.

-- For a date: 11, 8, 10; and then v.
abbrev pub at_date : {A : Type 0} → Bool → ℕ → ℕ → A → Answer A
at_date well Z date v =
    require well not_well_formed
    (require (leb first_day date) before1972
    (require (known_date Z date) not_known
    (given v)))

-- For an instant, t into a day: 11, 8, then 9 if t is the limit or more, 10; and then the answer a. On Z it is known below the cut-off.
abbrev pub at_instant : {A : Type 0} → Bool → ℕ → ℕ → ℕ → ℕ → ℕ → Answer A → Answer A
at_instant well Z limit cutoff day t a =
    require well not_well_formed
    (require (leb first_day day) before1972
    (require (ltb t limit) no_instant
    (require (known_to Z cutoff day t) not_known
    a)))

-- UTC instants of a day that ends with w: 11, 8, then 9 if t is 86,401,000,000 or more, 10, then 9 if t is L or more; and then v.
abbrev pub at_utc : {A : Type 0} → Bool → ℕ → Ending → ℕ → ℕ → ℕ → A → Answer A
at_utc well Z w cutoff day t v =
    at_instant well Z long_day cutoff day t
    (require (ltb t (day_length w)) no_instant
    (given v))

-- UTS instants: 11, 8, 9 (86,400,000,000,000 or more), 10; and then v.
abbrev pub at_uts : {A : Type 0} → Bool → ℕ → ℕ → ℕ → A → Answer A
at_uts well Z day u v = at_instant well Z nanos_per_day nanos_cutoff day u (given v)

-- TAI: 11, 8, 10; and then v.
abbrev pub at_tai : {A : Type 0} → Schedule → ℕ → A → Answer A
at_tai s x v =
    require (well_formed s) not_well_formed
    (require (leb first_tai x) before1972
    (require (known_tai s x) not_known
    (given v)))

-- DTAI for a date
abbrev pub dtai_on : Schedule → ℕ → Answer ℤ
dtai_on s day = at_date (well_formed s) (last_day s) day (dtai s day)

-- UTC to TAI
abbrev pub utc_to_tai : Schedule → ℕ → ℕ → Answer ℕ
utc_to_tai s day t = at_utc (well_formed s) (last_day s) (ending s day) tai_cutoff day t (tai s day t)

-- TAI to UTC: the day is the last one, up to Z, that starts by then; the instant given is the one whose TAI it is (`tai_inverse`)
abbrev pub day_of : Schedule → ℕ → ℕ
day_of s x = greatest (λ day. leb (tai s day 0) x) (last_day s)

abbrev pub tai_to_utc : Schedule → ℕ → Answer Utc
tai_to_utc s x = at_tai s x (record { day = day_of s x; micros = x - tai s (day_of s x) 0 })

-- UTC to UTS
abbrev pub utc_to_uts : Schedule → ℕ → ℕ → Answer ℕ
utc_to_uts s day t = at_utc (well_formed s) (last_day s) (ending s day) uts_cutoff day t (uts (ending s day) t)

-- UTS to UTC
abbrev pub uts_to_utc : Schedule → ℕ → ℕ → Answer ℕ
uts_to_utc s day u = at_uts (well_formed s) (last_day s) day u (utc_of (ending s day) u)

-- "A question is one of five", with any values at all as the date or instant
pub data Question : Type 0 where
  ask_dtai : ℕ → Question
  ask_utc_to_tai : ℕ → ℕ → Question
  ask_tai_to_utc : ℕ → Question
  ask_utc_to_uts : ℕ → ℕ → Question
  ask_uts_to_utc : ℕ → ℕ → Question

-- what a question asks for
abbrev pub Value : Question → Type 0
Value (ask_dtai day) = ℤ
Value (ask_utc_to_tai day t) = ℕ
Value (ask_tai_to_utc x) = Utc
Value (ask_utc_to_uts day t) = ℕ
Value (ask_uts_to_utc day u) = ℕ

-- what a schedule answers
abbrev pub ask : Schedule → (q : Question) → Answer (Value q)
ask s (ask_dtai day) = dtai_on s day
ask s (ask_utc_to_tai day t) = utc_to_tai s day t
ask s (ask_tai_to_utc x) = tai_to_utc s x
ask s (ask_utc_to_uts day t) = utc_to_uts s day t
ask s (ask_uts_to_utc day u) = uts_to_utc s day u
