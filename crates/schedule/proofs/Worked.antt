-- Which expiry days make a schedule well formed, worked by hand, as one table under one claim.
-- Assumes nothing.
use Rattle.std.proofs.Common.{◌≡◌, ℕ, Bool, true, false, List, [], ◌∷◌, refl}
use Rattle.calendar.specs.Calendar.{is_leap_year, month_lengths, days_in_month, month_start}
use Rattle.schedule.specs.declared.Sign.TheVariants.{Positive}
use Rattle.schedule.specs.Schedule.{Leap, Schedule, gaps_fit, well_formed}

-- a row: months with a positive leap, an expiry day, and whether the schedule is well formed
pub data Row : Type 0 where
  expires : List ℕ → ℕ → Bool → Row

abbrev pub positive : List ℕ → List Leap
positive [] = []
positive (m ∷ ms) = record { month = m; sign = Positive } ∷ positive ms

abbrev pub schedule_of : List ℕ → ℕ → Schedule
schedule_of ms e = record { leaps = positive ms; expiry = e }

abbrev pub SayAll : List Row → Type 0
SayAll [] = Unit {0}
SayAll (expires ms e b ∷ rs) = (well_formed (schedule_of ms e) ≡ b) × SayAll rs

abbrev pub table : List Row
table =
    -- no leap: from 2 January 1972 to 30 April 2055, which lies in month 999
    expires [] 41317 false
    ∷ expires [] 41318 true
    ∷ expires [] 71752 true
    ∷ expires [] 71753 false
    -- a leap on 1 July 1972, month 6: from the day after it to 31 October 2055, in month 1005
    ∷ expires (6 ∷ []) 41499 false
    ∷ expires (6 ∷ []) 41500 true
    ∷ expires (6 ∷ []) 71936 true
    ∷ expires (6 ∷ []) 71937 false
    -- a month's number is no day on which a schedule expires
    ∷ expires [] 5 false
    ∷ expires (6 ∷ []) 11 false
    -- the calendar ends on 1 January 2172, within 999 months of month 1998 too, and the last leap may be a month before
    ∷ expires (999 ∷ 1998 ∷ []) 114366 true
    ∷ expires (999 ∷ 1998 ∷ []) 114367 false
    ∷ expires (999 ∷ 1998 ∷ 2399 ∷ []) 114335 false
    ∷ expires (999 ∷ 1998 ∷ 2399 ∷ []) 114336 true
    ∷ []

-- every row of the table holds of the definition
pub worked : SayAll table
unfolding is_leap_year month_lengths days_in_month month_start gaps_fit
worked = (refl, (refl, (refl, (refl, (refl, (refl, (refl, (refl, (refl, (refl, (refl, (refl, (refl, (refl, tt))))))))))))))
