-- TAI under one well-formed schedule: each day's begins where the day before ends, so it rises.
-- Assumes nothing.
use mathlib.Core.Bool.{Bool, true, false, ◌&&◌}
use mathlib.Core.List.{List, [], ◌∷◌}
use mathlib.Core.Path.{◌≡◌}
use Prim.Native.Nat.{ℕ, zero, suc, ◌+◌, ◌-◌, ◌*◌, ◌≤◌, ◌<◌}
use native.Mathlib.Omega.{arith}
use lib.Dec.{leb}
use lib.ListN.{length}
use Rattle.calendar.specs.Calendar.{first_day, end_day, month_start}
use Rattle.calendar.proofs.Laws.{start_zero}
use Rattle.schedule.specs.declared.Sign.{Sign}
use Rattle.schedule.specs.declared.Sign.TheVariants.{Positive, Negative}
use Rattle.schedule.specs.declared.Leap.{Leap}
use Rattle.schedule.specs.Schedule.{Schedule, max_leaps, well_formed}
use Rattle.schedule.specs.Extends.{same_sign}
use Rattle.schedule.proofs.Gaps.{parts, before_end}
use Rattle.clock.specs.declared.Ending.{Ending}
use Rattle.clock.specs.declared.Ending.TheVariants.{Ordinary, Inserted, Deleted}
use Rattle.clock.specs.Days.{micros_per_day, long_day, short_day, ending, day_length, tai}
use Rattle.clock.specs.Known.{last_day}
use Rattle.clock.specs.Question.{first_tai}
use Rattle.clock.proofs.Tally.{count, tally}
use Rattle.clock.proofs.Tallied.{tai_tallied}
use Rattle.clock.proofs.Leaps.{ending_none, tally_none, tally_next, part}

-- however a day ends, it has 86,399 to 86,401 s
pub length_least : (w : Ending) → short_day ≤ day_length w
length_least Ordinary = omega arith
length_least Inserted = omega arith
length_least Deleted = omega arith

pub length_most : (w : Ending) → day_length w ≤ long_day
length_most Ordinary = omega arith
length_most Inserted = omega arith
length_most Deleted = omega arith

part_small : (sign : Sign) (w : Ending) → part sign w ≤ 1
part_small Positive Ordinary = omega arith
part_small Positive Inserted = omega arith
part_small Positive Deleted = omega arith
part_small Negative Ordinary = omega arith
part_small Negative Inserted = omega arith
part_small Negative Deleted = omega arith

pub count_small : (b : Bool) → count b ≤ 1
count_small true = omega arith
count_small false = omega arith

tally_length : (sign : Sign) (ls : List Leap) (day : ℕ) → tally sign ls day ≤ length ls
tally_length sign [] day = omega arith
tally_length sign (l ∷ ls) day =
    omega (arith, tally_length sign ls day, count_small (same_sign sign l.sign && leb (month_start l.month) day))

module _ (s : Schedule) (w : well_formed s ≡ true) where
  -- the tallies of the first day, and of the next day
  pub tally_first : (sign : Sign) → tally sign s.leaps first_day ≡ 0
  tally_first sign = tally_none sign 0 s.leaps s.expiry first_day (parts s w).gaps (omega (arith, start_zero))

  pub tally_after : (sign : Sign) (day : ℕ) → tally sign s.leaps (day + 1) ≡ tally sign s.leaps day + part sign (ending s day)
  tally_after sign day = tally_next sign 0 s.leaps s.expiry day (parts s w).gaps

  -- the list expires after the first day
  pub expires_later : first_day < s.expiry
  expires_later = omega (arith, start_zero, before_end s.leaps 0 s.expiry (parts s w).gaps)

  -- and no later than the calendar
  pub last_inside : last_day s < end_day
  last_inside = omega (arith, expires_later, (parts s w).end)

  -- no leap of the list ends its last day
  pub ending_last : ending s (last_day s) ≡ Ordinary
  ending_last = let z : last_day s + 1 ≡ s.expiry = omega (arith, expires_later) in rw z (ending_none 0 s.leaps s.expiry (parts s w).gaps)

  -- no more leaps take a second away than days have passed
  deleted_from_lem : (k : ℕ) → tally Negative s.leaps (first_day + k) ≤ k
  deleted_from_lem zero = omega (arith, tally_first Negative)
  deleted_from_lem (suc k) =
      let z : first_day + suc k ≡ first_day + k + 1 = omega arith in
      rw z (omega (arith, deleted_from_lem k, tally_after Negative (first_day + k), part_small Negative (ending s (first_day + k))))

  pub deleted_few : (day : ℕ) → first_day ≤ day → tally Negative s.leaps day ≤ day - first_day
  deleted_few day i =
      let z : first_day + (day - first_day) ≡ day = omega arith in
      rw z at (deleted_from_lem (day - first_day))

  pub tally_few : (sign : Sign) (day : ℕ) → tally sign s.leaps day ≤ max_leaps
  tally_few sign day = omega (arith, tally_length sign s.leaps day, (parts s w).room)

  -- however many leaps there are, DTAI is between -246 and 266
  pub tai_low : (day : ℕ) → first_day ≤ day → micros_per_day * (day - first_day) ≤ tai s day 0 + 246_000_000
  tai_low day i = omega (arith, tai_tallied s day 0 i, deleted_few day i, tally_few Negative day)

  pub tai_high : (day : ℕ) → first_day ≤ day → tai s day 0 ≤ micros_per_day * (day - first_day) + 266_000_000
  tai_high day i = omega (arith, tai_tallied s day 0 i, tally_few Positive day)

  -- TAI counts the day's microseconds
  pub tai_in_day : (day t : ℕ) → first_day ≤ day → tai s day t ≡ tai s day 0 + t
  tai_in_day day t i = omega (arith, tai_tallied s day t i, tai_tallied s day 0 i, deleted_few day i)

  pub tai_first : tai s first_day 0 ≡ first_tai
  tai_first = omega (arith, tai_tallied s first_day 0 (omega arith), tally_first Positive, tally_first Negative)

  -- a day's TAI begins where the TAI of the day before ends
  pub tai_next : (day : ℕ) → first_day ≤ day → tai s (day + 1) 0 ≡ tai s day 0 + day_length (ending s day)
  tai_next day i = go (ending s day) (tally_after Positive day) (tally_after Negative day)
    where
      go : (e : Ending) → tally Positive s.leaps (day + 1) ≡ tally Positive s.leaps day + part Positive e
          → tally Negative s.leaps (day + 1) ≡ tally Negative s.leaps day + part Negative e → tai s (day + 1) 0 ≡ tai s day 0 + day_length e
      go Ordinary p q = omega (arith, tai_tallied s day 0 i, tai_tallied s (day + 1) 0 (omega arith), deleted_few day i)
      go Inserted p q = omega (arith, tai_tallied s day 0 i, tai_tallied s (day + 1) 0 (omega arith), deleted_few day i)
      go Deleted p q =
          omega (arith, tai_tallied s day 0 i, tai_tallied s (day + 1) 0 (omega arith), deleted_few day i, deleted_few (day + 1) (omega arith))

  -- k days later it is later
  tai_later : (day k : ℕ) → first_day ≤ day → tai s day 0 + short_day * k ≤ tai s (day + k) 0
  tai_later day zero i = let z : day + 0 ≡ day = omega arith in rw z (omega arith)
  tai_later day (suc k) i =
      let z : day + suc k ≡ day + k + 1 = omega arith in
      rw z (omega (arith, tai_later day k i, tai_next (day + k) (omega arith), length_least (ending s (day + k))))

  pub tai_order : (c d : ℕ) → first_day ≤ c → c ≤ d → tai s c 0 ≤ tai s d 0
  tai_order c d i l =
      let z : c + (d - c) ≡ d = omega arith in
      let r = tai_later c (d - c) i in
      omega (arith, rw z at r)

  -- a later day starts no earlier than this one ends
  pub tai_rises : (c d : ℕ) → first_day ≤ c → c < d → tai s c 0 + day_length (ending s c) ≤ tai s d 0
  tai_rises c d i l = omega (arith, tai_next c i, tai_order (c + 1) d (omega arith) (omega arith))
