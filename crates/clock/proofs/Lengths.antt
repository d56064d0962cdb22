-- How long a day is and what DTAI is after it, by the leaps of the list, in the paper's numbers.
-- Assumes nothing.
use Rattle.std.proofs.Common.{◌≡◌, ℕ, ◌+◌, ◌<◌, true, ◌≢◌, length, get_or, pos, ◌+ℤ◌, ◌-ℤ◌, ap, ◌∙◌}
use lib.IntN.{+ℤ_idr}
use Rattle.calendar.specs.Calendar.{month_start}
use Rattle.schedule.specs.declared.Sign.{Sign}
use Rattle.schedule.specs.declared.Sign.TheVariants.{Positive, Negative}
use Rattle.schedule.specs.Schedule.{Schedule, no_leap, well_formed}
use Rattle.clock.specs.declared.Ending.{Ending}
use Rattle.clock.specs.declared.Ending.TheVariants.{Ordinary, Inserted, Deleted}
use Rattle.clock.specs.Days.{ending_of, ending, day_length, dtai}
use Rattle.clock.specs.Rules.{leap_sign, LeapAtEnd}
use Rattle.clock.proofs.Placed.{ending_usual, ending_next}
use Rattle.clock.proofs.Exact.{dtai_next}

module _ (s : Schedule) (w : well_formed s ≡ true) (day : ℕ) where
  next_dtai : (e : Ending) → ending s day ≡ e → dtai s (day + 1) ≡ dtai s day +ℤ leap_sign e
  next_dtai e h = dtai_next s w day ∙ ap (λ z. dtai s day +ℤ leap_sign z) h

  ends_with : (i : ℕ) (sign : Sign) → LeapAtEnd s day i sign → ending s day ≡ ending_of sign
  ends_with i sign l = ending_next s w day i l.listed l.next_day ∙ ap ending_of l.its_sign

  -- a day is 86,400 s long, and DTAI stays
  pub usual_day : ((i : ℕ) → i < length s.leaps → month_start (get_or s.leaps i no_leap).month ≢ day + 1)
      → (day_length (ending s day) ≡ 86_400_000_000) × (dtai s (day + 1) ≡ dtai s day)
  usual_day none =
      let e : ending s day ≡ Ordinary = ending_usual s.leaps (day + 1) none in
      (ap day_length e, next_dtai Ordinary e ∙ +ℤ_idr (dtai s day))

  -- or 86,401 s before a positive leap, which adds 1
  pub day_before_positive : (i : ℕ) → LeapAtEnd s day i Positive → (day_length (ending s day) ≡ 86_401_000_000) × (dtai s (day + 1) ≡ dtai s day +ℤ pos 1)
  day_before_positive i l = let e = ends_with i Positive l in (ap day_length e, next_dtai Inserted e)

  -- or 86,399 s before a negative one, which takes 1 away
  pub day_before_negative : (i : ℕ) → LeapAtEnd s day i Negative → (day_length (ending s day) ≡ 86_399_000_000) × (dtai s (day + 1) ≡ dtai s day -ℤ pos 1)
  day_before_negative i l = let e = ends_with i Negative l in (ap day_length e, next_dtai Deleted e)
