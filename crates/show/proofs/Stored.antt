-- DTAI fits an i32.
-- Assumes nothing.
use Rattle.std.proofs.Common.{◌≡◌, ℕ, ◌+◌, true, arith, w32, to_z, of_z}
use Rattle.schedule.specs.declared.Sign.TheVariants.{Positive, Negative}
use Rattle.schedule.specs.Schedule.{Schedule, well_formed}
use Rattle.clock.specs.Days.{first_dtai, dtai}
use Rattle.clock.proofs.Tally.{tally}
use Rattle.clock.proofs.Tallied.{dtai_tallied}
use Rattle.clock.proofs.Tai.{tally_few}
use Rattle.questions.proofs.Signed.{minus_kept}

-- it stays what it is where it is stored
pub dtai_kept : (s : Schedule) → well_formed s ≡ true → (day : ℕ) → to_z w32 (of_z w32 (dtai s day)) ≡ dtai s day
dtai_kept s w day =
    rw (dtai_tallied s day) (minus_kept (first_dtai + tally Positive s.leaps day) (tally Negative s.leaps day)
    (omega (arith, tally_few s w Positive day)) (omega (arith, tally_few s w Negative day)))
