-- Where nothing wraps: what is held of a difference, and TAI by what is said of a day. Assumes nothing.
use Rattle.std.proofs.Common.{◌≡◌, ℕ, ◌+◌, ◌-◌, ◌*◌, ◌≤◌, true, ◌∙◌, arith, le-leb}
use Rattle.calendar.specs.Calendar.{first_day}
use Rattle.schedule.specs.declared.Sign.TheVariants.{Positive, Negative}
use Rattle.schedule.specs.Schedule.{Schedule, well_formed}
use Rattle.clock.specs.Days.{micros_per_second, micros_per_day, first_dtai, dtai, tai}
use Rattle.clock.proofs.Tai.{deleted_few}
use Rattle.clock.proofs.Tally.{tally}
use Rattle.clock.proofs.Tallied.{minus_same, dtai_tallied, tai_tallied}
use Rattle.questions.specs.declared.by_day.Day.{Day}
use Rattle.questions.specs.Said.{dtai_said, held, tai_said}

pub held_exact : (a b : ℕ) → b ≤ a → held a b ≡ a - b
held_exact a b l = rw (le-leb b a l)

-- TAI by what is said is TAI: by a day no more seconds are taken away than days have passed, and those added
pub tai_held : (s : Schedule) → well_formed s ≡ true → (day t : ℕ) → first_day ≤ day → (k : Day) → dtai_said k ≡ dtai s day → tai_said k day t ≡ tai s day t
tai_held s w day t i k e =
    let few = deleted_few s w day i in
    let same : first_dtai + k.up + tally Negative s.leaps day ≡ first_dtai + tally Positive s.leaps day + k.down
    = minus_same (first_dtai + k.up) k.down (first_dtai + tally Positive s.leaps day) (tally Negative s.leaps day) (e ∙ dtai_tallied s day) in
    held_exact (micros_per_day * day + t + micros_per_second * (first_dtai + k.up)) (micros_per_day * first_day + micros_per_second * k.down) (omega arith)
    ∙ omega (arith, tai_tallied s day t i)
