-- Smoothed time beside UTC, and from one instant to the next.
-- Assumes nothing.
use mathlib.Core.Logic.{◌⊎◌, ⊎_elim}
use mathlib.Core.Path.{◌≡◌}
use Prim.Native.Nat.{ℕ, ◌+◌, ◌*◌, ◌<◌}
use native.Mathlib.Omega.{arith}
use Rattle.schedule.specs.Schedule.{Schedule}
use Rattle.clock.specs.Days.{ending}
use Rattle.clock.specs.Smoothed.{nanos_per_day, nanos_per_second, uts}
use Rattle.clock.specs.Known.{uts_cutoff}
use Rattle.refusals.specs.Answer.{given}
use Rattle.clock.specs.Question.{utc_to_uts}
use Rattle.clock.proofs.Uts.{uts_rises, uts_within, uts_near}
use Rattle.clock.proofs.Checks.{on_utc}

-- an instant of UTC comes before another: on an earlier day, or earlier on the same day
abbrev pub Before : ℕ → ℕ → ℕ → ℕ → Type 0
Before c a d b = (c < d) ⊎ ((c ≡ d) × (a < b))

-- UTS stays less than one second from UTC of the same day
pub within_one_second : (s : Schedule) (day t u : ℕ) → utc_to_uts s day t ≡ given u → (u < 1000 * t + nanos_per_second) × (1000 * t < u + nanos_per_second)
within_one_second s day t u h =
    let k = on_utc s uts_cutoff day t (uts (ending s day) t) u h in
    let n = uts_near (ending s day) t k.below in
    let is = k.is in
    (omega arith, omega arith)

-- of two instants with a UTS under one list, the earlier has the smaller UTS, taken over days of 86,400 s
pub strictly_rises : (s : Schedule) (c a d b x y : ℕ) → utc_to_uts s c a ≡ given x → utc_to_uts s d b ≡ given y → Before c a d b
    → nanos_per_day * c + x < nanos_per_day * d + y
strictly_rises s c a d b x y p q earlier =
    let f = on_utc s uts_cutoff c a (uts (ending s c) a) x p in
    let g = on_utc s uts_cutoff d b (uts (ending s d) b) y q in
    ⊎_elim (λ (l : c < d). omega (arith, uts_within (ending s c) a f.below, f.is))
    (λ (l : (c ≡ d) × (a < b)).
    let z : uts (ending s d) a ≡ x = rw (← l.0) f.is in
    omega (arith, g.is, uts_rises (ending s d) a b l.1 g.below))
    earlier
