-- "Times": smoothed time (UTS) and the way back.
-- Assumes nothing: these are definitions.
use Rattle.std.specs.Prelude.{cond, ℕ, ◌+◌, ◌-◌, ◌*◌, leb, ltb}
use Rattle.calendar.specs.Greatest.{greatest}
use Rattle.clock.specs.declared.Ending.{Ending}
use Rattle.clock.specs.declared.Ending.TheVariants.{Ordinary, Inserted, Deleted}
use Rattle.clock.specs.Days.{day_length}

-- a UTS day, which always has 86,400 s, in nanoseconds
abbrev pub nanos_per_day : ℕ
nanos_per_day = 86_400_000_000_000

-- a second in nanoseconds
abbrev pub nanos_per_second : ℕ
nanos_per_second = 1_000_000_000

-- the last 1,000 s of a day with a leap are smoothed: in microseconds
abbrev pub smoothing : ℕ
smoothing = 1_000_000_000

-- a - w b, where w is +1, -1 or 0 for the leap ending the day
abbrev pub minus : Ending → ℕ → ℕ → ℕ
minus Ordinary a b = a
minus Inserted a b = a - b
minus Deleted a b = a + b

-- UTS in nanoseconds, t microseconds into a day of length L with that ending. Let R = L - t: if R < 1,000,000,000, UTS is
-- 1000 x t - w x (1,000,000,000 - R), else 1000 x t. Below L nothing is cut off (`uts_exact`).
unfoldable pub uts : Ending → ℕ → ℕ
uts w t =
    let R = day_length w - t in
    cond (ltb R smoothing) (minus w (1000 * t) (smoothing - R)) (1000 * t)

-- UTS to UTC: the greatest t of the day whose UTS is not above u
abbrev pub utc_of : Ending → ℕ → ℕ
utc_of w u = greatest (λ t. leb (uts w t) u) (day_length w - 1)
