-- The algorithm of document 002, with its two branches and its names, for times of day: UTC in microseconds and UTS in nanoseconds, both
-- from midnight. `both_branches` shows that it agrees with the one rule of 01.
-- Assumes nothing: these are definitions.
use Rattle.std.specs.Prelude.{cond, ℕ, ◌+◌, ◌-◌, ◌*◌, leb, ltb}
use Rattle.clock.specs.declared.Ending.{Ending}
use Rattle.clock.specs.declared.Ending.TheVariants.{Ordinary, Inserted, Deleted}
use Rattle.clock.specs.Days.{micros_per_second}
use Rattle.clock.specs.Smoothed.{minus}

-- a time of day in microseconds: hours, minutes, seconds; 23:59:60 is 86,400 s
abbrev pub hms : ℕ → ℕ → ℕ → ℕ
hms h m s = ((h * 60 + m) * 60 + s) * micros_per_second

-- a + w x b, where w, the document's leap_warning, is +1, -1 or 0 for the leap ending the day
abbrev pub plus : Ending → ℕ → ℕ → ℕ
plus Ordinary a b = a
plus Inserted a b = a + b
plus Deleted a b = a - b

-- first branch: from 23:59:60 on, UTS goes on from 23:59:59.001 at 999 thousandths of the speed of UTC;
-- second branch: with R left of the day, UTS is UTC, and below 1,000 s of R it is taken back by w thousandths of what R is short of them
unfoldable pub algorithm : Ending → ℕ → ℕ
algorithm leap-warning UTC =
    let R = plus leap-warning (hms 24 0 0) (hms 0 0 1) - UTC in
    cond (leb (hms 23 59 60) UTC)
    (1000 * hms 23 59 59 + 1_000_000 + (UTC - hms 23 59 60) * 999)
    (cond (ltb R (hms 0 16 40)) (minus leap-warning (1000 * UTC) (hms 0 16 40 - R)) (1000 * UTC))
