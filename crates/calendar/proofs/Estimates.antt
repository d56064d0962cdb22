-- The estimate of the month of a day, as the code makes it. Assumes nothing: this is a definition.
use Rattle.std.proofs.Common.{ℕ, ◌-◌, ◌*◌, ◌/◌}

-- the estimate of the month of day d
abbrev pub estimated : ℕ → ℕ
estimated d = (d - 41_301) * 16 / 487
