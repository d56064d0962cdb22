-- `calendar::computed_start` meets its contract: no step of the closed form wraps or falls below zero, and it gives the month's start.
-- Assumes nothing.
use native.Mathlib.Omega.{arith}
use Rattle.calendar.proofs.Gregorian.{closed_form}
use Rattle.calendar.proofs.computed_start.Goals as goal

pub returns : goal.returns
returns c = omega (arith, closed_form c.requires)
