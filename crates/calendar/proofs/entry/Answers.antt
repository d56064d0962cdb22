-- `calendar::entry` meets its contract: the whole table passes the test of the months, which antt computes.
-- Assumes nothing.
use mathlib.Core.Path.{◌≡◌, refl}
use mathlib.Core.Bool.{true}
use mathlib.Core.List.{List}
use Prim.Native.Nat.{ℕ, ◌≤◌}
use native.Mathlib.Omega.{arith}
use lib.ListN.{get_or}
use Rattle.calendar.specs.Calendar.{first_day, last_month, month_start, days_in_month, month_lengths, is_leap_year}
use Rattle.calendar.proofs.Gregorian.{all_right, listed}
use Rattle.calendar.specs.declared.table.TheConstants.{MONTH_STARTS}
use Rattle.calendar.proofs.entry.Goals as goal

-- the table, as the code has it
abbrev table : List ℕ
table = MONTH_STARTS

table_passes : all_right 0 first_day table ≡ true
unfolding days_in_month month_lengths is_leap_year
table_passes = refl

-- each entry of the table is the day on which its month starts by the Gregorian rule
table_is_gregorian : {m : ℕ} → m ≤ last_month → get_or table m 0 ≡ month_start m
table_is_gregorian {m} h = (listed table table_passes m (omega arith)).start

pub returns : goal.returns
returns c = table_is_gregorian c.requires
