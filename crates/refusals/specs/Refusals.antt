-- The numbers of the refusals by name, 01's and those that the change requests add. An accepted answer carries 0.
-- Assumes nothing: these are definitions.
use Rattle.std.specs.Prelude.{ℕ}
use Rattle.refusals.specs.declared.Refusal.{Refusal}
use Rattle.refusals.specs.declared.Refusal.TheVariants.{EndsEarly, NotAllowed, BadGap, PastLastMonth, TooManyLeaps, AfterEnd, OutputShort, Before1972, NoInstant, NotKnown, NotWellFormed, Contradiction, NoGap, NoLine}

-- 1: the list ends early
abbrev pub ends_early : ℕ
ends_early = 1

-- 2: a byte that is not allowed there
abbrev pub not_allowed : ℕ
not_allowed = 2

-- 3: a gap malformed or over 999 months
abbrev pub bad_gap : ℕ
bad_gap = 3

-- 4: past month 2400, January 2172
abbrev pub past_last_month : ℕ
past_last_month = 4

-- 5: more than 256 leaps
abbrev pub too_many_leaps : ℕ
too_many_leaps = 5

-- 6: something after the end
abbrev pub after_end : ℕ
after_end = 6

-- 7: the output is shorter than the list, or than the comparison of two lists, or than what a line of a trace may print
abbrev pub output_short : ℕ
output_short = 7

-- 8: before 1972: an MJD under 41317, or a TAI under 10,000,000
abbrev pub before1972 : ℕ
before1972 = 8

-- 9: no such instant
abbrev pub no_instant : ℕ
no_instant = 9

-- 10: expired or not yet known
abbrev pub not_known : ℕ
not_known = 10

-- 11: the schedule is not well formed, or no list in use, in a trace
abbrev pub not_well_formed : ℕ
not_well_formed = 11

-- 16: two lists contradict each other
abbrev pub contradiction : ℕ
contradiction = 16

-- 17: rounding the expiry down to its month leaves a gap of 0
abbrev pub no_gap : ℕ
no_gap = 17

-- 20: no line of a trace
abbrev pub no_line : ℕ
no_line = 20

-- the number of a refusal
abbrev pub number_of : Refusal → ℕ
number_of EndsEarly = ends_early
number_of NotAllowed = not_allowed
number_of BadGap = bad_gap
number_of PastLastMonth = past_last_month
number_of TooManyLeaps = too_many_leaps
number_of AfterEnd = after_end
number_of OutputShort = output_short
number_of Before1972 = before1972
number_of NoInstant = no_instant
number_of NotKnown = not_known
number_of NotWellFormed = not_well_formed
number_of Contradiction = contradiction
number_of NoGap = no_gap
number_of NoLine = no_line
