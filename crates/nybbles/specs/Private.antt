-- What only private functions are held to; no public contract or promise speaks of it.
-- Assumes nothing: these are definitions.
use Rattle.std.specs.Prelude.{ℕ, ◌+◌, ◌*◌, ◌≤◌, ◌<◌, ◌≡◌, true, List, [], ◌∷◌, length, drop}
use Rattle.schedule.specs.Schedule.{Schedule, max_gap, last_month}
use Rattle.schedule.specs.Private.{SoFar}
use Rattle.nybbles.specs.declared.code.Code.{Code}
use Rattle.nybbles.specs.declared.written.WrittenCode.{WrittenCode}
use Rattle.nybbles.specs.declared.written.WrittenCode.TheVariants.{Single, Pair}
use Rattle.nybbles.specs.declared.progress.Progress.{Progress}
use Rattle.nybbles.specs.Codes.{nybbles, codes_of}
use Rattle.nybbles.specs.Read.{State, has_room, after}

-- the state that the reader's numbers stand for, with the schedule so far
abbrev pub state_of : Progress → Schedule → State
state_of p s = record { gap = p.gap; total = p.total; schedule = s }

-- numbers to which the months of a code can be added
pub record Short (p : Progress) (c : Code) : Type 0 where
  pub gap_is_within : p.gap ≤ max_gap
  pub total_fits : p.total ≤ last_month
  pub few : c.months ≤ 6 * 16

-- a code that passes the checks, after a gap and a total so far and a count of leaps
pub record Passes (gap total count : ℕ) (c : Code) : Type 0 where
  pub gap_is_within : gap + c.months ≤ max_gap
  pub total_fits : total + c.months ≤ last_month
  pub room : has_room c.mark count ≡ true

-- the reader's numbers before and after a code, and the words after it, where s is the schedule before it
pub record Moves (p p' : Progress) (words' : List ℕ) (s : Schedule) (c : Code) : Type 0 where
  pub state : state_of p' (after (state_of p s) c).schedule ≡ after (state_of p s) c
  pub kept : SoFar (after (state_of p s) c).schedule p'.count words'

-- a code starts at a place
pub record Next (bytes : List ℕ) (at : ℕ) (c : Code) : Type 0 where
  pub divides : codes_of (drop at (nybbles bytes)) ≡ c ∷ codes_of (drop (at + c.size) (nybbles bytes))
  pub some : 0 < c.months
  pub few : c.months ≤ 6 * 16
  pub one : 0 < c.size
  pub two : c.size ≤ 2
  pub inside : at + c.size ≤ length (nybbles bytes)

-- the room for written codes (`list_few`)
abbrev pub max_codes : ℕ
max_codes = 390

-- the nybbles of a written code
abbrev pub code_of : WrittenCode → List ℕ
code_of (Single v) = v ∷ []
code_of (Pair n g) = n ∷ g ∷ []

-- nybbles are below 16
abbrev pub AreNybbles : List ℕ → Type 0
AreNybbles [] = Unit {0}
AreNybbles (n ∷ ns) = (n < 16) × AreNybbles ns
