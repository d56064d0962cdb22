-- What only private functions are held to. No public contract and no promise speaks of these.
-- Assumes nothing: these are definitions.
use Rattle.std.specs.Prelude.{ℕ, ◌≤◌, ◌<◌, ◌≡◌, false, List, Result, Ok, Err, length, get_or, drop}
use Rattle.refusals.specs.Refusals.{ends_early, not_allowed, bad_gap, number_of}
use Rattle.schedule.specs.declared.ParseError.{ParseError}
use Rattle.schedule.specs.Schedule.{Schedule, max_gap}
use Rattle.schedule.specs.Answers.{Reading, refusal, ReadsInto}
use Rattle.text.specs.declared.Gap.{Gap}
use Rattle.text.specs.declared.Gap.TheVariants.{Months, Ended, Misplaced, Malformed}
use Rattle.text.specs.Bytes.{is_digit}
use Rattle.text.specs.Read.{read_from}

-- what an end says of the reading: a list that is taken stands in the words
abbrev pub Ends : Reading → Result (Unit {0}) ParseError → List ℕ → Type 0
Ends reading (Ok v) words = ReadsInto reading (Ok v) words
Ends reading (Err e) words = reading ≡ refusal (number_of e.refusal) e.place

-- a mark is due at a place: a gap of 1 to 999 was read, and no digit follows
pub record Due (bytes : List ℕ) (place gap : ℕ) : Type 0 where
  pub inside : place ≤ length bytes
  pub some : 0 < gap
  pub fits : gap ≤ max_gap
  pub no_digit : place < length bytes → is_digit (get_or bytes place 0) ≡ false

-- what the gap that was read, or not read, at a place says of the reading from there, whatever was read before
abbrev pub Scanned : List ℕ → ℕ → Gap → Type 0
Scanned bytes place (Months g c) =
    (place ≤ c.at) × (Due bytes c.at g × ((t : ℕ) (s : Schedule) → read_from 0 place t s (drop place bytes) ≡ read_from g c.at t s (drop c.at bytes)))
Scanned bytes place (Ended c) = (t : ℕ) (s : Schedule) → read_from 0 place t s (drop place bytes) ≡ refusal ends_early c.at
Scanned bytes place (Misplaced c) = (t : ℕ) (s : Schedule) → read_from 0 place t s (drop place bytes) ≡ refusal not_allowed c.at
Scanned bytes place (Malformed c) = (t : ℕ) (s : Schedule) → read_from 0 place t s (drop place bytes) ≡ refusal bad_gap c.at
