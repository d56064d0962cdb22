-- What readers and writers answer, and what a reader hands over as words.
-- Assumes nothing: these are definitions.
use Rattle.std.specs.Prelude.{◌≡◌, ℕ, cond, ◌&&◌, List, [], ◌∷◌, ◌++◌, Result, Ok, Err, length, drop, ◌==◌, nat_le}
use Rattle.refusals.specs.Refusals.{output_short, not_well_formed, no_gap, number_of}
use Rattle.refusals.specs.Answer.{Answer, given, require}
use Rattle.schedule.specs.declared.Sign.{Sign}
use Rattle.schedule.specs.declared.ParseError.{ParseError}
use Rattle.schedule.specs.Schedule.{Schedule, blank_schedule, leaves_gap, well_formed}
use Rattle.schedule.specs.WordLayout.{words_of}

-- what a reader answers: a number, a place and a schedule
pub record Reading : Type 0 where
  pub number : ℕ
  pub place : ℕ
  pub schedule : Schedule

-- a reader that refuses returns the number, the place and the blank schedule
abbrev pub refusal : ℕ → ℕ → Reading
refusal n p = record { number = n; place = p; schedule = blank_schedule }

-- a reader that accepts returns number 0, place 0 and the schedule: here the leaps read so far, and the expiry
abbrev pub accepted : Schedule → ℕ → Reading
accepted s expiry = record { number = 0; place = 0; schedule = record { leaps = s.leaps; expiry = expiry } }

-- an answer about the schedule that was read, or what is made of the number and the place of its refusal
unfoldable pub by_reading : {A : Type 0} → Reading → (ℕ → ℕ → A) → (Schedule → A) → A
by_reading r refuse f = cond (r.number == 0) (f r.schedule) (refuse r.number r.place)

-- one leap more
abbrev pub with_leap : Schedule → ℕ → Sign → Schedule
with_leap s m g = record { leaps = s.leaps ++ (record { month = m; sign = g } ∷ []); expiry = s.expiry }

-- a reader hands over the reading: its number, the words of its schedule, and its place
pub record HandsReading (reading : Reading) (number : ℕ) (words : List ℕ) (place : ℕ) : Type 0 where
  pub its_number : number ≡ reading.number
  pub its_words : words ≡ words_of reading.schedule
  pub its_place : place ≡ reading.place

-- the number and the place in a reader's result: those of its refusal, or 0 and 0
abbrev pub number_in : Result (Unit {0}) ParseError → ℕ
number_in (Ok v) = 0
number_in (Err e) = number_of e.refusal

abbrev pub place_in : Result (Unit {0}) ParseError → ℕ
place_in (Ok v) = 0
place_in (Err e) = e.place

-- the same of a reader's result: it is the reading's number and place, and the words are those of the reading's schedule
pub record ReadsInto (reading : Reading) (outcome : Result (Unit {0}) ParseError) (words : List ℕ) : Type 0 where
  pub its_number : number_in outcome ≡ reading.number
  pub its_words : words ≡ words_of reading.schedule
  pub its_place : place_in outcome ≡ reading.place

-- what writing bytes answers: 7 where the output has no room for them, else their count
abbrev pub fitting : List ℕ → ℕ → Answer ℕ
fitting bytes room = require (nat_le (length bytes) room) output_short (given (length bytes))

-- what the output then holds: the bytes and, beyond them, what it held; what it held where it has no room for them
unfoldable pub fitted : List ℕ → List ℕ → List ℕ
fitted bytes out = cond (nat_le (length bytes) (length out)) (bytes ++ drop (length bytes) out) out

-- what every writer asks first of a schedule, whatever the output: 11, then 17, else the answer
abbrev pub writable : {A : Type 0} → Schedule → Answer A → Answer A
writable s answer =
    require (well_formed s) not_well_formed
    (require (leaves_gap s) no_gap answer)

-- what a writer answers whose list of a schedule is `bytes`: refusal 11, then 17, then 7, else the count of bytes
abbrev pub writing : Schedule → List ℕ → ℕ → Answer ℕ
writing s bytes room = writable s (fitting bytes room)

-- what the output then holds: the list and, beyond it, what it held; what it held where the writer refuses
unfoldable pub written : Schedule → List ℕ → List ℕ → List ℕ
written s bytes out = cond (well_formed s && leaves_gap s) (fitted bytes out) out
