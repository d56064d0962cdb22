-- What the writers of the C interface hand over, what replaying does, and whether one list extends another. Every output is set on every call. (What readers hand over
-- stands beside the schedule, and what questions do in the clock.)
-- Assumes nothing: these are definitions.
use Rattle.std.specs.Prelude.{ℕ, ◌≡◌, Bool, true, false, cond, List, ltb, length}
use Rattle.refusals.specs.Refusals.{output_short, not_well_formed}
use Rattle.schedule.specs.Schedule.{Schedule, well_formed}
use Rattle.schedule.specs.Answers.{writing, written}
use Rattle.schedule.specs.Extends.{extends}
use Rattle.refusals.specs.Answer.{Answer, given, require, or_zero, number as number_of}
use Rattle.stream.specs.Lines.{lines_of}
use Rattle.stream.specs.Stream.{answered, LinesAnswered}
use Rattle.replay.specs.Replay.{State, max_printed, replaying}

-- what was written is handed over: the number, the count of bytes, 0 where it is refused, and what the output then holds
pub record HandsBytes (w : Answer ℕ) (bytes : List ℕ) (number count : ℕ) (after : List ℕ) : Type 0 where
  pub its_number : number ≡ number_of w
  pub its_count : count ≡ or_zero 0 w
  pub its_bytes : after ≡ bytes

-- what a writer hands over: the answer and the output of writing `list`, the list of a schedule, to an output that held `before`
abbrev pub HandsWriting : Schedule → List ℕ → List ℕ → ℕ → ℕ → List ℕ → Type 0
HandsWriting s list before number count after = HandsBytes (writing s list (length before)) (written s list before) number count after

-- what replaying a piece of a trace hands over, from a state and with an output that held `before`: number 7 where the output has no room for the
-- most that a line prints, else 0; and what the lines leave that are replayed: the first ones, as long as there is that room, and so none where there is not
pub record HandsReplay (s : State) (trace before : List ℕ) (number : ℕ) (s' : State) (after : List ℕ) (used written : ℕ) : Type 0 where
  pub its_number : number ≡ cond (ltb (length before) max_printed) output_short 0
  pub its_lines : LinesAnswered replaying s (answered replaying (length before) s (lines_of trace)) before after s' (record { used = used; written = written })

-- 1 for yes and 0 for no
abbrev pub yes_of : Bool → ℕ
yes_of true = 1
yes_of false = 0

-- whether a list extends another: 11 unless both are well formed
unfoldable pub extension : Schedule → Schedule → Answer ℕ
extension longer shorter =
    require (well_formed longer) not_well_formed
    (require (well_formed shorter) not_well_formed
    (given (yes_of (extends longer shorter))))
