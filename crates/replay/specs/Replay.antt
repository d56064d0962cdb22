-- "Replay a branch's day": the state, what a line is answered and the state after it, and what a trace prints.
-- Assumes nothing: these are definitions.
use Rattle.std.specs.Prelude.{ℕ, cond, List, [], ◌∷◌, ◌++◌, eqb}
use Rattle.refusals.specs.Refusals.{no_line}
use Rattle.ascii.specs.Lines.{newline, two_numbers}
use Rattle.ascii.specs.Refusal.{refusal}
use Rattle.schedule.specs.Schedule.{blank_schedule}
use Rattle.schedule.specs.WordLayout.{meant, words_of}
use Rattle.text.specs.Read.{read_text}
use Rattle.refusals.specs.Answer.{Answer, given, refused}
use Rattle.clock.specs.Question.{utc_to_uts}
use Rattle.stream.specs.Lines.{lines_of, rest}
use Rattle.stream.specs.Stream.{Answering, printed, after}
use Rattle.replay.specs.Trace.{Line, list, store, reset, question, other, meaning}

-- the current list and the stored one, each as the words of the C struct leap_schedule; the words of a caller may stand for no list
pub record State : Type 0 where
  pub current : List ℕ
  pub stored : List ℕ

-- at the start both are blank
abbrev pub blank_state : State
blank_state = record { current = words_of blank_schedule; stored = words_of blank_schedule }

-- what a line is answered: nothing; a time, which is a day and the nanoseconds of it; or the number of a refusal
pub data Reply : Type 0 where
  nothing : Reply
  time : ℕ → ℕ → Reply
  refuse : ℕ → Reply

-- the answer to a question: the smoothed time, on the day asked for, or the number
abbrev pub on_day : ℕ → Answer ℕ → Reply
on_day day (given u) = time day u
on_day day (refused n) = refuse n

-- what a list is answered, by its number: nothing where that is 0
abbrev pub numbered : ℕ → Reply
numbered n = cond (eqb n 0) nothing (refuse n)

-- what a line is answered
unfoldable pub reply : State → Line → Reply
reply s (list bytes) = numbered (read_text bytes).number
reply s store = nothing
reply s reset = nothing
reply s (question day t) = on_day day (utc_to_uts (meant s.current) day t)
reply s other = refuse no_line

-- the words of a list that was read, or those of the current list where it is refused
abbrev pub read_over : List ℕ → List ℕ → List ℕ
read_over bytes words = cond (eqb (read_text bytes).number 0) (words_of (read_text bytes).schedule) words

-- the state after a line: a list is used, the current one is stored, the stored one is gone back to
unfoldable pub next : State → Line → State
next s (list bytes) = record { current = read_over bytes s.current; stored = s.stored }
next s store = record { current = s.current; stored = s.current }
next s reset = record { current = s.stored; stored = s.stored }
next s (question day t) = s
next s other = s

-- what an answer prints: nothing, or one line, LF ended
unfoldable pub shown : Reply → List ℕ
shown nothing = []
shown (time day u) = two_numbers day u ++ (newline ∷ [])
shown (refuse n) = refusal n ++ (newline ∷ [])

-- no line prints more bytes than this: `114364 86399999999000` and LF are as many
abbrev pub max_printed : ℕ
max_printed = 22

-- how the lines of a trace are answered
abbrev pub replaying : Answering State
replaying = record { prints = λ s line. shown (reply s (meaning line)); next = λ s line. next s (meaning line); most = max_printed }

-- what stands after the last LF of a trace is no line: it prints nothing where it is empty, else refusal 20
abbrev pub unended : List ℕ → List ℕ
unended [] = []
unended (b ∷ bs) = shown (refuse no_line)

-- what a trace prints, and the state after it
unfoldable pub output : State → List ℕ → List ℕ
output s trace = printed replaying s (lines_of trace) ++ unended (rest trace)

unfoldable pub state_after : State → List ℕ → State
state_after s trace = after replaying s (lines_of trace)
