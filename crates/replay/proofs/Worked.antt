-- Traces worked by hand: the answers to their lines, from two blank lists, as one table under one claim; and of some the bytes printed.
-- Assumes nothing.
use mathlib.Core.Path.{◌≡◌, refl, ap, ◌∙◌}
use mathlib.Core.List.{List, [], ◌∷◌}
use Prim.Native.String.{String}
use Rattle.ascii.specs.Ascii.{ascii, within}
use Rattle.ascii.specs.Decimal.{digits_in, decimal, number_of, all_digits, value_after}
use Rattle.ascii.specs.Parts.{parts}
use Rattle.ascii.specs.Refusal.{refusal}
use Rattle.calendar.specs.Calendar.{is_leap_year, month_lengths, days_in_month, month_start}
use Rattle.schedule.specs.Schedule.{gaps_fit}
use Rattle.text.specs.Read.{read_from, read_text}
use Rattle.clock.specs.Known.{known_to}
use Rattle.clock.specs.Smoothed.{uts}
use Rattle.stream.specs.Lines.{lines_of, size_of}
use Rattle.replay.specs.Trace.{short_number, meaning}
use Rattle.replay.specs.Replay.{blank_state, Reply, nothing, time, refuse, shown, output}
use Rattle.replay.specs.Times.{replies_to}
use Rattle.replay.proofs.OneLine.{shown_all, prints_answers}
use Rattle.replay.proofs.Schedules.{answered, then, all_answered, answered_to, same_answers}

-- a row: a trace and what its lines are answered, or what it prints
pub data Row : Type 0 where
  answers : String → List Reply → Row
  prints : String → String → Row

abbrev pub SayAll : List Row → Type 0
SayAll [] = Unit {0}
SayAll (answers trace replies ∷ rs) = (replies_to blank_state (ascii trace) ≡ replies) × SayAll rs
SayAll (prints trace bytes ∷ rs) = (output blank_state (ascii trace) ≡ ascii bytes) × SayAll rs

abbrev pub table : List Row
table =
    -- the request's own
    answers "L 6+5?\nQ 41498 86400000000\n" (nothing ∷ time 41498 86_399_001_000_000 ∷ [])
    -- the nanoseconds are exact: a microsecond is a thousandth shorter from 23:43:21 on before an inserted second, and a thousandth longer from
    -- 23:43:19 on before a deleted one
    ∷ answers "L 6+5?\nQ 41498 85401000001\nL 6-5?\nQ 41498 85399000001\n" (nothing ∷ time 41498 85_401_000_000_999 ∷ nothing ∷ time 41498 85_399_000_001_001 ∷ [])
    -- a reset with no list current goes back to the stored one, and prints nothing
    ∷ answers "Z\nS\nQ 41498 0\n" (nothing ∷ nothing ∷ refuse 11 ∷ [])
    -- a list is stored, a longer one used, and a reset goes back to the stored one
    ∷ answers "L 6+5?\nS\nL 6+6+5?\nQ 41700 0\nZ\nQ 41700 0\nQ 41498 7\n" (nothing ∷ nothing ∷ nothing ∷ time 41700 0 ∷ nothing ∷ refuse 10 ∷ time 41498 7000 ∷ [])
    -- a reset before anything is stored leaves no list, and so does a store before any list is used
    ∷ answers "L 6+5?\nZ\nQ 41498 0\n" (nothing ∷ nothing ∷ refuse 11 ∷ [])
    ∷ answers "S\nL 6+5?\nZ\nQ 41498 0\n" (nothing ∷ nothing ∷ nothing ∷ refuse 11 ∷ [])
    -- a list that is refused prints its number, and the current one stays; so after any other refused line
    ∷ answers "L 6+5?\nL 6+\nQ 41498 7\n" (nothing ∷ refuse 1 ∷ time 41498 7000 ∷ [])
    ∷ answers "L 6+5?\n#\nQ 41316 0\nQ 41498 7\n" (nothing ∷ refuse 20 ∷ refuse 8 ∷ time 41498 7000 ∷ [])
    -- all that follows the space of L is the list
    ∷ answers "L \nL  6+5?\nL 6+5?\r\nL current\nL\nL6+5?\n" (refuse 1 ∷ refuse 2 ∷ refuse 6 ∷ refuse 2 ∷ refuse 20 ∷ refuse 20 ∷ [])
    -- nothing stands behind S and Z, and no other letter is a line
    ∷ answers "S \nS\r\nZ \nSS\ns\nz\nl 5?\nq 1 2\n\n" (refuse 20 ∷ refuse 20 ∷ refuse 20 ∷ refuse 20 ∷ refuse 20 ∷ refuse 20 ∷ refuse 20 ∷ refuse 20 ∷ refuse 20 ∷ [])
    -- two numbers stand behind Q, with one space before each and nothing behind them
    ∷ answers "Q 1\nQ 1 2 3\nQ  1 2\nQ 1  2\nQ 1 2 \nQ 1 2\r\nQ +1 2\nQ -1 2\nQ 1 x\n" (refuse 20 ∷ refuse 20 ∷ refuse 20 ∷ refuse 20 ∷ refuse 20 ∷ refuse 20 ∷ refuse 20 ∷ refuse 20 ∷ refuse 20 ∷ [])
    -- 18 digits are read, leading zeros among them, and 19 are not
    ∷ answers "Q 000000000000041498 000000000000000007\nQ 0000000000000041498 7\nQ 41498 0000000000000000007\n" (refuse 11 ∷ refuse 20 ∷ refuse 20 ∷ [])
    ∷ answers "L 6+5?\nQ 000000000000041498 000000000000000007\nQ 41498 999999999999999999\n" (nothing ∷ time 41498 7000 ∷ refuse 9 ∷ [])
    -- the end of a trace: a line without LF is none, whatever it has
    ∷ answers "" []
    ∷ answers "S" (refuse 20 ∷ [])
    ∷ answers "L 6+5?\nQ 41498 7" (nothing ∷ refuse 20 ∷ [])
    -- in bytes
    ∷ prints "L 6+5?\nQ 041498 7\nS\nQ 41316 0\n#\nZ" "41498 7000\n!8\n!20\n!20\n"
    ∷ prints "Q 41498 0\nL 06+5?\n" "!11\n!3\n"
    ∷ []

-- the same of a row by the lists of its trace, which computes sooner
abbrev Computed : List Row → Type 0
Computed [] = Unit {0}
Computed (answers trace replies ∷ rs) = (answered_to (ascii trace) ≡ replies) × Computed rs
Computed (prints trace bytes ∷ rs) = (shown_all (answered_to (ascii trace)) ≡ ascii bytes) × Computed rs

say_all : (rs : List Row) → Computed rs → SayAll rs
say_all [] c = tt
say_all (answers trace replies ∷ rs) c = (same_answers (ascii trace) ∙ c.0, say_all rs c.1)
say_all (prints trace bytes ∷ rs) c = (prints_answers blank_state (ascii trace) ∙ ap shown_all (same_answers (ascii trace)) ∙ c.0, say_all rs c.1)

computed : Computed table
unfolding answered_to all_answered answered then shown_all shown lines_of size_of parts meaning short_number read_text read_from number_of all_digits within value_after refusal decimal digits_in is_leap_year month_lengths days_in_month month_start gaps_fit known_to uts
computed = (refl, (refl, (refl, (refl, (refl, (refl, (refl, (refl, (refl, (refl, (refl, (refl, (refl, (refl, (refl, (refl, (refl, (refl, tt))))))))))))))))))

-- every row of the table holds of the definitions
pub worked : SayAll table
worked = say_all table computed
