-- What the lines of each word are answered, worked by hand, as one table under one claim.
-- Assumes nothing.
use mathlib.Core.Path.{◌≡◌, refl}
use mathlib.Core.Bool.{Bool, true, false}
use mathlib.Core.List.{List, [], ◌∷◌}
use Prim.Native.String.{String}
use Rattle.ascii.specs.Ascii.{ascii, within}
use Rattle.ascii.specs.Decimal.{decimal, digits_in, all_digits, value_after, number_of}
use Rattle.ascii.specs.Lines.{between}
use Rattle.ascii.specs.Parts.{same, parts}
use Rattle.calendar.specs.Calendar.{is_leap_year, month_lengths, days_in_month, month_start, month_of, starts_month, month_at}
use Rattle.schedule.specs.Schedule.{is_expired, gaps_fit, last_leap}
use Rattle.schedule.specs.Answers.{by_reading}
use Rattle.schedule.specs.Extends.{below, same_leaps}
use Rattle.text.specs.Read.{read_from, read_text}
use Rattle.compare.specs.Longer.{chosen_of}
use Rattle.compare.specs.Compare.{has_leap, leap_mark, line_at, month_lines, expiry_lines, lines_of, relation_by, joined}
use Rattle.ascii.specs.Refusal.{refusal, refusal_at}
use Rattle.line.specs.Words.{word_of, form_of, usage, expected}
use Rattle.answers.specs.Lists.{list_of, longer_by}
use Rattle.ascii.specs.Hex.{hex, nybble_of, all_hex_digits, unhex}
use Rattle.calendar.specs.Greatest.{greatest}
use Rattle.text.specs.Write.{digits, text_from, text_of}
use Rattle.nybbles.specs.Codes.{nybbles, single, wide, codes_of}
use Rattle.nybbles.specs.Read.{fault, after, read_codes, read_nybbles}
use Rattle.clock.specs.Days.{dtai, tai_with, tai}
use Rattle.clock.specs.Known.{fully_known, known_to, tai_end}
use Rattle.clock.specs.Smoothed.{uts}
use Rattle.answers.specs.Times.{asked_of, asked_under}
use Rattle.show.specs.Show.{date, date_of, stretch, stretches, shown}
use Rattle.command.specs.Answer.{of_list, of_hex, of_pair, answer_for, answer_to}

-- a row: a line, whether its answer may have several lines, and the answer
pub data Row : Type 0 where
  answers : Bool → String → String → Row

abbrev pub SayAll : List Row → Type 0
SayAll [] = Unit {0}
SayAll (answers lines line answer ∷ rs) = (answer_to lines (ascii line) ≡ ascii answer) × SayAll rs

abbrev pub table : List Row
table =
    answers true "compare 6+6+5? 6+12+5?" "12 + 0\n18 ? +\n= 41834 42017\ncontradict"
    ∷ answers false "compare 6+6+5? 6+12+5?" "12 + 0; 18 ? +; = 41834 42017; contradict"
    -- of a refusal the number alone, the first list's before the second's
    ∷ answers true "compare 06+5? 5" "3"
    ∷ answers true "compare 5? 5" "1"
    -- the longer, the first if they are the same, and a refusal with no place
    ∷ answers true "longer 6+5? 6+6?" "6+6?"
    ∷ answers true "longer 6+6? 6+5?" "6+6?"
    ∷ answers true "longer 6+6+5? 6+12+5?" "!16"
    ∷ answers true "longer  06+5?" "!1"
    ∷ answers true "longer 5? 06+5?" "!3"
    -- of a list alone, the number and the place
    ∷ answers true "show 5?7" "!6 2"
    ∷ answers true "nybbles 06+5?" "!3 0"
    -- a number without a plus
    ∷ answers true "dtai 6+5? 41499" "11"
    -- two lists, and no more
    ∷ answers true "compare 5?" "? expected: compare LIST LIST"
    ∷ answers true "longer 5? 5? 5?" "? expected: longer LIST LIST"
    ∷ []

-- every row of the table holds of the definitions
pub worked : SayAll table
unfolding month_start days_in_month month_lengths is_leap_year answer_to parts word_of same usage expected form_of answer_for of_list of_hex of_pair list_of longer_by refusal read_text read_from by_reading joined lines_of month_lines line_at has_leap leap_mark is_expired expiry_lines relation_by between decimal digits_in below same_leaps chosen_of within all_digits value_after number_of hex nybble_of all_hex_digits unhex refusal_at month_of starts_month month_at greatest gaps_fit last_leap digits text_from text_of nybbles single wide codes_of fault after read_codes read_nybbles dtai tai_with tai fully_known known_to tai_end uts asked_of asked_under date date_of stretch stretches shown
worked = (refl, (refl, (refl, (refl, (refl, (refl, (refl, (refl, (refl, (refl, (refl, (refl, (refl, (refl, tt))))))))))))))
