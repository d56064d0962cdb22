-- Answers to the five time questions, in bytes.
-- Assumes nothing: these are definitions.
use Rattle.std.specs.Prelude.{ℕ, List}
use Rattle.ascii.specs.Decimal.{decimal, signed}
use Rattle.refusals.specs.Answer.{Answer, given, refused}
use Rattle.clock.specs.Question.{Question, ask_dtai, ask_utc_to_tai, ask_tai_to_utc, ask_utc_to_uts, ask_uts_to_utc, Value, ask}
use Rattle.ascii.specs.Lines.{two_numbers}
use Rattle.ascii.specs.Refusal.{refusal}
use Rattle.schedule.specs.Schedule.{Schedule}
use Rattle.answers.specs.declared.times.Asked.{Asked}
use Rattle.answers.specs.declared.times.Asked.TheVariants as asked
use Rattle.answers.specs.Lists.{about_list}

-- the values that a time question asks for: numbers in decimal, one space between
abbrev pub values_of : (q : Question) → Value q → List ℕ
values_of (ask_dtai day) z = signed z
values_of (ask_utc_to_tai day t) x = decimal x
values_of (ask_tai_to_utc x) u = two_numbers u.day u.micros
values_of (ask_utc_to_uts day t) u = decimal u
values_of (ask_uts_to_utc day u) t = decimal t

-- an answer in bytes: its values, or the refusal
abbrev pub told : {A : Type 0} → (A → List ℕ) → Answer A → List ℕ
told f (given v) = f v
told f (refused n) = refusal n

-- the answer to a time question, of a schedule and of a list
unfoldable pub asked_of : Question → Schedule → List ℕ
asked_of q s = told (values_of q) (ask s q)

unfoldable pub asked_under : List ℕ → Question → List ℕ
asked_under list q = about_list list (asked_of q)

-- the question that the code asks
abbrev pub question_of : Asked → Question
question_of (asked.Dtai day) = ask_dtai day
question_of (asked.Tai day t) = ask_utc_to_tai day t.0
question_of (asked.Utc x) = ask_tai_to_utc x.0
question_of (asked.Uts day t) = ask_utc_to_uts day t.0
question_of (asked.Unsmooth day u) = ask_uts_to_utc day u.0
