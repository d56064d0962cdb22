-- What only private functions are held to: the answer to a question as the code has it. No public contract and no promise speaks of it.
-- Assumes nothing: these are definitions.
use Rattle.std.specs.Prelude.{ℕ, Bool, List, Option, Result, Ok, Err}
use Rattle.ascii.specs.Hex.{unhex}
use Rattle.text.specs.Write.{text_of}
use Rattle.nybbles.specs.Read.{read_nybbles}
use Rattle.line.specs.declared.words.Word.{Word}
use Rattle.line.specs.Words.{expected}
use Rattle.answers.specs.Lists.{about_read}
use Rattle.answers.specs.Times.{asked_under, question_of}
use Rattle.command.specs.declared.question.Question.{Question}
use Rattle.command.specs.declared.question.Question.TheVariants.{OneList, HexList, Time, TwoLists}
use Rattle.command.specs.Answer.{of_list, of_pair}

-- the answer to a question
abbrev pub reply_to : Bool → Question → List ℕ
reply_to lines (OneList w x) = of_list lines w x.now
reply_to lines (HexList h) = about_read (read_nybbles (unhex h.digits.now)) text_of
reply_to lines (Time x asked) = asked_under x.now (question_of asked)
reply_to lines (TwoLists w x y) = of_pair lines w x.now y.now

-- the answer to a question, or what was expected
abbrev pub reply : Bool → Result Question (Option Word) → List ℕ
reply lines (Ok q) = reply_to lines q
reply lines (Err word) = expected word
