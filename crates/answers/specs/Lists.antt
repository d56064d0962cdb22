-- Answers about the list that a field names.
-- Assumes nothing: these are definitions.
use Rattle.std.specs.Prelude.{ℕ, Bool, cond, List}
use Rattle.ascii.specs.Ascii.{ascii}
use Rattle.ascii.specs.Hex.{hex}
use Rattle.ascii.specs.Parts.{same}
use Rattle.schedule.specs.Schedule.{Schedule}
use Rattle.schedule.specs.Answers.{Reading, by_reading}
use Rattle.text.specs.Read.{read_text}
use Rattle.nybbles.specs.Write.{nybbles_of}
use Rattle.compare.specs.declared.longer.Chosen.{Chosen}
use Rattle.compare.specs.declared.longer.Chosen.TheVariants.{First, Second}
use Rattle.compare.specs.Compare.{comparison_of}
use Rattle.compare.specs.Longer.{chosen}
use Rattle.refusals.specs.Answer.{Answer, given, refused}
use Rattle.ascii.specs.Refusal.{refusal, refusal_at}

-- the embedded list, the official table of July 2026
abbrev pub current : List ℕ
current = ascii "6+6+12+12+12+12+12+12+12+18+12+12+24+30+24+12+18+12+12+18+18+18+84+36+42+36+18+125?"

-- the list that a field names: the word `current`, or the list itself
unfoldable pub list_of : List ℕ → List ℕ
list_of field = cond (same field (ascii "current")) current field

-- an answer about a list that was read, or the refusal of one that does not read
abbrev pub about_read : Reading → (Schedule → List ℕ) → List ℕ
about_read r f = by_reading r refusal_at f

abbrev pub about_list : List ℕ → (Schedule → List ℕ) → List ℕ
about_list field f = about_read (read_text (list_of field)) f

-- two lists compared; of a refusal the number alone
abbrev pub comparison_answer : Bool → List ℕ → List ℕ → List ℕ
comparison_answer lines x y = comparison_of lines (list_of x) (list_of y)

-- the longer of two lists, or the refusal
unfoldable pub longer_by : Answer Chosen → List ℕ → List ℕ → List ℕ
longer_by (given First) x y = x
longer_by (given Second) x y = y
longer_by (refused n) x y = refusal n

abbrev pub longer_answer : List ℕ → List ℕ → List ℕ
longer_answer x y = longer_by (chosen (list_of x) (list_of y)) (list_of x) (list_of y)

-- a list as nybbles, in hex
abbrev pub nybbles_answer : List ℕ → List ℕ
nybbles_answer list = about_list list (λ s. hex (nybbles_of s))
