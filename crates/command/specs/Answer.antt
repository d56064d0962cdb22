-- What a question line is answered.
-- Assumes nothing: these are definitions.
use Rattle.std.specs.Prelude.{ℕ, ◌≤◌, min, ◌≡◌, Bool, cond, List, [], ◌∷◌, leb, length, Option, Some, None}
use Rattle.ascii.specs.Ascii.{ascii}
use Rattle.ascii.specs.Output.{filled}
use Rattle.ascii.specs.Decimal.{number_of}
use Rattle.ascii.specs.Hex.{is_hex, unhex}
use Rattle.ascii.specs.Parts.{parts}
use Rattle.text.specs.Write.{text_of}
use Rattle.nybbles.specs.Read.{read_nybbles}
use Rattle.clock.specs.Question.{Question, ask_dtai, ask_utc_to_tai, ask_tai_to_utc, ask_utc_to_uts, ask_uts_to_utc}
use Rattle.line.specs.declared.words.Word.{Word}
use Rattle.line.specs.declared.words.Form.{Form}
use Rattle.line.specs.declared.words.Form.TheVariants as form
use Rattle.line.specs.declared.words.ListWord.{ListWord}
use Rattle.line.specs.declared.words.ListWord.TheVariants as list
use Rattle.line.specs.declared.words.NumberWord.{NumberWord}
use Rattle.line.specs.declared.words.NumberWord.TheVariants as number
use Rattle.line.specs.declared.words.TimeWord.{TimeWord}
use Rattle.line.specs.declared.words.TimeWord.TheVariants as time
use Rattle.line.specs.declared.words.PairWord.{PairWord}
use Rattle.line.specs.declared.words.PairWord.TheVariants as pair
use Rattle.ascii.specs.Lines.{space_byte}
use Rattle.line.specs.Words.{word_of, form_of, expected}
use Rattle.show.specs.Show.{shown}
use Rattle.answers.specs.Lists.{about_read, about_list, nybbles_answer, comparison_answer, longer_answer}
use Rattle.answers.specs.Times.{asked_under}

-- ---- the fields of a form: what is answered about them, and e where they are others

abbrev pub one_field : List ℕ → List (List ℕ) → (List ℕ → List ℕ) → List ℕ
one_field e [] f = e
one_field e (x ∷ []) f = f x
one_field e (x ∷ y ∷ more) f = e

abbrev pub two_fields : List ℕ → List (List ℕ) → (List ℕ → List ℕ → List ℕ) → List ℕ
two_fields e [] f = e
two_fields e (x ∷ fields) f = one_field e fields (f x)

abbrev pub three_fields : List ℕ → List (List ℕ) → (List ℕ → List ℕ → List ℕ → List ℕ) → List ℕ
three_fields e [] f = e
three_fields e (x ∷ fields) f = two_fields e fields (f x)

-- the number that a field gives
abbrev pub a_number : List ℕ → Option ℕ → (ℕ → List ℕ) → List ℕ
a_number e (Some n) f = f n
a_number e None f = e

-- ---- what each word is answered

-- a list alone
unfoldable pub of_list : Bool → ListWord → List ℕ → List ℕ
of_list lines list.Show x = about_list x (shown lines)
of_list lines list.Nybbles x = nybbles_answer x

-- a nybble list, in hex, as text
unfoldable pub of_hex : List ℕ → List ℕ → List ℕ
of_hex e field = cond (is_hex field) (about_read (read_nybbles (unhex field)) text_of) e

-- a list and a number
abbrev pub of_number : NumberWord → ℕ → Question
of_number number.Dtai day = ask_dtai day
of_number number.Utc tai = ask_tai_to_utc tai

-- a list, a day and a time of it
abbrev pub of_time : TimeWord → ℕ → ℕ → Question
of_time time.Tai day t = ask_utc_to_tai day t
of_time time.Uts day t = ask_utc_to_uts day t
of_time time.Unsmooth day u = ask_uts_to_utc day u

-- two lists
unfoldable pub of_pair : Bool → PairWord → List ℕ → List ℕ → List ℕ
of_pair lines pair.Compare x y = comparison_answer lines x y
of_pair lines pair.Longer x y = longer_answer x y

-- ---- the answer to a word with the fields after it

abbrev pub answer_by : Bool → List ℕ → Form → List (List ℕ) → List ℕ
answer_by lines e (form.List w) fields = one_field e fields (of_list lines w)
answer_by lines e form.Hex fields = one_field e fields (of_hex e)
answer_by lines e (form.ListAndNumber w) fields = two_fields e fields (λ x y. a_number e (number_of y) (λ n. asked_under x (of_number w n)))
answer_by lines e (form.ListAndTime w) fields =
    three_fields e fields (λ x y z. a_number e (number_of y) (λ day. a_number e (number_of z) (λ t. asked_under x (of_time w day t))))
answer_by lines e (form.TwoLists w) fields = two_fields e fields (of_pair lines w)

unfoldable pub answer_for : Bool → Word → List (List ℕ) → List ℕ
answer_for lines w fields = answer_by lines (expected (Some w)) (form_of w) fields

-- the answer where the first field is a word, and where it is none
abbrev pub answer_first : Bool → Option Word → List (List ℕ) → List ℕ
answer_first lines None fields = expected None
answer_first lines (Some w) fields = answer_for lines w fields

-- the answer to the parts of a line between its spaces, of which none is left out where it is empty: a word, and the fields after it
abbrev pub answer_parts : Bool → List (List ℕ) → List ℕ
answer_parts lines [] = expected None
answer_parts lines (w ∷ fields) = answer_first lines (word_of w) fields

-- a question line has at most 8,192 bytes
abbrev pub max_line : ℕ
max_line = 8192

abbrev pub too_long : List ℕ
too_long = ascii "? expected: a line of at most 8192 bytes"

-- the answer to a line; an answer of several lines has LF between them where `lines` is true, and else is one line
unfoldable pub answer_to : Bool → List ℕ → List ℕ
answer_to lines line = cond (leb (length line) max_line) (answer_parts lines (parts space_byte line)) too_long

-- no answer is longer than this
abbrev pub max_answer : ℕ
max_answer = 20000

-- what answering leaves: as many bytes of the answer as the output has room for, beyond them what it held, and their number
pub record Answered (text out out' : List ℕ) (written : ℕ) : Type 0 where
  pub count : written ≡ min (length text) (length out)
  pub holds : out' ≡ filled text out
  pub short : length text ≤ max_answer
