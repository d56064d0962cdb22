-- The words of a question line, and what is answered where a line is no question.
-- Assumes nothing: these are definitions.
use Rattle.std.specs.Prelude.{ℕ, cond, List, ◌++◌, Option, Some, None}
use Rattle.ascii.specs.Ascii.{ascii}
use Rattle.ascii.specs.Parts.{same}
use Rattle.line.specs.declared.words.Word.{Word}
use Rattle.line.specs.declared.words.Word.TheVariants.{Show, Nybbles, Text, Dtai, Tai, Utc, Uts, Unsmooth, Compare, Longer}
use Rattle.line.specs.declared.words.Form.{Form}
use Rattle.line.specs.declared.words.Form.TheVariants as form
use Rattle.line.specs.declared.words.ListWord.TheVariants as list
use Rattle.line.specs.declared.words.NumberWord.TheVariants as number
use Rattle.line.specs.declared.words.TimeWord.TheVariants as time
use Rattle.line.specs.declared.words.PairWord.TheVariants as pair

-- the word that a field is, if it is one
unfoldable pub word_of : List ℕ → Option Word
word_of field =
    cond (same field (ascii "show")) (Some Show)
    (cond (same field (ascii "nybbles")) (Some Nybbles)
    (cond (same field (ascii "text")) (Some Text)
    (cond (same field (ascii "dtai")) (Some Dtai)
    (cond (same field (ascii "tai")) (Some Tai)
    (cond (same field (ascii "utc")) (Some Utc)
    (cond (same field (ascii "uts")) (Some Uts)
    (cond (same field (ascii "unsmooth")) (Some Unsmooth)
    (cond (same field (ascii "compare")) (Some Compare)
    (cond (same field (ascii "longer")) (Some Longer)
    None)))))))))

-- the fields that a word takes, and which of the words that take them it is
unfoldable pub form_of : Word → Form
form_of Show = form.List list.Show
form_of Nybbles = form.List list.Nybbles
form_of Text = form.Hex
form_of Dtai = form.ListAndNumber number.Dtai
form_of Tai = form.ListAndTime time.Tai
form_of Utc = form.ListAndNumber number.Utc
form_of Uts = form.ListAndTime time.Uts
form_of Unsmooth = form.ListAndTime time.Unsmooth
form_of Compare = form.TwoLists pair.Compare
form_of Longer = form.TwoLists pair.Longer

-- how a question goes
unfoldable pub usage : Option Word → List ℕ
usage (Some Show) = ascii "show LIST"
usage (Some Nybbles) = ascii "nybbles LIST"
usage (Some Text) = ascii "text HEX"
usage (Some Dtai) = ascii "dtai LIST MJD"
usage (Some Tai) = ascii "tai LIST MJD MICROS"
usage (Some Utc) = ascii "utc LIST TAI"
usage (Some Uts) = ascii "uts LIST MJD MICROS"
usage (Some Unsmooth) = ascii "unsmooth LIST MJD NANOS"
usage (Some Compare) = ascii "compare LIST LIST"
usage (Some Longer) = ascii "longer LIST LIST"
usage None = ascii "show, nybbles, text, dtai, tai, utc, uts, unsmooth, compare or longer"

-- the answer to what is no question
unfoldable pub expected : Option Word → List ℕ
expected w = ascii "? expected: " ++ usage w
