-- What each word is answered, by its name: the question of 01 or 02 that it asks; and what was expected, where a field is missing, is one too many,
-- or gives no number.
-- Assumes nothing.
use mathlib.Core.Path.{◌≡◌, refl}
use mathlib.Core.Bool.{Bool, true, false}
use mathlib.Core.List.{List, [], ◌∷◌}
use Prim.Native.Nat.{ℕ}
use Rattle.ascii.specs.Ascii.{ascii, within}
use Rattle.ascii.specs.Decimal.{all_digits, value_after, number_of}
use Rattle.std.specs.Prelude.{Some, None}
use Rattle.ascii.specs.Hex.{is_hex, unhex}
use Rattle.ascii.specs.Parts.{same}
use Rattle.text.specs.Write.{text_of}
use Rattle.nybbles.specs.Read.{read_nybbles}
use Rattle.clock.specs.Question.{ask_dtai, ask_utc_to_tai, ask_tai_to_utc, ask_utc_to_uts, ask_uts_to_utc}
use Rattle.line.specs.declared.words.Word.TheVariants.{Show, Nybbles, Text, Dtai, Tai, Utc, Uts, Unsmooth, Compare, Longer}
use Rattle.line.specs.Words.{word_of, form_of, expected}
use Rattle.show.specs.Show.{shown}
use Rattle.compare.specs.Compare.{comparison_of}
use Rattle.compare.specs.Longer.{chosen}
use Rattle.answers.specs.Lists.{list_of, longer_by, about_read, about_list, nybbles_answer, comparison_answer, longer_answer}
use Rattle.answers.specs.Times.{asked_under}
use Rattle.command.specs.Answer.{of_list, of_hex, of_pair, answer_for}

-- ---- the words by their names

pub show_named : word_of (ascii "show") ≡ Some Show
unfolding word_of same
show_named = refl

pub nybbles_named : word_of (ascii "nybbles") ≡ Some Nybbles
unfolding word_of same
nybbles_named = refl

pub text_named : word_of (ascii "text") ≡ Some Text
unfolding word_of same
text_named = refl

pub dtai_named : word_of (ascii "dtai") ≡ Some Dtai
unfolding word_of same
dtai_named = refl

pub tai_named : word_of (ascii "tai") ≡ Some Tai
unfolding word_of same
tai_named = refl

pub utc_named : word_of (ascii "utc") ≡ Some Utc
unfolding word_of same
utc_named = refl

pub uts_named : word_of (ascii "uts") ≡ Some Uts
unfolding word_of same
uts_named = refl

pub unsmooth_named : word_of (ascii "unsmooth") ≡ Some Unsmooth
unfolding word_of same
unsmooth_named = refl

pub compare_named : word_of (ascii "compare") ≡ Some Compare
unfolding word_of same
compare_named = refl

pub longer_named : word_of (ascii "longer") ≡ Some Longer
unfolding word_of same
longer_named = refl

-- `current` names the embedded list, in either place
pub current_named : list_of (ascii "current") ≡ ascii "6+6+12+12+12+12+12+12+12+18+12+12+24+30+24+12+18+12+12+18+18+18+84+36+42+36+18+125?"
unfolding list_of same
current_named = refl

pub lists_named : (lines : Bool) (x y : List ℕ) → (comparison_answer lines x y ≡ comparison_of lines (list_of x) (list_of y))
    × (longer_answer x y ≡ longer_by (chosen (list_of x) (list_of y)) (list_of x) (list_of y))
lists_named lines x y = (refl, refl)

-- ---- what each asks

-- a list alone, and two lists
pub show_asks : (lines : Bool) (list : List ℕ) → answer_for lines Show (list ∷ []) ≡ about_list list (shown lines)
unfolding form_of answer_for of_list of_pair
show_asks lines list = refl

pub nybbles_asks : (lines : Bool) (list : List ℕ) → answer_for lines Nybbles (list ∷ []) ≡ nybbles_answer list
unfolding form_of answer_for of_list of_pair
nybbles_asks lines list = refl

pub compare_asks : (lines : Bool) (first second : List ℕ) → answer_for lines Compare (first ∷ second ∷ []) ≡ comparison_answer lines first second
unfolding form_of answer_for of_list of_pair
compare_asks lines first second = refl

pub longer_asks : (lines : Bool) (first second : List ℕ) → answer_for lines Longer (first ∷ second ∷ []) ≡ longer_answer first second
unfolding form_of answer_for of_list of_pair
longer_asks lines first second = refl

-- a nybble list in hex
pub text_asks : (lines : Bool) (field : List ℕ) → is_hex field ≡ true → answer_for lines Text (field ∷ []) ≡ about_read (read_nybbles (unhex field)) text_of
unfolding form_of answer_for of_hex
text_asks lines field h = simp h

pub no_hex : (lines : Bool) (field : List ℕ) → is_hex field ≡ false → answer_for lines Text (field ∷ []) ≡ expected (Some Text)
unfolding form_of answer_for of_hex
no_hex lines field h = simp h

-- a list and a number
pub dtai_asks : (lines : Bool) (list x : List ℕ) (n : ℕ) → number_of x ≡ Some n → answer_for lines Dtai (list ∷ x ∷ []) ≡ asked_under list (ask_dtai n)
unfolding form_of answer_for
dtai_asks lines list x n e = simp e

pub utc_asks : (lines : Bool) (list x : List ℕ) (n : ℕ) → number_of x ≡ Some n → answer_for lines Utc (list ∷ x ∷ []) ≡ asked_under list (ask_tai_to_utc n)
unfolding form_of answer_for
utc_asks lines list x n e = simp e

-- a list, a day and a time of it
pub tai_asks : (lines : Bool) (list x y : List ℕ) (day t : ℕ) → number_of x ≡ Some day → number_of y ≡ Some t
    → answer_for lines Tai (list ∷ x ∷ y ∷ []) ≡ asked_under list (ask_utc_to_tai day t)
unfolding form_of answer_for
tai_asks lines list x y day t e f = simp (e, f)

pub uts_asks : (lines : Bool) (list x y : List ℕ) (day t : ℕ) → number_of x ≡ Some day → number_of y ≡ Some t
    → answer_for lines Uts (list ∷ x ∷ y ∷ []) ≡ asked_under list (ask_utc_to_uts day t)
unfolding form_of answer_for
uts_asks lines list x y day t e f = simp (e, f)

pub unsmooth_asks : (lines : Bool) (list x y : List ℕ) (day t : ℕ) → number_of x ≡ Some day → number_of y ≡ Some t
    → answer_for lines Unsmooth (list ∷ x ∷ y ∷ []) ≡ asked_under list (ask_uts_to_utc day t)
unfolding form_of answer_for
unsmooth_asks lines list x y day t e f = simp (e, f)

-- ---- other fields: one too few, one too many, and one that gives no number

pub too_few : (lines : Bool) (list x : List ℕ) → (answer_for lines Dtai (list ∷ []) ≡ expected (Some Dtai)) × (answer_for lines Tai (list ∷ x ∷ []) ≡ expected (Some Tai))
unfolding form_of answer_for
too_few lines list x = (refl, refl)

pub too_many : (lines : Bool) (x y z : List ℕ) (more : List (List ℕ)) → (answer_for lines Show (x ∷ y ∷ more) ≡ expected (Some Show)) × (answer_for lines Utc (x ∷ y ∷ z ∷ more) ≡ expected (Some Utc))
unfolding form_of answer_for
too_many lines x y z more = (refl, refl)

pub no_number : (lines : Bool) (list x : List ℕ) → number_of x ≡ None → answer_for lines Utc (list ∷ x ∷ []) ≡ expected (Some Utc)
unfolding form_of answer_for
no_number lines list x e = simp e

-- the largest number is 2^64 - 1; one more is no number
pub largest_number : (number_of (ascii "18446744073709551615") ≡ Some 18_446_744_073_709_551_615) × (number_of (ascii "18446744073709551616") ≡ None)
unfolding number_of all_digits within value_after
largest_number = (refl, refl)
