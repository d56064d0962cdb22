-- An answer is one line where it is to be one, and answers to lines are read as lines again. Assumes nothing.
use mathlib.Core.Path.{◌≡◌, refl, ap, ◌∙◌}
use mathlib.Core.Bool.{false}
use mathlib.Core.List.{List, [], ◌∷◌, map, append_assoc}
use Prim.Native.Nat.{ℕ, zero, suc, ◌<◌}
use native.Mathlib.Omega.{arith}
use lib.Dec.{leb}
use lib.ListN.{length, get_or}
use borrow.Author.Tests.{eqb-false}
use Rattle.ascii.specs.Decimal.{number_of}
use Rattle.std.specs.Prelude.{Option, Some, None}
use Rattle.ascii.specs.Hex.{is_hex, unhex, hex}
use Rattle.ascii.specs.Parts.{parts}
use Rattle.ascii.proofs.Fields.{has_no}
use Rattle.ascii.proofs.Unbroken.{Unbroken, more, parted, append, either, in_decimal, in_signed, in_hex, in_refusal, with_place, first_part_lem}
use Rattle.text.specs.Read.{read_text}
use Rattle.text.specs.Write.{text_of}
use Rattle.nybbles.specs.Read.{read_nybbles}
use Rattle.nybbles.specs.Write.{nybbles_of}
use Rattle.refusals.specs.Answer.{Answer, given, refused}
use Rattle.clock.specs.Question.{Question, ask_dtai, ask_utc_to_tai, ask_tai_to_utc, ask_utc_to_uts, ask_uts_to_utc, Value, ask}
use Rattle.line.specs.declared.words.Word.{Word}
use Rattle.line.specs.declared.words.Form.{Form}
use Rattle.line.specs.declared.words.Form.TheVariants as form
use Rattle.line.specs.declared.words.ListWord.{ListWord}
use Rattle.line.specs.declared.words.ListWord.TheVariants as list
use Rattle.line.specs.declared.words.PairWord.{PairWord}
use Rattle.line.specs.declared.words.PairWord.TheVariants as pair
use Rattle.ascii.specs.Lines.{newline, space_byte}
use Rattle.ascii.specs.Refusal.{refusal_at}
use Rattle.line.specs.Words.{word_of, form_of}
use Rattle.stream.specs.Lines.{but_last, lines_of}
use Rattle.stream.specs.Stream.{printed}
use Rattle.stream.proofs.Lines.{not_last}
use Rattle.show.specs.Show.{shown}
use Rattle.answers.specs.Lists.{list_of, about_read}
use Rattle.answers.specs.Times.{values_of, told, asked_of, asked_under}
use Rattle.schedule.specs.Answers.{Reading}
use Rattle.schedule.specs.Schedule.{Schedule}
use Rattle.command.specs.Answer.{one_field, two_fields, three_fields, a_number, of_list, of_hex, of_number, of_time, of_pair, answer_by, answer_for, answer_first, answer_parts, max_line, too_long, answer_to}
use Rattle.command.specs.Lines.{answer_line, asking}
use Rattle.command.proofs.TwoLists.{in_reading, in_comparison, in_longer}
use Rattle.command.proofs.Unbroken.{in_text, in_expected, in_shown}

-- ---- answers about a list

in_read : (r : Reading) (f : Schedule → List ℕ) → ((s : Schedule) → Unbroken (f s)) → Unbroken (about_read r f)
in_read r f u = in_reading r refusal_at f with_place u

in_values : (q : Question) (v : Value q) → Unbroken (values_of q v)
in_values (ask_dtai day) z = in_signed z
in_values (ask_utc_to_tai day t) x = in_decimal x
in_values (ask_tai_to_utc x) u = append _ (in_decimal u.day) (more refl (in_decimal u.micros))
in_values (ask_utc_to_uts day t) u = in_decimal u
in_values (ask_uts_to_utc day u) t = in_decimal t

in_told : {A : Type 0} (f : A → List ℕ) → ((v : A) → Unbroken (f v)) → (a : Answer A) → Unbroken (told f a)
in_told f u (given v) = u v
in_told f u (refused n) = in_refusal n

in_asked : (list : List ℕ) (q : Question) → Unbroken (asked_under list q)
unfolding asked_under asked_of
in_asked list q = in_read (read_text (list_of list)) (asked_of q) (λ s. in_told (values_of q) (in_values q) (ask s q))

-- ---- answers to a word and its fields

module _ {e : List ℕ} (u : Unbroken e) where
  in_number : (r : Option ℕ) (f : ℕ → List ℕ) → ((n : ℕ) → Unbroken (f n)) → Unbroken (a_number e r f)
  in_number (Some n) f v = v n
  in_number None f v = u

  in_one : (fields : List (List ℕ)) (f : List ℕ → List ℕ) → ((x : List ℕ) → Unbroken (f x)) → Unbroken (one_field e fields f)
  in_one [] f v = u
  in_one (x ∷ []) f v = v x
  in_one (x ∷ y ∷ more) f v = u

  in_two : (fields : List (List ℕ)) (f : List ℕ → List ℕ → List ℕ) → ((x y : List ℕ) → Unbroken (f x y)) → Unbroken (two_fields e fields f)
  in_two [] f v = u
  in_two (x ∷ fields) f v = in_one fields (f x) (v x)

  in_three : (fields : List (List ℕ)) (f : List ℕ → List ℕ → List ℕ → List ℕ) → ((x y z : List ℕ) → Unbroken (f x y z)) → Unbroken (three_fields e fields f)
  in_three [] f v = u
  in_three (x ∷ fields) f v = in_two fields (f x) (v x)

  of_hex_lem : (x : List ℕ) → Unbroken (of_hex e x)
  unfolding of_hex
  of_hex_lem x = either (is_hex x) (in_read (read_nybbles (unhex x)) text_of in_text) u

of_list_lem : (w : ListWord) (x : List ℕ) → Unbroken (of_list false w x)
unfolding of_list
of_list_lem list.Show x = in_read (read_text (list_of x)) (shown false) in_shown
of_list_lem list.Nybbles x = in_read (read_text (list_of x)) (λ s. hex (nybbles_of s)) (λ s. in_hex (nybbles_of s))

of_pair_lem : (w : PairWord) (x y : List ℕ) → Unbroken (of_pair false w x y)
unfolding of_pair
of_pair_lem pair.Compare x y = in_comparison (list_of x) (list_of y)
of_pair_lem pair.Longer x y = in_longer (list_of x) (list_of y)

by_form : {e : List ℕ} → Unbroken e → (r : Form) (fields : List (List ℕ)) → Unbroken (answer_by false e r fields)
by_form u (form.List w) fields = in_one u fields (of_list false w) (of_list_lem w)
by_form {e} u form.Hex fields = in_one u fields (of_hex e) (of_hex_lem u)
by_form {e} u (form.ListAndNumber w) fields =
    in_two u fields (λ x y. a_number e (number_of y) (λ n. asked_under x (of_number w n))) (λ x y. in_number u (number_of y) (λ n. asked_under x (of_number w n)) (λ n. in_asked x (of_number w n)))
by_form {e} u (form.ListAndTime w) fields =
    in_three u fields (λ x y z. a_number e (number_of y) (λ day. a_number e (number_of z) (λ t. asked_under x (of_time w day t))))
    (λ x y z. in_number u (number_of y) (λ day. a_number e (number_of z) (λ t. asked_under x (of_time w day t)))
    (λ day. in_number u (number_of z) (λ t. asked_under x (of_time w day t)) (λ t. in_asked x (of_time w day t))))
by_form u (form.TwoLists w) fields = in_two u fields (of_pair false w) (of_pair_lem w)

with_fields : (w : Word) (fields : List (List ℕ)) → Unbroken (answer_for false w fields)
unfolding answer_for
with_fields w fields = by_form (in_expected (Some w)) (form_of w) fields

with_first : (w : Option Word) (fields : List (List ℕ)) → Unbroken (answer_first false w fields)
with_first None fields = in_expected None
with_first (Some w) fields = with_fields w fields

in_parts : (ps : List (List ℕ)) → Unbroken (answer_parts false ps)
in_parts [] = in_expected None
in_parts (w ∷ fields) = with_first (word_of w) fields

too_long_lem : Unbroken too_long
unfolding has_no
too_long_lem = record { none = refl }

unbroken : (line : List ℕ) → Unbroken (answer_to false line)
unfolding answer_to
unbroken line = either (leb (length line) max_line) (in_parts (parts space_byte line)) too_long_lem

-- ---- lines again

no_place : (bytes : List ℕ) → Unbroken bytes → (i : ℕ) → i < length bytes → get_or bytes i 0 ≡ newline → ⊥
no_place [] u i h = absurd (omega arith)
no_place (b ∷ bs) u zero h = eqb-false b newline (parted b bs u).0
no_place (b ∷ bs) u (suc i) h = no_place bs (parted b bs u).1 i (omega arith)

first_answer : (l : List ℕ) (ls : List (List ℕ)) → lines_of (printed asking tt (l ∷ ls)) ≡ answer_to false l ∷ lines_of (printed asking tt ls)
unfolding lines_of printed answer_line
first_answer l ls =
    ap (λ (bytes : List ℕ). but_last (parts newline bytes)) (append_assoc (answer_to false l) (newline ∷ []) (printed asking tt ls))
    ∙ ap but_last (first_part_lem (answer_to false l) (printed asking tt ls) (unbroken l))
    ∙ not_last (answer_to false l) newline (printed asking tt ls)

-- an answer that is to be one line has no LF
pub one_line : (line : List ℕ) (i : ℕ) → i < length (answer_to false line) → get_or (answer_to false line) i 0 ≡ newline → ⊥
one_line line = no_place (answer_to false line) (unbroken line)

-- what is written for lines, read as lines again, is the answer to each of them in order: one answer a line, none more, none less
pub answers_in_order : (ls : List (List ℕ)) → lines_of (printed asking tt ls) ≡ map (answer_to false) ls
unfolding lines_of printed parts
answers_in_order [] = refl
answers_in_order (l ∷ ls) = first_answer l ls ∙ ap {B = List (List ℕ)} (λ rest. answer_to false l ∷ rest) (answers_in_order ls)
