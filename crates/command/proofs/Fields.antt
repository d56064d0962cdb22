-- What a line is answered by its fields, and a word by its form. Assumes nothing.
use Rattle.std.proofs.Common.{◌≡◌, ℕ, ◌≤◌, ◌<◌, Bool, List, [], ◌∷◌, length, Option, Some, None, MatchOption, refl, arith, le-leb, Bor}
use native.Mathlib.Decide.{dec_le}
use borrow.Author.Tests.{lt-leb}
use Rattle.ascii.specs.Lines.{space_byte}
use Rattle.ascii.specs.Parts.{first_part, Split, parts}
use Rattle.ascii.proofs.Splitting.{last_part, more_parts}
use Rattle.ascii.proofs.Fields.{only, first_and_rest, split_long}
use Rattle.line.specs.declared.words.Form.{Form}
use Rattle.line.specs.declared.words.Form.TheVariants as form
use Rattle.line.specs.declared.words.Word.{Word}
use Rattle.line.specs.Words.{form_of, expected}
use Rattle.command.specs.Answer.{one_field, answer_by, answer_for, answer_first, answer_parts, max_line, too_long, answer_to}

-- the first of several fields and those behind it, or the only one
pub first : (line : List ℕ) (r : Option (Bor (List ℕ) × Bor (List ℕ))) → MatchOption r (first_part space_byte line ≡ line) (λ x. Split space_byte line x.0.now x.1.now)
    → MatchOption r (parts space_byte line ≡ line ∷ []) (λ x. (parts space_byte line ≡ x.0.now ∷ parts space_byte x.1.now) × (length x.1.now ≤ length line))
first line None e = only space_byte line e
first line (Some x) s = (first_and_rest s, omega (arith, split_long s))

-- more fields than a form takes
pub too_many : (e x bytes : List ℕ) (f : List ℕ → List ℕ) → one_field e (x ∷ parts space_byte bytes) f ≡ e
too_many e x bytes f =
    elim (dec_le (length bytes) (length (first_part space_byte bytes))) [
      | yes h ↦ rw (last_part space_byte bytes h)
      | no h ↦ rw (more_parts space_byte bytes (omega arith))
    ]

-- ---- a word alone

none : (lines : Bool) (e : List ℕ) (r : Form) → answer_by lines e r [] ≡ e
none lines e (form.List w) = refl
none lines e form.Hex = refl
none lines e (form.ListAndNumber w) = refl
none lines e (form.ListAndTime w) = refl
none lines e (form.TwoLists w) = refl

pub no_fields : (lines : Bool) (w : Option Word) → answer_first lines w [] ≡ expected w
unfolding answer_for
no_fields lines None = refl
no_fields lines (Some w) = none lines (expected (Some w)) (form_of w)

-- ---- the length of a line

-- a line that is too long, and one that is not
pub long_line : (lines : Bool) (line : List ℕ) → max_line < length line → answer_to lines line ≡ too_long
unfolding answer_to
long_line lines line h = simp (lt-leb (length line) max_line h)

pub in_parts : (lines : Bool) (line : List ℕ) → length line ≤ max_line → answer_to lines line ≡ answer_parts lines (parts space_byte line)
unfolding answer_to
in_parts lines line h = simp (le-leb (length line) max_line h)
