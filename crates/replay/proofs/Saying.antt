-- What follows the first field of a question is the second, if it is a number. Assumes nothing.
use Prim.Native.Nat.{ℕ}
use mathlib.Core.Path.{◌≡◌, refl, ◌∙◌}
use mathlib.Core.List.{List, ◌∷◌}
use Rattle.std.specs.Prelude.{Option, Some, None}
use native.Mathlib.Omega.{arith}
use native.Mathlib.Decide.{dec_le}
use lib.ListN.{length}
use Rattle.ascii.specs.Lines.{space_byte}
use Rattle.ascii.specs.Parts.{first_part, parts, Split}
use Rattle.ascii.proofs.Fields.{part_alone, only, first_and_rest}
use Rattle.ascii.proofs.Splitting.{last_part, more_parts}
use Rattle.replay.specs.Trace.{other, short_number, asks, question_of}
use Rattle.replay.proofs.Says.{given_short, no_space}

-- three fields are too many
too_many : (x y bytes : List ℕ) → question_of (x ∷ y ∷ parts space_byte bytes) ≡ other
too_many x y bytes =
    elim (dec_le (length bytes) (length (first_part space_byte bytes))) [
      | yes h ↦ rw (last_part space_byte bytes h)
      | no h ↦ rw (more_parts space_byte bytes (omega arith))
    ]

no_second : (a : Option ℕ) → other ≡ asks a None
no_second (Some day) = refl
no_second None = refl

-- so what follows the first field is the second, if it is a number: a space is no digit
last_field : (x rest : List ℕ) → question_of (x ∷ parts space_byte rest) ≡ asks (short_number x) (short_number rest)
last_field x rest = by_number (short_number rest) refl
  where
    by_number : (n : Option ℕ) → short_number rest ≡ n → question_of (x ∷ parts space_byte rest) ≡ asks (short_number x) (short_number rest)
    by_number (Some t) e = rw (part_alone space_byte rest (no_space rest (given_short rest t e).digits))
    by_number None e =
        elim (dec_le (length rest) (length (first_part space_byte rest))) [
          | yes h ↦ rw (last_part space_byte rest h)
          | no h ↦ rw (more_parts space_byte rest (omega arith), e) (too_many x _ _ ∙ no_second (short_number x))
        ]

-- a question with a space, and with none
pub two_fields : {bytes before behind : List ℕ} → Split space_byte bytes before behind → question_of (parts space_byte bytes) ≡ asks (short_number before) (short_number behind)
two_fields {bytes} {before} {behind} s = rw (first_and_rest s) (last_field before behind)

pub one_field : (bytes : List ℕ) → first_part space_byte bytes ≡ bytes → question_of (parts space_byte bytes) ≡ other
one_field bytes h = rw (only space_byte bytes h)
