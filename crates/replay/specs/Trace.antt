-- "Replay a branch's day": what a line of a trace says.
-- Assumes nothing: these are definitions.
use Rattle.std.specs.Prelude.{ℕ, cond, Option, Some, None, List, [], ◌∷◌, leb, eqb, length}
use Rattle.ascii.specs.Decimal.{number_of}
use Rattle.ascii.specs.Parts.{parts}
use Rattle.ascii.specs.Lines.{space_byte}

-- what a line says: use this text list; store the current list; go back to the stored one; the smoothed time of an MJD and microseconds; or it
-- is no such line
pub data Line : Type 0 where
  list : List ℕ → Line
  store : Line
  reset : Line
  question : ℕ → ℕ → Line
  other : Line

-- "L", "S", "Z" and "Q"
abbrev pub letter_l : ℕ
letter_l = 76

abbrev pub letter_s : ℕ
letter_s = 83

abbrev pub letter_z : ℕ
letter_z = 90

abbrev pub letter_q : ℕ
letter_q = 81

-- a line has at most 4,096 bytes before its LF, and a number of a question at most 18 digits
abbrev pub max_line : ℕ
max_line = 4096

abbrev pub max_digits : ℕ
max_digits = 18

-- the number of a field: one to 18 decimal digits, leading zeros allowed
unfoldable pub short_number : List ℕ → Option ℕ
short_number field = cond (leb (length field) max_digits) (number_of field) None

-- a question with two numbers, where both are given
abbrev pub asks : Option ℕ → Option ℕ → Line
asks (Some day) (Some t) = question day t
asks (Some day) None = other
asks None m = other

-- what `Q` says with the fields after its space: two numbers
abbrev pub question_of : List (List ℕ) → Line
question_of [] = other
question_of (x ∷ []) = other
question_of (x ∷ y ∷ []) = asks (short_number x) (short_number y)
question_of (x ∷ y ∷ z ∷ zs) = other

-- what a letter says alone, and with what follows its space
abbrev pub alone : ℕ → Line
alone letter = cond (eqb letter letter_s) store (cond (eqb letter letter_z) reset other)

abbrev pub followed : ℕ → List ℕ → Line
followed letter bytes = cond (eqb letter letter_l) (list bytes) (cond (eqb letter letter_q) (question_of (parts space_byte bytes)) other)

-- what a line of any length says: a letter alone, or a letter, one space and what follows it
abbrev pub line_of : List ℕ → Line
line_of [] = other
line_of (b ∷ []) = alone b
line_of (b ∷ c ∷ bytes) = cond (eqb c space_byte) (followed b bytes) other

-- what a line says, without its LF
unfoldable pub meaning : List ℕ → Line
meaning bytes = cond (leb (length bytes) max_line) (line_of bytes) other
