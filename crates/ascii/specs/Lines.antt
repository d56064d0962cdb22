-- What parts the lines of a text and the fields of a line, and a line of two numbers.
-- Assumes nothing: these are definitions.
use Rattle.std.specs.Prelude.{ℕ, Bool, true, false, List, [], ◌∷◌, ◌++◌}
use Rattle.ascii.specs.Ascii.{ascii}
use Rattle.ascii.specs.Decimal.{decimal}

-- LF and " "
abbrev pub newline : ℕ
newline = 10

abbrev pub space_byte : ℕ
space_byte = 32

-- what stands between lines: LF, or `; ` where they are to be one line
unfoldable pub between : Bool → List ℕ
between true = newline ∷ []
between false = ascii "; "

-- two numbers, one space between them
abbrev pub two_numbers : ℕ → ℕ → List ℕ
two_numbers a b = decimal a ++ (space_byte ∷ decimal b)
