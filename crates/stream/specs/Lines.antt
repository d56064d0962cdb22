-- The lines of an input that are complete, and what is left after them.
-- Assumes nothing: these are definitions.
use Rattle.std.specs.Prelude.{ℕ, ◌+◌, List, [], ◌∷◌, length, drop}
use Rattle.ascii.specs.Parts.{parts}
use Rattle.ascii.specs.Lines.{newline}

abbrev pub but_last : List (List ℕ) → List (List ℕ)
but_last [] = []
but_last (p ∷ []) = []
but_last (p ∷ q ∷ qs) = p ∷ but_last (q ∷ qs)

-- the complete lines of an input, each without its LF
unfoldable pub lines_of : List ℕ → List (List ℕ)
lines_of input = but_last (parts newline input)

-- how many bytes lines are, each with its LF
unfoldable pub size_of : List (List ℕ) → ℕ
size_of [] = 0
size_of (l ∷ ls) = length l + 1 + size_of ls

-- what is left of an input after its complete lines: the start of the next line
abbrev pub rest : List ℕ → List ℕ
rest input = drop (size_of (lines_of input)) input
