-- Refusals as an answer has them.
-- Assumes nothing: these are definitions.
use Rattle.std.specs.Prelude.{ℕ, List, ◌∷◌, ◌++◌}
use Rattle.ascii.specs.Decimal.{decimal}
use Rattle.ascii.specs.Lines.{space_byte}

-- "!"
abbrev pub refusal_byte : ℕ
refusal_byte = 33

-- a refusal: `!` and its number
unfoldable pub refusal : ℕ → List ℕ
refusal n = refusal_byte ∷ decimal n

-- the refusal of a list that does not read: a space and the place follow
unfoldable pub refusal_at : ℕ → ℕ → List ℕ
refusal_at n place = refusal n ++ (space_byte ∷ decimal place)
