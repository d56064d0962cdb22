-- The bytes of ASCII texts, and those that the other definitions name.
-- Assumes nothing: these are definitions.
use Rattle.std.specs.Prelude.{ℕ, Bool, ◌&&◌, List, [], ◌∷◌, leb}
use Prim.Native.Char.{code}
use Prim.Native.String.{String, [] as none, ◌∷◌ as more}

-- the bytes of an ASCII text
abbrev pub ascii : String → List ℕ
ascii none = []
ascii (more c s) = code c ∷ ascii s

-- a byte is one of those from a first to a last
unfoldable pub within : ℕ → ℕ → ℕ → Bool
within first last b = leb first b && leb b last

-- "0" and "9", "a" and "f", "A" and "F"
abbrev pub zero_byte : ℕ
zero_byte = 48

abbrev pub nine_byte : ℕ
nine_byte = 57

abbrev pub low_a : ℕ
low_a = 97

abbrev pub low_f : ℕ
low_f = 102

abbrev pub high_a : ℕ
high_a = 65

abbrev pub high_f : ℕ
high_f = 70

-- "+" and "-"
abbrev pub plus_byte : ℕ
plus_byte = 43

abbrev pub minus_byte : ℕ
minus_byte = 45
