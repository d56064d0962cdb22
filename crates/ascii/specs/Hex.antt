-- Bytes in hex.
-- Assumes nothing: these are definitions.
use Rattle.std.specs.Prelude.{ℕ, ◌+◌, ◌-◌, ◌*◌, ◌/◌, ◌%◌, Bool, true, cond, ◌&&◌, ◌||◌, List, [], ◌∷◌, ltb, eqb, length}
use Rattle.ascii.specs.Ascii.{within, zero_byte, low_a, low_f, high_a, high_f}
use Rattle.ascii.specs.Decimal.{is_digit}

-- the byte of a hex digit, in lower case
abbrev pub hex_digit : ℕ → ℕ
hex_digit d = cond (ltb d 10) (zero_byte + d) (low_a + (d - 10))

-- bytes in hex: the upper half of each first
unfoldable pub hex : List ℕ → List ℕ
hex [] = []
hex (b ∷ bs) = hex_digit (b / 16) ∷ hex_digit (b % 16) ∷ hex bs

-- "a" to "f", and "A" to "F"
abbrev pub is_low : ℕ → Bool
is_low b = within low_a low_f b

abbrev pub is_high : ℕ → Bool
is_high b = within high_a high_f b

-- a hex digit of either case
abbrev pub is_hex_digit : ℕ → Bool
is_hex_digit b = is_digit b || (is_low b || is_high b)

-- what a hex digit stands for, and 0 for another byte
unfoldable pub nybble_of : ℕ → ℕ
nybble_of b = cond (is_digit b) (b - zero_byte) (cond (is_low b) (b - low_a + 10) (cond (is_high b) (b - high_a + 10) 0))

unfoldable pub all_hex_digits : List ℕ → Bool
all_hex_digits [] = true
all_hex_digits (b ∷ bs) = is_hex_digit b && all_hex_digits bs

-- a field is hex: an even number of hex digits
abbrev pub is_hex : List ℕ → Bool
is_hex field = all_hex_digits field && eqb (length field % 2) 0

-- the bytes that a field stands for in hex
unfoldable pub unhex : List ℕ → List ℕ
unhex [] = []
unhex (a ∷ []) = []
unhex (a ∷ b ∷ bs) = (nybble_of a * 16 + nybble_of b) ∷ unhex bs
