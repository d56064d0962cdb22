-- Numbers in decimal.
-- Assumes nothing: these are definitions.
use Rattle.std.specs.Prelude.{ℕ, zero, suc, ◌+◌, ◌-◌, ◌*◌, ◌/◌, ◌%◌, ◌^◌, Bool, true, false, not, cond, ◌&&◌, List, [], ◌∷◌, ◌++◌, ltb, leb, eqb, ℤ, pos, negsuc, neg_ℤ, Option, Some, None}
use Rattle.ascii.specs.Ascii.{within, zero_byte, nine_byte, plus_byte, minus_byte}

-- the byte of a digit
abbrev pub digit : ℕ → ℕ
digit d = zero_byte + d

-- the digits of a number: those of its tenth part, and then the last one; `bound` only limits the recursion, and n + 1 is always enough
unfoldable pub digits_in : ℕ → ℕ → List ℕ
digits_in zero n = []
digits_in (suc bound) n = cond (ltb n 10) (digit n ∷ []) (digits_in bound (n / 10) ++ (digit (n % 10) ∷ []))

-- a number in decimal, with no leading zero
unfoldable pub decimal : ℕ → List ℕ
decimal n = digits_in (suc n) n

-- the last two digits of a number
abbrev pub pair : ℕ → List ℕ
pair n = digit (n / 10 % 10) ∷ digit (n % 10) ∷ []

-- an integer: `-` where it is below zero
abbrev pub signed : ℤ → List ℕ
signed (pos n) = decimal n
signed (negsuc n) = minus_byte ∷ decimal (suc n)

-- an integer with its sign, `+` for zero
abbrev pub with_sign : ℤ → List ℕ
with_sign (pos n) = plus_byte ∷ decimal n
with_sign (negsuc n) = minus_byte ∷ decimal (suc n)

-- "0" to "9"
abbrev pub is_digit : ℕ → Bool
is_digit b = within zero_byte nine_byte b

unfoldable pub all_digits : List ℕ → Bool
all_digits [] = true
all_digits (b ∷ bs) = is_digit b && all_digits bs

-- the number that digits mean after the digits of n
unfoldable pub value_after : ℕ → List ℕ → ℕ
value_after n [] = n
value_after n (b ∷ bs) = value_after (n * 10 + (b - zero_byte)) bs

-- the integer that bytes mean: a `-` stands before the digits of one below zero, and a `+` or nothing before others
unfoldable pub integer_of : List ℕ → ℤ
integer_of [] = pos 0
integer_of (b ∷ bs) =
    cond (eqb b minus_byte) (neg_ℤ (pos (value_after 0 bs)))
    (cond (eqb b plus_byte) (pos (value_after 0 bs)) (pos (value_after 0 (b ∷ bs))))

abbrev pub is_empty : List ℕ → Bool
is_empty [] = true
is_empty (b ∷ bs) = false

-- the largest number that is read, 2^64 - 1
abbrev pub max_number : ℕ
max_number = 2 ^ 64 - 1

-- a field gives a number: one or more digits, leading zeros or not, of at most 2^64 - 1
abbrev pub is_number : List ℕ → Bool
is_number field = not (is_empty field) && (all_digits field && leb (value_after 0 field) max_number)

-- the number that a field gives
unfoldable pub number_of : List ℕ → Option ℕ
number_of field = cond (is_number field) (Some (value_after 0 field)) None
