-- The bytes of a text list.
-- Assumes nothing: these are definitions.
use Rattle.std.specs.Prelude.{ℕ, ◌-◌, Bool, ◌&&◌, cond, Option, Some, None, leb, eqb}
use Rattle.schedule.specs.declared.Sign.{Sign}
use Rattle.schedule.specs.declared.Sign.TheVariants.{Positive, Negative}
use Rattle.text.specs.declared.Mark.{Mark}
use Rattle.text.specs.declared.Mark.TheVariants.{Leaps, Expires}

-- "0", "9", "+", "-" and "?"
abbrev pub zero_byte : ℕ
zero_byte = 48

abbrev pub nine_byte : ℕ
nine_byte = 57

abbrev pub plus_byte : ℕ
plus_byte = 43

abbrev pub minus_byte : ℕ
minus_byte = 45

abbrev pub end_byte : ℕ
end_byte = 63

-- "0" to "9"
abbrev pub is_digit : ℕ → Bool
is_digit b = leb zero_byte b && leb b nine_byte

abbrev pub digit_of : ℕ → ℕ
digit_of b = b - zero_byte

-- the mark that a byte is where one is due: a sign, the expiry's "?", or none
abbrev pub mark_of : ℕ → Option Mark
mark_of b =
    cond (eqb b plus_byte) (Some (Leaps Positive))
    (cond (eqb b minus_byte) (Some (Leaps Negative))
    (cond (eqb b end_byte) (Some Expires) None))

-- the byte of a sign
abbrev pub sign_byte : Sign → ℕ
sign_byte Positive = plus_byte
sign_byte Negative = minus_byte
