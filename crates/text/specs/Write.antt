-- "The text list": the one text of a schedule.
-- Assumes nothing: these are definitions.
use Rattle.std.specs.Prelude.{ℕ, ◌+◌, ◌-◌, ◌/◌, ◌%◌, cond, List, [], ◌∷◌, ◌++◌, ltb}
use Rattle.schedule.specs.declared.Leap.{Leap}
use Rattle.schedule.specs.Schedule.{Schedule, expiry_month}
use Rattle.text.specs.Bytes.{zero_byte, sign_byte, end_byte}

-- a gap of 1 to 999 in decimal with no leading zero
unfoldable pub digits : ℕ → List ℕ
digits g =
    cond (ltb g 10) ((zero_byte + g) ∷ [])
    (cond (ltb g 100) ((zero_byte + g / 10) ∷ (zero_byte + g % 10) ∷ []) ((zero_byte + g / 100) ∷ (zero_byte + g / 10 % 10) ∷ (zero_byte + g % 10) ∷ []))

-- a gap and its mark
abbrev pub marked : ℕ → ℕ → List ℕ
marked g mark = digits g ++ (mark ∷ [])

-- zero or more of gap and sign, then a gap and "?"; the first gap is from the month given, the last one to the month at the end
unfoldable pub text_from : ℕ → List Leap → ℕ → List ℕ
text_from from [] end = marked (end - from) end_byte
text_from from (l ∷ ls) end = marked (l.month - from) (sign_byte l.sign) ++ text_from l.month ls end

-- the text of a schedule, whose expiry is rounded down to its month
unfoldable pub text_of : Schedule → List ℕ
text_of s = text_from 0 s.leaps (expiry_month s)
