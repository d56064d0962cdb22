-- "The nybble list": the nybbles of a list, their division into codes, and what each code says.
-- Assumes nothing: these are definitions.
use Rattle.std.specs.Prelude.{ℕ, ◌+◌, ◌*◌, ◌/◌, ◌%◌, cond, List, [], ◌∷◌, ltb, eqb}
use Rattle.schedule.specs.declared.Sign.{Sign}
use Rattle.schedule.specs.declared.Sign.TheVariants.{Positive, Negative}
use Rattle.nybbles.specs.declared.code.Mark.{Mark}
use Rattle.nybbles.specs.declared.code.Mark.TheVariants.{Continues, Leaps, Expires}
use Rattle.nybbles.specs.declared.code.Unit.{Unit}
use Rattle.nybbles.specs.declared.code.Unit.TheVariants.{Sixes, Months}
use Rattle.nybbles.specs.declared.code.Code.{Code}

-- the nybbles of a list: the upper half of each byte first
unfoldable pub nybbles : List ℕ → List ℕ
nybbles [] = []
nybbles (b ∷ bs) = (b / 16) ∷ (b % 16) ∷ nybbles bs

-- NP 00 is no leap: the gap continues
abbrev pub np_none : ℕ
np_none = 0

-- NP 01 is a positive leap
abbrev pub np_positive : ℕ
np_positive = 1

-- NP 10 is a negative leap
abbrev pub np_negative : ℕ
np_negative = 2

-- NP 11 is the expiry
abbrev pub np_expiry : ℕ
np_expiry = 3

-- the mark of NP
abbrev pub mark_of : ℕ → Mark
mark_of np =
    cond (eqb np np_positive) (Leaps Positive)
    (cond (eqb np np_negative) (Leaps Negative)
    (cond (eqb np np_expiry) Expires Continues))

-- NP of a sign
abbrev pub np_of : Sign → ℕ
np_of Positive = np_positive
np_of Negative = np_negative

-- NP of a mark
abbrev pub np_of_mark : Mark → ℕ
np_of_mark Continues = np_none
np_of_mark (Leaps sign) = np_of sign
np_of_mark Expires = np_expiry

-- M of a nybble 1MNP
abbrev pub bit_m : ℕ → ℕ
bit_m n = n / 4 % 2

-- NP of a nybble 1MNP
abbrev pub bits_np : ℕ → ℕ
bits_np n = n % 4

-- M 0 counts sixes of months
abbrev pub in_sixes : ℕ
in_sixes = 0

-- M 1 counts months
abbrev pub in_months : ℕ
in_months = 1

-- M of what the months are counted in
abbrev pub bit_of : Unit → ℕ
bit_of Sixes = in_sixes
bit_of Months = in_months

-- the months of M and G: (G + 1) if M is 1, 6 x (G + 1) if M is 0
abbrev pub months_of : ℕ → ℕ → ℕ
months_of m g = cond (eqb m in_months) (g + 1) (6 * (g + 1))

-- a nybble below 8, of value V: a gap of 6 x (V + 1) months with a positive leap
unfoldable pub single : ℕ → Code
single v = record { months = 6 * (v + 1); mark = Leaps Positive; size = 1 }

-- a nybble 1MNP with its G, and how many nybbles the two have
unfoldable pub wide : ℕ → ℕ → ℕ → Code
wide n g size = record { months = months_of (bit_m n) g; mark = mark_of (bits_np n); size = size }

-- G of a nybble 1MNP that is the last
abbrev pub last_g : ℕ
last_g = 4

-- a last nybble 1MNP: a code of one nybble
abbrev pub lone : ℕ → List Code
lone n = wide n last_g 1 ∷ []

-- the division into codes: a nybble below 8 alone, one of 8 or more with the next
unfoldable pub codes_of : List ℕ → List Code
codes_of [] = []
codes_of (n ∷ []) = cond (ltb n 8) (single n ∷ []) (lone n)
codes_of (n ∷ g ∷ ns) = cond (ltb n 8) (single n ∷ codes_of (g ∷ ns)) (wide n g 2 ∷ codes_of ns)
