-- "The nybble list": the one spelling of a schedule. A written code is its nybbles, one or two.
-- Assumes nothing: these are definitions.
use Rattle.std.specs.Prelude.{ℕ, zero, suc, ◌+◌, ◌*◌, ◌-◌, ◌/◌, ◌%◌, Bool, false, ◌&&◌, ◌||◌, cond, ltb, leb, eqb, length}
use mathlib.Core.List.{List, [], ◌∷◌, ◌++◌, flatten}
use Rattle.schedule.specs.declared.Leap.{Leap}
use Rattle.schedule.specs.Schedule.{Schedule, expiry_month}
use Rattle.nybbles.specs.Codes.{np_none, np_positive, np_expiry, np_of, in_sixes, in_months}

-- 1MNP and its G
abbrev pub pair : ℕ → ℕ → ℕ → List ℕ
pair m np g = (8 + 4 * m + np) ∷ g ∷ []

-- the code of 1 to 16 months
abbrev pub months_code : ℕ → ℕ → List ℕ
months_code np months = pair in_months np (months - 1)

-- the code of 1 to 16 sixes: a single nybble for 1 to 8 sixes and a positive leap
abbrev pub sixes_code : ℕ → ℕ → List ℕ
sixes_code np k = cond (eqb np np_positive && leb k 8) ((k - 1) ∷ []) (pair in_sixes np (k - 1))

-- 0x8F: 16 sixes with NP 00
abbrev pub sixteen : List ℕ
sixteen = 8 ∷ 15 ∷ []

-- k sixes in at most that many codes: while more than 16 remain 0x8F, then the rest with the mark
unfoldable pub sixes_in : ℕ → ℕ → ℕ → List (List ℕ)
sixes_in zero np k = []
sixes_in (suc most) np k = cond (ltb 16 k) (sixteen ∷ sixes_in most np (k - 16)) (sixes_code np k ∷ [])

-- k sixes: each code has one at least, so k codes are enough
unfoldable pub sixes : ℕ → ℕ → List (List ℕ)
sixes np k = sixes_in k np k

-- first the whole years that a gap holds, in sixes and all with NP 00, then the 1 to 11 months left with the mark
abbrev pub years : ℕ → ℕ → List (List ℕ)
years np gap = sixes np_none (gap / 12 * 2) ++ (months_code np (gap % 12) ∷ [])

-- a gap: a multiple of 6 months is counted in sixes, another up to 16 months is one code in months, another is years and months
unfoldable pub gap_codes : ℕ → ℕ → List (List ℕ)
gap_codes np gap =
    cond (eqb (gap % 6) 0) (sixes np (gap / 6))
    (cond (leb gap 16) (months_code np gap ∷ []) (years np gap))

-- the gaps from a month on: to each leap, and from the last to the month of the expiry
unfoldable pub codes_from : ℕ → List Leap → ℕ → List (List ℕ)
codes_from from [] end = gap_codes np_expiry (end - from)
codes_from from (l ∷ ls) end = gap_codes (np_of l.sign) (l.month - from) ++ codes_from l.month ls end

-- a single nybble
abbrev pub is_single : List ℕ → Bool
is_single c = eqb (length c) 1

-- whether a single nybble is among codes
unfoldable pub any_single : List (List ℕ) → Bool
any_single [] = false
any_single (c ∷ cs) = is_single c || any_single cs

-- codes of which the last single nybble gets a 9 put before it
unfoldable pub padded : List (List ℕ) → List (List ℕ)
padded [] = []
padded (c ∷ cs) = cond (any_single cs) (c ∷ padded cs) (cond (is_single c) (9 ∷ c) c ∷ cs)

-- if the nybble count comes out odd, the last single nybble gets a 9 put before it
unfoldable pub evened : List (List ℕ) → List (List ℕ)
evened cs = cond (eqb (length (flatten cs) % 2) 1) (padded cs) cs

-- two nybbles to a byte, the first as its upper half; the count is even, so none is left over
unfoldable pub pack : List ℕ → List ℕ
pack [] = []
pack (a ∷ []) = []
pack (a ∷ b ∷ ns) = (a * 16 + b) ∷ pack ns

-- the codes of a schedule, before they are evened
abbrev pub plain_codes : Schedule → List (List ℕ)
plain_codes s = codes_from 0 s.leaps (expiry_month s)

-- the codes of a schedule
unfoldable pub spelling : Schedule → List (List ℕ)
spelling s = evened (plain_codes s)

-- the nybble list of a schedule: the nybbles of its codes, packed
unfoldable pub nybbles_of : Schedule → List ℕ
nybbles_of s = pack (flatten (spelling s))
