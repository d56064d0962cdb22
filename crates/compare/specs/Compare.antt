-- Where two lists part, in lines.
-- Assumes nothing: these are definitions.
use Rattle.std.specs.Prelude.{ℕ, zero, suc, ◌+◌, Bool, true, false, not, ◌&&◌, ◌||◌, cond, List, [], ◌∷◌, ◌++◌, eqb}
use Rattle.refusals.specs.Answer.{Answer, refused}
use Rattle.ascii.specs.Ascii.{ascii, zero_byte}
use Rattle.ascii.specs.Decimal.{decimal}
use Rattle.ascii.specs.Lines.{newline, space_byte, between}
use Rattle.schedule.specs.declared.Leap.{Leap}
use Rattle.schedule.specs.Schedule.{Schedule, last_month, is_expired}
use Rattle.schedule.specs.Answers.{fitting, fitted}
use Rattle.schedule.specs.Extends.{extends}
use Rattle.text.specs.Bytes.{sign_byte, end_byte}
use Rattle.compare.specs.Longer.{about_both}

-- one of the leaps is at a month
unfoldable pub has_leap : List Leap → ℕ → Bool
has_leap [] m = false
has_leap (l ∷ ls) m = eqb l.month m || has_leap ls m

-- what leaps say of a month: `+` or `-` for a leap, `0` for none
unfoldable pub leap_mark : List Leap → ℕ → ℕ
leap_mark [] m = zero_byte
leap_mark (l ∷ ls) m = cond (eqb l.month m) (sign_byte l.sign) (leap_mark ls m)

-- a list knows nothing of a month at and after its expiry
abbrev pub is_unknown : Schedule → ℕ → Bool
is_unknown s m = is_expired s.expiry m

-- "mark": `?` at and after the list's expiry, and before it what its leaps say
abbrev pub mark : Schedule → ℕ → ℕ
mark s m = cond (is_unknown s m) end_byte (leap_mark s.leaps m)

-- a line of a comparison: a month, the first mark and the second mark; both expiries; or how the two lists stand to each other, by whether the
-- first extends the second, and the second the first
pub data Line : Type 0 where
  differ : ℕ → ℕ → ℕ → Line
  expire : ℕ → ℕ → Line
  relate : Bool → Bool → Line

-- a month has a line if either list has a leap there and their marks differ
abbrev pub has_line : Schedule → Schedule → ℕ → Bool
has_line a b m = (has_leap a.leaps m || has_leap b.leaps m) && not (eqb (mark a m) (mark b m))

-- its line, if it has one
unfoldable pub line_at : Schedule → Schedule → ℕ → List Line
line_at a b m = cond (has_line a b m) (differ m (mark a m) (mark b m) ∷ []) []

-- the lines of n months from month m on, rising
unfoldable pub month_lines : Schedule → Schedule → ℕ → ℕ → List Line
month_lines a b m zero = []
month_lines a b m (suc n) = line_at a b m ++ month_lines a b (m + 1) n

-- if the expiries differ, a line with both
unfoldable pub expiry_lines : Schedule → Schedule → List Line
expiry_lines a b = cond (eqb a.expiry b.expiry) [] (expire a.expiry b.expiry ∷ [])

-- the last line
abbrev pub relation : Schedule → Schedule → Line
relation a b = relate (extends a b) (extends b a)

-- the lines of a comparison: those of the months 0 to 2400, of the expiries, and the last one
unfoldable pub lines_of : Schedule → Schedule → List Line
lines_of a b = month_lines a b 0 (last_month + 1) ++ (expiry_lines a b ++ (relation a b ∷ []))

-- how two lists stand to each other, in words
unfoldable pub relation_by : Bool → Bool → List ℕ
relation_by true true = ascii "same"
relation_by true false = ascii "extends 1"
relation_by false true = ascii "extends 2"
relation_by false false = ascii "contradict"

-- a line in bytes
abbrev pub told : Line → List ℕ
told (differ m x y) = decimal m ++ (space_byte ∷ x ∷ space_byte ∷ y ∷ [])
told (expire e f) = ascii "= " ++ (decimal e ++ (space_byte ∷ decimal f))
told (relate p q) = relation_by p q

-- lines in bytes, one to a line, LF ended
unfoldable pub in_lines : List Line → List ℕ
in_lines [] = []
in_lines (l ∷ ls) = told l ++ (newline ∷ in_lines ls)

-- lines in bytes with something between them
unfoldable pub joined : List ℕ → List Line → List ℕ
joined sep [] = []
joined sep (l ∷ []) = told l
joined sep (l ∷ k ∷ ks) = told l ++ (sep ++ joined sep (k ∷ ks))

-- the comparison of two lists
unfoldable pub compared : Schedule → Schedule → List ℕ
compared a b = in_lines (lines_of a b)

-- what comparing two text lists answers: the first list's refusal, then the second's, then 7, else the count of bytes
abbrev pub comparing : List ℕ → List ℕ → ℕ → Answer ℕ
comparing x y room = about_both x y refused (λ a b. fitting (compared a b) room)

-- what the output then holds: the comparison and, beyond it, what it held; what it held where it is refused
abbrev pub compared_into : List ℕ → List ℕ → List ℕ → List ℕ
compared_into x y out = about_both x y (λ n. out) (λ a b. fitted (compared a b) out)

-- the comparison of two text lists as the program answers it, with LF between its lines, or `; `; of a refusal the number alone
abbrev pub comparison_of : Bool → List ℕ → List ℕ → List ℕ
comparison_of lines x y = about_both x y decimal (λ a b. joined (between lines) (lines_of a b))
