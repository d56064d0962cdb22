-- What only private functions are held to. No public contract and no promise speaks of these.
-- Assumes nothing: these are definitions.
use Rattle.std.specs.Prelude.{ℕ, zero, suc, ◌+◌, ◌-◌, Bool, cond, Option, Some, None, List, [], ◌∷◌, ◌++◌, eqb, nat_lt}
use Rattle.refusals.specs.Answer.{Answer, given, refused}
use Rattle.ascii.specs.Ascii.{ascii, zero_byte}
use Rattle.ascii.specs.Decimal.{decimal}
use Rattle.ascii.specs.Lines.{space_byte, between}
use Rattle.schedule.specs.declared.Leap.{Leap}
use Rattle.schedule.specs.Schedule.{Schedule, last_month, month_of}
use Rattle.schedule.specs.WordLayout.{meant}
use Rattle.schedule.specs.Answers.{by_reading}
use Rattle.schedule.specs.Left.{left}
use Rattle.schedule.specs.Extends.{extends}
use Rattle.text.specs.Bytes.{sign_byte, end_byte}
use Rattle.text.specs.Read.{read_text}
use Rattle.compare.specs.declared.cursor.Cursor.{Cursor}
use Rattle.compare.specs.declared.texts.TwoLists.{TwoLists}
use Rattle.compare.specs.Longer.{about_both}
use Rattle.compare.specs.Compare.{mark, has_line, relation_by}

-- the schedule that a text is read as, and those of two texts; or the number of the first refusal
abbrev pub text_read : List ℕ → Answer Schedule
text_read x = by_reading (read_text x) (λ n place. refused n) given

abbrev pub texts_read : List ℕ → List ℕ → Answer (Schedule × Schedule)
texts_read x y = about_both x y refused (λ a b. given (a, b))

-- the schedules of two lists
abbrev pub schedules : TwoLists → Schedule × Schedule
schedules t = (meant t.first.words.now, meant t.second.words.now)

-- past the last month
abbrev pub past_months : ℕ
past_months = 2401

-- the month of the first leap
unfoldable pub first_month : List Leap → ℕ
first_month [] = past_months
first_month (l ∷ ls) = l.month

-- the last month that starts before a list's expiry
abbrev pub last_known : Schedule → ℕ
last_known s = month_of (s.expiry - 1)

-- the mark of a leap at a month, and of the first leap
abbrev pub mark_of_leap : Leap → ℕ → ℕ
mark_of_leap l m = cond (eqb l.month m) (sign_byte l.sign) zero_byte

unfoldable pub first_mark : List Leap → ℕ → ℕ
first_mark [] m = zero_byte
first_mark (l ∷ ls) m = mark_of_leap l m

-- the leaps that are ahead of a cursor: the next one, if there is one, and those after it
abbrev pub next_of : Option Leap → List Leap → List Leap
next_of None ls = []
next_of (Some l) ls = l ∷ ls

abbrev pub ahead : Cursor → List Leap
ahead c = next_of c.next (left c.rest)

-- the mark of a month by the leaps at it and after it, and by the last month that is known
abbrev pub mark_ahead : ℕ → List Leap → ℕ → ℕ
mark_ahead known ls m = cond (nat_lt known m) end_byte (first_mark ls m)

-- the leaps after a month, of those at it and after it
unfoldable pub passed : ℕ → List Leap → List Leap
passed m [] = []
passed m (l ∷ ls) = cond (eqb l.month m) ls (l ∷ ls)

-- the line of a month and what stands after it
abbrev pub line_bytes : List ℕ → ℕ → ℕ → ℕ → List ℕ
line_bytes end m x y = decimal m ++ (space_byte ∷ x ∷ space_byte ∷ y ∷ end)

-- that of two marks that differ
unfoldable pub mark_line : List ℕ → ℕ → ℕ → ℕ → List ℕ
mark_line end m x y = cond (eqb x y) [] (line_bytes end m x y)

-- the bytes of a month, of n months from month m on, and of the expiries; each line with what stands after it
unfoldable pub month_bytes : List ℕ → Schedule → Schedule → ℕ → List ℕ
month_bytes end a b m = cond (has_line a b m) (line_bytes end m (mark a m) (mark b m)) []

unfoldable pub months_bytes : List ℕ → Schedule → Schedule → ℕ → ℕ → List ℕ
months_bytes end a b m zero = []
months_bytes end a b m (suc n) = month_bytes end a b m ++ months_bytes end a b (m + 1) n

abbrev pub differences : List ℕ → Schedule → Schedule → List ℕ
differences end a b = months_bytes end a b 0 (last_month + 1)

unfoldable pub expiry_bytes : List ℕ → Schedule → Schedule → List ℕ
expiry_bytes end a b = cond (eqb a.expiry b.expiry) [] (ascii "= " ++ (decimal a.expiry ++ (space_byte ∷ decimal b.expiry ++ end)))

-- the whole comparison, with LF between its lines, or `; `
unfoldable pub comparison : Bool → Schedule → Schedule → List ℕ
comparison lines a b = differences (between lines) a b ++ (expiry_bytes (between lines) a b ++ relation_by (extends a b) (extends b a))
