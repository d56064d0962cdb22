-- "The nybble list": what reading a list answers, code by code.
-- Assumes nothing: these are definitions.
use Rattle.std.specs.Prelude.{ℕ, ◌+◌, Bool, true, false, cond, List, [], ◌∷◌, ltb, leb, eqb, length}
use Rattle.refusals.specs.Answer.{Answer, given, require, number}
use Rattle.refusals.specs.Refusals.{ends_early, bad_gap, past_last_month, too_many_leaps, after_end}
use Rattle.schedule.specs.Schedule.{Schedule, max_leaps, max_gap, last_month, month_start, blank_schedule}
use Rattle.schedule.specs.Answers.{Reading, refusal, accepted, with_leap}
use Rattle.nybbles.specs.declared.code.Mark.{Mark}
use Rattle.nybbles.specs.declared.code.Mark.TheVariants.{Continues, Leaps, Expires}
use Rattle.nybbles.specs.declared.code.Code.{Code}
use Rattle.nybbles.specs.Codes.{nybbles, codes_of}

-- what is read so far: the months of the gap, the months of the list, and the leaps
pub record State : Type 0 where
  pub gap : ℕ
  pub total : ℕ
  pub schedule : Schedule

-- NP 11 ends the list
abbrev pub is_expiry : Mark → Bool
is_expiry Continues = false
is_expiry (Leaps sign) = false
is_expiry Expires = true

-- a leap after 256 has no place
abbrev pub has_room : Mark → ℕ → Bool
has_room Continues count = true
has_room (Leaps sign) count = ltb count max_leaps
has_room Expires count = true

-- the checks at each code, in this order: gap so far over 999, total over 2400, a leap after 256
abbrev pub checks : State → Code → Answer (Unit {0})
checks st c =
    require (leb (st.gap + c.months) max_gap) bad_gap
    (require (leb (st.total + c.months) last_month) past_last_month
    (require (has_room c.mark (length st.schedule.leaps)) too_many_leaps (given tt)))

-- the number with which a code is refused; 0 where it passes
unfoldable pub fault : State → Code → ℕ
fault st c = number (checks st c)

-- what a mark at a month makes of the state: a leap ends the gap so far
abbrev pub marked : Mark → ℕ → ℕ → Schedule → State
marked Continues gap month s = record { gap = gap; total = month; schedule = s }
marked (Leaps sign) gap month s = record { gap = 0; total = month; schedule = with_leap s month sign }
marked Expires gap month s = record { gap = gap; total = month; schedule = s }

-- what a code that passes makes of the state: its months are added, and its mark stands at their end
unfoldable pub after : State → Code → State
after st c = marked c.mark (st.gap + c.months) (st.total + c.months) st.schedule

-- after the expiry, at nybble `place` of `count`: a nybble there is refused, at its place
abbrev pub at_end : ℕ → ℕ → State → Reading
at_end count place st = cond (ltb place count) (refusal after_end place) (accepted st.schedule (month_start st.total))

-- what reading the codes from nybble `place` of `count` on answers; where a code is due and no nybble is left, `place` is `count`
unfoldable pub read_codes : ℕ → ℕ → State → List Code → Reading
read_codes count place st [] = refusal ends_early place
read_codes count place st (c ∷ cs) =
    cond (eqb (fault st c) 0)
    (cond (is_expiry c.mark) (at_end count (place + c.size) (after st c)) (read_codes count (place + c.size) (after st c) cs))
    (refusal (fault st c) place)

-- nothing is read yet
abbrev pub start : State
start = record { gap = 0; total = 0; schedule = blank_schedule }

-- what reading a nybble list answers
unfoldable pub read_nybbles : List ℕ → Reading
read_nybbles bytes = read_codes (length (nybbles bytes)) 0 start (codes_of (nybbles bytes))
