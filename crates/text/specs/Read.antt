-- "The text list": what reading a text answers, from the left.
-- Assumes nothing: these are definitions.
use Rattle.std.specs.Prelude.{ℕ, ◌+◌, ◌*◌, Bool, cond, not, Option, Some, None, Result, Ok, Err, List, [], ◌∷◌, ltb, leb, eqb, length}
use Rattle.refusals.specs.Refusals.{ends_early, not_allowed, bad_gap, past_last_month, too_many_leaps, after_end}
use Rattle.refusals.specs.declared.Refusal.TheVariants.{EndsEarly, NotAllowed, BadGap}
use Rattle.schedule.specs.declared.Sign.{Sign}
use Rattle.schedule.specs.declared.ParseError.{ParseError}
use Rattle.schedule.specs.Schedule.{Schedule, blank_schedule, last_month, month_start, max_leaps}
use Rattle.schedule.specs.Answers.{Reading, refusal, accepted, with_leap}
use Rattle.text.specs.declared.Gap.{Gap}
use Rattle.text.specs.declared.Gap.TheVariants.{Months, Ended, Misplaced, Malformed}
use Rattle.text.specs.declared.Mark.{Mark}
use Rattle.text.specs.declared.Mark.TheVariants.{Leaps, Expires}
use Rattle.text.specs.Bytes.{zero_byte, is_digit, digit_of, mark_of}

-- "a gap is read, or the reading stops there with a number and a place": the refusal and the place of each case in which none was read; a gap that
-- is there is no refusal
abbrev pub stopped : Gap → Result (Unit {0}) ParseError
stopped (Ended c) = Err (record { refusal = EndsEarly; place = c.at })
stopped (Misplaced c) = Err (record { refusal = NotAllowed; place = c.at })
stopped (Malformed c) = Err (record { refusal = BadGap; place = c.at })
stopped (Months g c) = Ok tt

-- whether a digit may stand after the digits of a gap so far (0 where a gap starts): no "0" where a gap starts, and no fourth digit
abbrev pub may_follow : ℕ → ℕ → Bool
may_follow gap b = cond (eqb gap 0) (not (eqb b zero_byte)) (ltb gap 100)

-- nothing follows the "?": the list is taken, with its expiry day
abbrev pub at_end : ℕ → Schedule → ℕ → List ℕ → Reading
at_end place s expiry [] = accepted s expiry
at_end place s expiry (b ∷ bs) = refusal after_end place

-- one answer where there is no mark, and one for each kind of mark
abbrev pub by_mark : Option Mark → Reading → Reading → (Sign → Reading) → Reading
by_mark None n e l = n
by_mark (Some Expires) n e l = e
by_mark (Some (Leaps g)) n e l = l g

-- What reading the bytes from a place on answers. `gap` is the gap that the digits before the place make, 0 where a gap starts; `total` the months
-- before that gap; s has the leaps so far.
unfoldable pub read_from : ℕ → ℕ → ℕ → Schedule → List ℕ → Reading
read_from gap place total s [] = refusal ends_early place
read_from gap place total s (b ∷ bs) =
    cond (is_digit b)
    (cond (may_follow gap b) (read_from (gap * 10 + digit_of b) (place + 1) total s bs) (refusal bad_gap place))
    (cond (eqb gap 0) (refusal not_allowed place)
    (by_mark (mark_of b)
    (refusal not_allowed place)
    (cond (leb (total + gap) last_month) (at_end (place + 1) s (month_start (total + gap)) bs) (refusal past_last_month place))
    (λ (g : Sign). cond (leb (total + gap) last_month)
    (cond (ltb (length s.leaps) max_leaps) (read_from 0 (place + 1) (total + gap) (with_leap s (total + gap) g) bs) (refusal too_many_leaps place))
    (refusal past_last_month place))))

-- what reading a text answers
unfoldable pub read_text : List ℕ → Reading
read_text bytes = read_from 0 0 0 blank_schedule bytes
