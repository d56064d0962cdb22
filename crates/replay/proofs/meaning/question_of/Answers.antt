-- `replay::meaning::question_of` meets its contract: a field is no number, or both are. Assumes nothing.
use Rattle.replay.proofs.Saying.{two_fields}
use Rattle.replay.proofs.meaning.question_of.Goals as goal

pub returns-in_err-short_number : goal.returns-in_err-short_number
returns-in_err-short_number c =
    rw (c.from_residual-in_err-short_number.ensures, two_fields c.in_ok-day.ensures, ← c.short_number.ensures, c.in_err-short_number.was)

pub returns-in_err-short_number-2 : goal.returns-in_err-short_number-2
returns-in_err-short_number-2 c =
    rw (c.from_residual-in_err-short_number-2.ensures, two_fields c.in_ok-day.ensures, ← c.short_number.ensures, c.in_ok-short_number.was, ← c.short_number-2.ensures, c.in_err-short_number-2.was)

pub returns : goal.returns
returns c =
    rw (two_fields c.in_ok-day.ensures, ← c.short_number.ensures, c.in_ok-short_number.was, ← c.short_number-2.ensures, c.in_ok-short_number-2.was)
