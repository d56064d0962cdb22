-- `questions::look::ending_on` meets its contract. Assumes nothing.
use Rattle.std.proofs.Common.{min, ap, ◌∙◌, arith}
use Rattle.calendar.specs.Calendar.{last_month}
use Rattle.calendar.proofs.Laws.{start_from, start_min}
use Rattle.schedule.specs.WordLayout.{meant}
use Rattle.schedule.proofs.WordLayout.{small_month}
use Rattle.clock.specs.Days.{ending_of}
use Rattle.questions.proofs.Looked.{ends_same, ends_next}
use Rattle.questions.proofs.look.ending_on.Goals as goal

pub overflow_cast-month : goal.overflow_cast-month
overflow_cast-month c = omega (arith, c.month.ensures, small_month (meant c.args.list.words.now) c.args.list.formed c.args.n)

pub overflow_sub-first_day : goal.overflow_sub-first_day
overflow_sub-first_day c = omega (arith, c.first_day.ensures, start_from (min c.month.result last_month))

pub returns-then-first_day-day : goal.returns-then-first_day-day
returns-then-first_day-day c month p i =
    let s = meant c.args.list.words.now in
    let same = small_month s c.args.list.formed c.args.n in
    c.ending_of.ensures
    ∙ ap ending_of c.sign.ensures
    ∙ ends_next s c.args.list.formed c.args.day month c.args.n p i
    (rw (← c.month.ensures) (omega (arith, c.if-first_day-day.true, c.first_day.ensures, start_min (rw (← c.month.ensures) at same))))

pub returns : goal.returns
returns c month p i =
    let s = meant c.args.list.words.now in
    let same = small_month s c.args.list.formed c.args.n in
    ends_same s c.args.list.formed c.args.day month c.args.n p i
    (rw (← c.month.ensures) (λ e. c.if-first_day-day.false (omega (arith, c.first_day.ensures, start_min (rw (← c.month.ensures) at same)))))
