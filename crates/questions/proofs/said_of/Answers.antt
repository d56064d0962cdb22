-- `questions::said_of` meets its contract. Assumes nothing.
use Rattle.std.proofs.Common.{rules}
use Rattle.schedule.specs.WordLayout.{meant}
use Rattle.questions.proofs.Said.{no_day_of, day_of_words}
use Rattle.questions.proofs.said_of.Goals as goal

pub returns-in_err-list : goal.returns-in_err-list
returns-in_err-list c =
    let e = no_day_of (meant c.args.words.now) c.args.day c.args.words.now c.in_err-list.ensures in
    search rules

pub returns : goal.returns
returns c = day_of_words c.args.words.now c.args.day c.in_ok-list.ensures c.day_in.ensures
