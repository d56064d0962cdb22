-- `questions::days::day_in` meets its contract. Assumes nothing.
use Rattle.std.proofs.Common.{◌≡◌, ℕ, Result, Ok, Err, ◌∙◌}
use Rattle.std.specs.Result.{result_unwrap_or}
use Rattle.refusals.specs.declared.Refusal.{Refusal}
use Rattle.refusals.specs.Answer.{given, answer_of}
use Rattle.calendar.proofs.Laws.{at_given}
use Rattle.schedule.specs.WordLayout.{meant}
use Rattle.questions.proofs.Looked.{day_by}
use Rattle.questions.proofs.days.day_in.Goals as goal

-- of an answer that is given, its value
unwrapped : (r : Result ℕ Refusal) (d m : ℕ) → answer_of r ≡ given m → result_unwrap_or r d ≡ m
unwrapped (Ok v) d m h = cc
unwrapped (Err e) d m h = absurd cc

pub returns : goal.returns
returns c =
    let list = c.args.list in
    day_by (meant list.words.now) list.formed c.args.day _
    (λ p q. c.from.ensures ∙ (c.unwrap_or-month.ensures ∙ unwrapped c.month_of.result 0 _ (c.month_of.ensures ∙ at_given p q)))
    _ c.look.ensures.0 c.look.ensures.1
