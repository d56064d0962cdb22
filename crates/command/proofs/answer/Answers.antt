-- `command::answer` meets its contract. Assumes nothing.
use Rattle.std.proofs.Common.{◌≡◌, ℕ, Bool, List, refl, rules}
use Rattle.ascii.specs.declared.output.Output.{Output}
use Rattle.ascii.specs.Output.{PutsUpTo, Held}
use Rattle.ascii.proofs.Putting.{held}
use Rattle.command.specs.Answer.{answer_to, max_answer, Answered}
use Rattle.command.proofs.answer.Goals as goal

-- an answer that was put, by whether it may have several lines
as_asked : {out out' : Output} {lines : Bool} (line : List ℕ) {before after : List ℕ} {written : ℕ} → PutsUpTo max_answer out out' (answer_to out.lines line) → out.lines ≡ lines
    → Held (answer_to out.lines line) before after written → Answered (answer_to lines line) before after written
as_asked line p e h = rw (← e) (record { count = h.count; holds = h.holds; short = p.short })

pub returns : goal.returns
returns c =
    let new = c.new-bytes.ensures in
    as_asked _ c.put_answer.ensures new.same_lines (held c.put_answer.ensures.puts new.at_start new.same_bytes (search rules) refl)
