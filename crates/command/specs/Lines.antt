-- Many lines: how each is answered, by one line.
-- Assumes nothing: these are definitions.
use Rattle.std.specs.Prelude.{ℕ, ◌+◌, false, List, [], ◌∷◌, ◌++◌}
use Rattle.ascii.specs.Lines.{newline}
use Rattle.stream.specs.Stream.{Answering}
use Rattle.command.specs.Answer.{max_answer, answer_to}

-- the answer of a line with an LF: one line
unfoldable pub answer_line : List ℕ → List ℕ
answer_line line = answer_to false line ++ (newline ∷ [])

-- how question lines are answered: none changes anything for the next
abbrev pub asking : Answering (Unit {0})
asking = record { prints = λ _ line. answer_line line; next = λ s _. s; most = max_answer + 1 }
