-- Question lines that come in one buffer after another. (That none is lost stands beside lines.) Assumes nothing.
use mathlib.Core.Path.{◌≡◌, sym, ap, ◌∙◌}
use mathlib.Core.Bool.{Bool, false}
use mathlib.Core.List.{List, [], ◌∷◌, ◌++◌, map}
use Prim.Native.Nat.{ℕ, ◌≤◌, ◌<◌}
use native.Mathlib.Omega.{arith}
use lib.ListN.{length, take}
use Rattle.stream.specs.Lines.{lines_of}
use Rattle.stream.specs.Stream.{answered}
use Rattle.stream.proofs.Lines as lines
use Rattle.stream.proofs.Streams.{one_more}
use Rattle.command.specs.Answer.{answer_to}
use Rattle.command.specs.Lines.{asking}
use Rattle.command.proofs.Fields.{long_line}

-- where an output has more than 20,000 bytes of room, at least one line is answered
pub goes_on : (room : ℕ) (l : List ℕ) (ls : List (List ℕ)) → 20000 < room → 0 < length (answered asking room tt (l ∷ ls))
goes_on room l ls h = omega (arith, ap length (one_more asking room tt l ls h))

-- two lines of more than 8,192 bytes have the same answer, whatever they hold
pub long_alike : (lines : Bool) (a b : List ℕ) → 8192 < length a → 8192 < length b → answer_to lines a ≡ answer_to lines b
long_alike lines a b h g = long_line lines a h ∙ sym (long_line lines b g)

-- so of the start of a line no more than its first 8,193 bytes have to be kept: whatever follows, the answers are the same
pub cut_alike : (start b : List ℕ) (k : ℕ) → lines_of start ≡ [] → 8192 < k → k ≤ length start
    → map (answer_to false) (lines_of (take k start ++ b)) ≡ map (answer_to false) (lines_of (start ++ b))
cut_alike start b k e h g = lines.cut_alike (answer_to false) 8192 (long_alike false) start b k e h g
