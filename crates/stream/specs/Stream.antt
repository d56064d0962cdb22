-- Lines that are answered into an output one after the other, each by a state that it may change.
-- Assumes nothing: these are definitions.
use Rattle.std.specs.Prelude.{ℕ, ◌-◌, ◌≤◌, ◌≡◌, cond, List, [], ◌∷◌, ◌++◌, leb, length}
use Rattle.ascii.specs.Output.{filled}
use Rattle.stream.specs.Lines.{size_of}
use Rattle.stream.specs.declared.Step.{Step}

-- how lines are answered: what a state prints for a line, the state after it, and a number of bytes that no line prints more of
pub record Answering (S : Type 0) : Type 0 where
  pub prints : S → List ℕ → List ℕ
  pub next : S → List ℕ → S
  pub most : ℕ

-- what lines print, and the state after them
unfoldable pub printed : {S : Type 0} → Answering S → S → List (List ℕ) → List ℕ
printed w s [] = []
printed w s (l ∷ ls) = w.prints s l ++ printed w (w.next s l) ls

unfoldable pub after : {S : Type 0} → Answering S → S → List (List ℕ) → S
after w s [] = s
after w s (l ∷ ls) = after w (w.next s l) ls

-- the lines that are answered: as long as there is room for the longest answer
unfoldable pub answered : {S : Type 0} → Answering S → ℕ → S → List (List ℕ) → List (List ℕ)
answered w room s [] = []
answered w room s (l ∷ ls) = cond (leb w.most room) (l ∷ answered w (room - length (w.prints s l)) (w.next s l) ls) []

-- what answering lines leaves: what they print in the output, beyond it what it held, how much of input and output that is, and the state
pub record LinesAnswered {S : Type 0} (w : Answering S) (s : S) (ls : List (List ℕ)) (out out' : List ℕ) (s' : S) (r : Step) : Type 0 where
  pub used : r.used ≡ size_of ls
  pub written : r.written ≡ length (printed w s ls)
  pub fits : r.written ≤ length out
  pub holds : out' ≡ filled (printed w s ls) out
  pub state : s' ≡ after w s ls
