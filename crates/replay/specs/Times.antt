-- The answers to the lines of a trace in order, and the lists that it uses.
-- Assumes nothing: these are definitions.
use Rattle.std.specs.Prelude.{ℕ, ◌≡◌, true, List, [], ◌∷◌, ◌++◌, ◌⊎◌}
use Rattle.schedule.specs.Schedule.{Schedule, well_formed}
use Rattle.schedule.specs.Extends.{Extends}
use Rattle.schedule.specs.WordLayout.{meant}
use Rattle.text.specs.Read.{read_text}
use Rattle.refusals.specs.Refusals.{no_line}
use Rattle.stream.specs.Lines.{lines_of, rest}
use Rattle.replay.specs.Trace.{list, meaning}
use Rattle.replay.specs.Replay.{State, Reply, refuse, reply, next}

-- the answers to lines, one each
unfoldable pub replies : State → List (List ℕ) → List Reply
replies s [] = []
replies s (l ∷ ls) = reply s (meaning l) ∷ replies (next s (meaning l)) ls

-- the answer to what stands after the last LF
abbrev pub last_reply : List ℕ → List Reply
last_reply [] = []
last_reply (b ∷ bs) = refuse no_line ∷ []

-- the answers that a trace gets
unfoldable pub replies_to : State → List ℕ → List Reply
replies_to s trace = replies s (lines_of trace) ++ last_reply (rest trace)

-- a list that is accepted in some of the lines
pub data Accepted : List (List ℕ) → Schedule → Type 0 where
  accepted_here : {l : List ℕ} {ls : List (List ℕ)} (bytes : List ℕ) → meaning l ≡ list bytes → (read_text bytes).number ≡ 0
      → Accepted (l ∷ ls) (read_text bytes).schedule
  accepted_later : {l : List ℕ} {ls : List (List ℕ)} {s : Schedule} → Accepted ls s → Accepted (l ∷ ls) s

-- a list that lines use from a state on: one held at the start, if well formed, or accepted in them
pub data Used (s : State) (ls : List (List ℕ)) : Schedule → Type 0 where
  held_current : well_formed (meant s.current) ≡ true → Used s ls (meant s.current)
  held_stored : well_formed (meant s.stored) ≡ true → Used s ls (meant s.stored)
  used_accepted : {a : Schedule} → Accepted ls a → Used s ls a

-- of any two lists of a kind one extends the other
abbrev pub Agreeing : (Schedule → Type 0) → Type 0
Agreeing P = (a b : Schedule) → P a → P b → Extends a b ⊎ Extends b a
