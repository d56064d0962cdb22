-- A trace of any length through buffers of fixed length: the steps that a caller may take.
-- Assumes nothing: these are definitions.
use Rattle.std.specs.Prelude.{ℕ, ◌≤◌, ◌<◌, ◌≡◌, List, [], ◌++◌, length, take, drop}
use Rattle.stream.specs.Lines.{lines_of, size_of}
use Rattle.stream.specs.Stream.{printed, after, answered}
use Rattle.replay.specs.Replay.{State, replaying, unended}

-- a run with a buffer of some size and outputs of at most some room, by the state, the bytes held of the trace and those still to come, what it prints from here on and the state
-- at its end. In any order:
-- * a call with an output of at most that room replays the first lines of what is held, which are then used up;
-- * more bytes of the trace arrive behind what is held, as far as the buffer has room;
-- * where no line of what is held is complete, no more than its first 4,097 bytes, or any number above 4,096, are kept;
-- * and where nothing is to come and no line is complete, the trace ends.
pub data Run (size most : ℕ) : State → List ℕ → List ℕ → List ℕ → State → Type 0 where
  call : {s s' : State} {held coming out : List ℕ} (room : ℕ) → room ≤ most → (done : List (List ℕ)) → done ≡ answered replaying room s (lines_of held)
      → Run size most (after replaying s done) (drop (size_of done) held) coming out s' → Run size most s held coming (printed replaying s done ++ out) s'
  arrive : {s s' : State} {held coming out : List ℕ} (piece : List ℕ) → length (held ++ piece) ≤ size
      → Run size most s (held ++ piece) coming out s' → Run size most s held (piece ++ coming) out s'
  keep : {s s' : State} {held coming out : List ℕ} (kept : ℕ) → 4096 < kept → lines_of held ≡ [] → Run size most s (take kept held) coming out s' → Run size most s held coming out s'
  end : {s : State} {held : List ℕ} → lines_of held ≡ [] → Run size most s held [] (unended held) s
