-- An output that is filled as far as it has room.
-- Assumes nothing: these are definitions.
use Rattle.std.specs.Prelude.{ℕ, ◌+◌, ◌-◌, ◌≤◌, min, ◌≡◌, List, ◌++◌, length, take, drop}
use Rattle.std.proofs.lemmas.List.Edits.{sets}
use Rattle.ascii.specs.declared.output.Output.{Output}

-- what putting bytes into an output leaves: they are stored from its place on as far as there is room (`sets` stores nothing past the end),
-- all else stays, and the next place comes after what was stored
pub record Puts (out out' : Output) (bytes : List ℕ) : Type 0 where
  pub same_buffer : out'.bytes.ghost_name ≡ out.bytes.ghost_name
  pub same_lines : out'.lines ≡ out.lines
  pub stored : out'.bytes.now ≡ sets out.bytes.now out.at bytes
  pub next : out'.at ≡ out.at + min (length bytes) (length out.bytes.now - out.at)

-- the same of bytes of which there are at most so many
pub record PutsUpTo (most : ℕ) (out out' : Output) (bytes : List ℕ) : Type 0 where
  pub puts : Puts out out' bytes
  pub short : length bytes ≤ most

-- what putting bytes leaves, from the start of the output: as many of the bytes as it has room for, and beyond them what it held
unfoldable pub filled : List ℕ → List ℕ → List ℕ
filled bytes out = take (length out) bytes ++ drop (length bytes) out

-- what a buffer holds once bytes were put into it from its start, and how many of them it had room for
pub record Held (bytes out out' : List ℕ) (written : ℕ) : Type 0 where
  pub count : written ≡ min (length bytes) (length out)
  pub holds : out' ≡ filled bytes out
