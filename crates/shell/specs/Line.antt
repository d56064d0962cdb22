-- A line that an argument is put behind.
-- Assumes nothing: these are definitions.
use Rattle.std.specs.Prelude.{◌≡◌, ◌≤◌, length}
use Rattle.ascii.specs.declared.output.Output.{Output}

-- the line is still in the bytes that were lent for it, and ends within them
pub record Fits (line line' : Output) : Type 0 where
  pub same_buffer : line'.bytes.ghost_name ≡ line.bytes.ghost_name
  pub long : length line'.bytes.now ≡ length line.bytes.now
  pub inside : line'.at ≤ length line'.bytes.now
