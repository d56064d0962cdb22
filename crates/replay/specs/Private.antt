-- What only private functions are held to. No public contract and no promise speaks of this.
-- Assumes nothing: these are definitions.
use Rattle.std.specs.Prelude.{Option, Some, None}
use Rattle.replay.specs.declared.meaning.Said.{Said}
use Rattle.replay.specs.declared.meaning.Said.TheVariants.{Use, Store, Reset, Ask}
use Rattle.replay.specs.Trace.{Line, list, store, reset, question, other}

-- what a line says, of what the code has of it
abbrev pub said : Option Said → Line
said (Some (Use bytes)) = list bytes.now
said (Some Store) = store
said (Some Reset) = reset
said (Some (Ask day t)) = question day t.0
said None = other
