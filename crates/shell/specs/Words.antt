-- The words of the program's own.
-- Assumes nothing: these are definitions.
use Rattle.std.specs.Prelude.{ℕ, cond, List, Option, Some, None}
use Rattle.ascii.specs.Ascii.{ascii}
use Rattle.ascii.specs.Parts.{same}
use Rattle.shell.specs.declared.words.Own.{Own}
use Rattle.shell.specs.declared.words.Own.TheVariants.{Ask, Replay, Help}

-- the word of the program's own that a word is, if it is one
unfoldable pub own_of : List ℕ → Option Own
own_of word = cond (same word (ascii "ask")) (Some Ask) (cond (same word (ascii "replay")) (Some Replay) (cond (same word (ascii "help")) (Some Help) None))
