-- `line::words::put_expected` meets its contract. Assumes nothing.
use Rattle.std.proofs.Common.{◌≤◌, Option, Some, None, length, refl, arith}
use Rattle.ascii.proofs.Putting.{both, text_put}
use Rattle.line.specs.declared.words.Word.{Word}
use Rattle.line.specs.declared.words.Word.TheVariants.{Show, Nybbles, Text, Dtai, Tai, Utc, Uts, Unsmooth, Compare, Longer}
use Rattle.line.specs.Words.{usage, expected}
use Rattle.line.proofs.words.put_expected.Goals as goal

-- it is never longer than the list of all words
short : (w : Option Word) → length (expected w) ≤ 90
unfolding usage expected
short (Some Show) = omega arith
short (Some Nybbles) = omega arith
short (Some Text) = omega arith
short (Some Dtai) = omega arith
short (Some Tai) = omega arith
short (Some Utc) = omega arith
short (Some Uts) = omega arith
short (Some Unsmooth) = omega arith
short (Some Compare) = omega arith
short (Some Longer) = omega arith
short None = omega arith

pub returns : goal.returns
unfolding expected
returns c = text_put (both c.put_all.ensures (rw c.usage.ensures at c.put_all-2.ensures)) refl (short c.args.word)
