-- `Spelling::of` meets its contract. Assumes nothing.
use mathlib.Core.Path.{ap, ◌∙◌}
use Rattle.nybbles.specs.Write.{padded}
use Rattle.nybbles.proofs.Evened as evened
use Rattle.nybbles.proofs.spell.Spelling.of.Goals as goal

pub returns-then-nybble_count-eq1 : goal.returns-then-nybble_count-eq1
returns-then-nybble_count-eq1 c =
    c.pad.ensures ∙ (ap padded c.plain-spelling.ensures ∙ evened.spelt_odd _ _ (rw c.plain-spelling.ensures at c.nybble_count.ensures) c.if-nybble_count-eq1.true)

pub returns-else-nybble_count-eq1 : goal.returns-else-nybble_count-eq1
returns-else-nybble_count-eq1 c =
    c.plain-spelling.ensures ∙ evened.spelt_even _ _ (rw c.plain-spelling.ensures at c.nybble_count.ensures) c.if-nybble_count-eq1.false
