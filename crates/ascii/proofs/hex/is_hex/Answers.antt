-- `ascii::hex::is_hex` meets its contract. Assumes nothing.
use borrow.Author.Rules.{rules}
use mathlib.Core.Path.{sym, ◌∙◌}
use Rattle.std.proofs.Common.{tests}
use Rattle.std.proofs.lemmas.Iterator.{YieldsList-from_slice}
use Rattle.std.proofs.lemmas.Iterator.Search.{all_from_yields_List}
use Rattle.ascii.specs.Hex.{is_hex_digit}
use Rattle.ascii.proofs.Halves.{all_are}
use Rattle.ascii.proofs.hex.is_hex.Goals as goal

pub returns-then-all : goal.returns-then-all
returns-then-all c =
    let h = all_from_yields_List is_hex_digit _ _ c.all.result c.all.ensures.ran (YieldsList-from_slice c.args.field.now cc) (λ x b q k. search (rules, tests)) in
    simp (sym (all_are c.args.field.now) ∙ sym h ∙ c.if-all.true)

pub returns-else-all : goal.returns-else-all
returns-else-all c =
    let h = all_from_yields_List is_hex_digit _ _ c.all.result c.all.ensures.ran (YieldsList-from_slice c.args.field.now cc) (λ x b q k. search (rules, tests)) in
    simp (sym (all_are c.args.field.now) ∙ sym h ∙ c.if-all.false) c.if-all.false
