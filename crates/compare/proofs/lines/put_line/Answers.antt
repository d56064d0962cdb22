-- `compare::lines::put_line` meets its contract: the month and both marks, with a space between them; a month has at most four digits. Assumes nothing.
use Rattle.std.proofs.Common.{arith, refl, eq-eqb, ne_eqb, ◌∙◌}
use Rattle.ascii.proofs.Putting.{nothing, up_to, a_byte}
use Rattle.ascii.proofs.Digits.{decimal_short}
use Rattle.compare.specs.Private.{mark_line}
use Rattle.compare.proofs.lines.put_line.Goals as goal

pub returns-then-x-y : goal.returns-then-x-y
unfolding mark_line
returns-then-x-y c = rw (eq-eqb c.args.x c.args.y c.if-x-y.true) (record { puts = nothing _; short = omega arith })

pub returns : goal.returns
unfolding mark_line
returns c =
    let month = c.from.ensures in
    let lines = c.put-4.ensures.same_lines ∙ (c.put-3.ensures.same_lines ∙ (c.put-2.ensures.same_lines ∙ (c.put.ensures.same_lines ∙ c.put_decimal.ensures.puts.same_lines))) in
    let from_end = up_to {most = 3} (a_byte c.put-4.ensures) c.put_between.ensures refl (omega arith) in
    let from_y = up_to {most = 5} (a_byte c.put-2.ensures) (up_to {most = 4} (a_byte c.put-3.ensures) from_end refl (omega arith)) refl (omega arith) in
    rw (ne_eqb c.args.x c.args.y c.if-x-y.false)
    (up_to {m = 4} (record { puts = c.put_decimal.ensures.puts; short = decimal_short 3 _ (omega (arith, c.requires, month)) })
    (up_to {most = 6} (a_byte c.put.ensures) from_y refl (omega arith)) (rw (month, lines)) (omega arith))
