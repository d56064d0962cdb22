-- `text::write::put_marked` meets its contract: one digit, two, or three, and the mark. Assumes nothing.
use Rattle.std.proofs.Common.{◌∙◌, sym, refl, arith}
use Rattle.ascii.specs.Output.{Puts}
use Rattle.ascii.proofs.Digits.{two_digits}
use Rattle.ascii.proofs.Putting.{one_put, two_puts}
use Rattle.text.specs.Write.{digits}
use Rattle.text.proofs.Digits.{one, three, in_decimal}
use Rattle.text.proofs.write.put_marked.Goals as goal
use Rattle.text.proofs.write.put_marked.Goals.{in-0-to-9, in-10-to-99, in_default}

pub returns : goal.returns
returns c =
    let g = c.args.gap in
    let gap : Puts c.args.out.now c.if-gap-lt10.out (digits g)
    = elim c.if-gap-lt10.branch [
      | in-0-to-9 w ↦ rw w.out-is (one_put w.put.ensures (one g (omega arith)))
      | in-10-to-99 w ↦ rw w.out-is (one_put (rw c.from-n.ensures at w.put_pair.ensures) (sym (in_decimal g (omega arith)) ∙ two_digits g (omega arith) (omega arith)))
      | in_default w ↦ rw w.out-is (two_puts w.put-in_default.ensures (rw c.from-n.ensures at w.put_pair-in_default.ensures) (three g (omega arith)))
    ] in
    two_puts gap c.put-2.ensures refl
