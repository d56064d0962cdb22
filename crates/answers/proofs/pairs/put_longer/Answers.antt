-- `answers::pairs::put_longer` meets its contract: a text that is chosen is read, and so has few bytes. Assumes nothing.
use native.Mathlib.Omega.{arith}
use Rattle.ascii.proofs.Putting.{few, text_put}
use Rattle.answers.proofs.Chosen.{first_few, second_few, by_first, by_second, by_refused}
use Rattle.answers.proofs.pairs.put_longer.Goals as goal

pub returns-in-Ok-First : goal.returns-in-Ok-First
returns-in-Ok-First c =
    let e = rw c.in-Ok-First.field-0-is at c.in-Ok-First.ensures in
    text_put c.put_all.ensures (by_first _ _ c.list_of-first.ensures c.list_of-second.ensures e) (first_few _ _ e)

pub returns-in-Ok-Second : goal.returns-in-Ok-Second
returns-in-Ok-Second c =
    let e = rw c.in-Ok-Second.field-0-is at c.in-Ok-Second.ensures in
    text_put c.put_all-in-Ok-Second.ensures (by_second _ _ c.list_of-first.ensures c.list_of-second.ensures e) (second_few _ _ e)

pub returns-in-Err : goal.returns-in-Err
returns-in-Err c = few c.put_refusal.ensures (by_refused _ _ c.list_of-first.ensures c.list_of-second.ensures c.in-Err.ensures) (omega arith)
