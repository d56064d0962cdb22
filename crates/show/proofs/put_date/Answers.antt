-- `show::put_date` meets its contract: the year, the month and the day, with `-` between them. Assumes nothing.
use native.Mathlib.Omega.{arith}
use mathlib.Core.Path.{refl}
use Rattle.ascii.proofs.Putting.{up_to, a_byte, text_put}
use Rattle.show.specs.Show.{date}
use Rattle.show.proofs.put_date.Goals as goal

pub returns : goal.returns
unfolding date
returns c =
    let month = c.from-month.ensures in
    let the_month = text_put {most = 2} c.put_pair.ensures refl (omega arith) in
    let the_day = text_put {most = 2} c.put_pair-2.ensures refl (omega arith) in
    let from_day = up_to {most = 3} (a_byte c.put-2.ensures) the_day refl (omega arith) in
    let from_month = up_to {most = 5} the_month from_day refl (omega arith) in
    up_to c.put_decimal.ensures (up_to {most = 6} (a_byte c.put.ensures) from_month refl (omega arith)) (rw month) (omega arith)
