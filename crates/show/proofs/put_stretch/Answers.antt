-- `show::put_stretch` meets its contract: the first day, the last day, and DTAI, with a space between them. Assumes nothing.
use native.Mathlib.Omega.{arith}
use mathlib.Core.Path.{refl}
use Rattle.ascii.proofs.Putting.{up_to, a_byte}
use Rattle.schedule.specs.WordLayout.{meant}
use Rattle.show.specs.Show.{stretch}
use Rattle.show.proofs.Stored.{dtai_kept}
use Rattle.show.proofs.put_stretch.Goals as goal

pub returns : goal.returns
unfolding stretch
returns c =
    let from_sign = up_to {most = 22} (a_byte c.put-2.ensures) c.put_with_sign.ensures refl (omega arith) in
    let from_last = up_to {most = 48} c.put_day-2.ensures from_sign refl (omega arith) in
    let from_space = up_to {most = 49} (a_byte c.put.ensures) from_last refl (omega arith) in
    up_to c.put_day.ensures from_space (rw (c.dtai_from.ensures, dtai_kept (meant c.args.list.words.now) c.args.list.formed _)) (omega arith)
