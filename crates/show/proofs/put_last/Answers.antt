-- `show::put_last` meets its contract. Assumes nothing.
use native.Mathlib.Omega.{arith}
use mathlib.Core.Path.{refl, ◌∙◌}
use Rattle.ascii.proofs.Putting.{up_to, text_put}
use Rattle.show.specs.Show.{stretches}
use Rattle.show.specs.Private.{shown_from}
use Rattle.show.proofs.put_last.Goals as goal

pub returns : goal.returns
unfolding shown_from stretches
returns c =
    let the_text = text_put {most = 8} c.put_all.ensures refl (omega arith) in
    let from_date = up_to {most = 34} c.put_day.ensures the_text refl (omega arith) in
    let from_between = up_to {most = 36} c.put_between.ensures from_date refl (omega arith) in
    up_to c.put_stretch.ensures from_between (rw (c.from-expiry.ensures ∙ c.expiry.ensures, c.put_stretch.ensures.puts.same_lines)) (omega arith)
