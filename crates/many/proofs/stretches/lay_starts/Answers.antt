-- `many::stretches::lay_starts` meets its contract. Assumes nothing.
use mathlib.Core.Bool.{true}
use mathlib.Core.List.{List}
use mathlib.Core.Path.{◌≡◌, ap, ◌∙◌}
use Prim.Native.Nat.{ℕ, ◌*◌, ◌<◌, ◌≤◌}
use native.Mathlib.Omega.{arith}
use lib.ListN.{length, get_or}
use Rattle.calendar.specs.Calendar.{last_month, month_start}
use Rattle.calendar.proofs.Laws.{start_min, start_to}
use Rattle.schedule.specs.WordLayout.{count_word, meant}
use Rattle.schedule.specs.Schedule.{well_formed}
use Rattle.schedule.proofs.Gaps.{parts}
use Rattle.schedule.proofs.Meant.{count_is, month_word_lem}
use Rattle.schedule.proofs.WordLayout.{small_month}
use Rattle.many.proofs.Preparing.{starting_one}
use Rattle.many.proofs.stretches.lay_starts.Goals as goal

month_meant : (words : List ℕ) (w : well_formed (meant words) ≡ true) (i : ℕ) → i < count_word words → get_or words (2 * i) 0 ≤ last_month
month_meant words w i h = omega (arith, month_word_lem words w i h, small_month (meant words) w i)

pub overflow_cast-month : goal.overflow_cast-month
overflow_cast-month c =
    let list = c.args.list in
    let m = month_meant list.words.now list.formed c.loop-i.i (omega (arith, count_is list.words.now list.formed, c.loop-i-test.true, c.count-i-end.ensures)) in
    omega arith

pub overflow_cast-prepared : goal.overflow_cast-prepared
overflow_cast-prepared c =
    let list = c.args.list in
    let m = month_meant list.words.now list.formed c.loop-i.i (omega (arith, count_is list.words.now list.formed, c.loop-i-test.true, c.count-i-end.ensures)) in
    omega (arith, c.first_day.ensures, start_min m, start_to m)

pub loop-i-preserved : goal.loop-i-preserved
loop-i-preserved c =
    let words = c.args.list.words.now in
    let w = c.args.list.formed in
    let h : c.loop-i.i < length (meant words).leaps = omega (arith, c.loop-i-test.true, c.count-i-end.ensures) in
    starting_one c.requires.0 (parts (meant words) w).room c.loop-i.invariant h c.first_day.result
    (c.first_day.ensures ∙ start_min (month_meant words w c.loop-i.i (omega (arith, h, count_is words w))) ∙ ap month_start (month_word_lem words w c.loop-i.i (omega (arith, h, count_is words w))))
