-- What the last line of a comparison says about dates.
-- Assumes nothing.
use mathlib.Core.Path.{◌≡◌}
use mathlib.Core.Bool.{true}
use mathlib.Core.Logic.{◌↔◌, ◌⊎◌, inl, inr}
use Rattle.ascii.specs.Ascii.{ascii}
use Rattle.schedule.specs.Schedule.{Schedule, well_formed}
use Rattle.schedule.specs.Extends.{Extends}
use Rattle.clock.specs.Question.{ask_dtai}
use Rattle.clock.specs.Lists.{Parted}
use Rattle.clock.proofs.Differ.{agree_iff_extends, parted}
use Rattle.compare.specs.Compare.{relation, told}
use Rattle.compare.proofs.Meaning.{says_contradict}

module _ (a b : Schedule) (w : well_formed a ≡ true) (w' : well_formed b ≡ true) where
  one_answer : Extends b a ⊎ Extends a b → ¬ Parted a b
  one_answer x d = d.differ ((agree_iff_extends a b w w').1 x (ask_dtai d.day) d.dtai₁ d.dtai₂ d.first d.second)

  -- the last line is `contradict` exactly where some date has a DTAI given under both lists, and the two differ
  pub contradict_on_a_date : (told (relation a b) ≡ ascii "contradict") ↔ Parted a b
  contradict_on_a_date = (
    λ e. let n = (says_contradict a b).0 e in parted a b w w' n.1 n.0,
    λ d. (says_contradict a b).1 (λ x. one_answer (inr x) d, λ x. one_answer (inl x) d),
  )
