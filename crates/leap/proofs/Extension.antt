-- What is handed over of whether a list extends another, and what a caller may rest on it.
-- Assumes nothing.
use mathlib.Core.Path.{◌≡◌, refl, sym, ap, ◌∙◌}
use mathlib.Core.Bool.{true, false}
use mathlib.Core.Logic.{◌↔◌}
use Prim.Native.Nat.{ℕ}
use native.Mathlib.Omega.{arith}
use Rattle.schedule.specs.Schedule.{Schedule, well_formed}
use Rattle.schedule.specs.Extends.{Extends, extends}
use Rattle.schedule.proofs.Cases.{by_bool}
use Rattle.schedule.proofs.Extension.{means, tests, fails}
use Rattle.refusals.specs.Answer.{given}
use Rattle.clock.specs.Answers.{HandsValue}
use Rattle.refusals.proofs.Checks.{given_is}
use Rattle.leap.specs.Calls.{yes_of, extension}

module _ (longer shorter : Schedule) where
  pub longer_wrong : well_formed longer ≡ false → HandsValue 0 (extension longer shorter) 11 0
  unfolding extension
  longer_wrong f = rw f (record { its_number = refl; its_value = refl })

  module _ (w : well_formed longer ≡ true) where
    pub shorter_wrong : well_formed shorter ≡ false → HandsValue 0 (extension longer shorter) 11 0
    unfolding extension
    shorter_wrong f = rw (w, f) (record { its_number = refl; its_value = refl })

    module _ (w' : well_formed shorter ≡ true) where
      yes : extension longer shorter ≡ given (yes_of (extends longer shorter))
      unfolding extension
      yes = rw (w, w')

      -- of two well-formed lists the answer is 1 exactly where the one extends the other
      pub yes_means : (extension longer shorter ≡ given 1) ↔ Extends longer shorter
      yes_means = (
        λ e.
            by_bool (extends longer shorter) (λ t. means t)
            (λ f. let z : yes_of (extends longer shorter) ≡ 1 = given_is (sym yes ∙ e) in absurd (omega (arith, rw f at z))),
        λ x. yes ∙ rw (tests x),
      )

      -- and 0 exactly where it does not
      pub no_means : (extension longer shorter ≡ given 0) ↔ (¬ Extends longer shorter)
      no_means = (
        λ e x. let z : ◌≡◌ {A = ℕ} 1 0 = sym (ap yes_of (tests x)) ∙ given_is (sym yes ∙ e) in omega arith,
        λ n. yes ∙ rw (fails n),
      )
