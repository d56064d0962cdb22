-- The checks of an instant below the cut-off are those of its date.
-- Assumes nothing.
use Rattle.std.proofs.Common.{◌≡◌, ℕ, ◌<◌, ◌≤◌, Bool, true, leb, sym, ap, ◌∙◌, arith, lt-ltb, le-leb}
use native.Mathlib.Decide.{dec_lt}
use borrow.Author.Tests.{lt-leb}
use Rattle.refusals.specs.Refusals.{no_instant}
use Rattle.clock.specs.declared.Ending.{Ending}
use Rattle.clock.specs.Days.{long_day, short_day, day_length}
use Rattle.clock.specs.Known.{known_to}
use Rattle.refusals.specs.Answer.{Answer, given}
use Rattle.clock.specs.Question.{at_date, at_instant, at_utc}
use Rattle.clock.proofs.Tai.{length_least}
use Rattle.refusals.proofs.Checks.{pass}
use Rattle.clock.proofs.Checks.{known_before, known_below, known_after, known_sure, sure_through}

-- below the cut-off an instant is known on every known date, and the checks are those of the date
pub known_on_date : (last cutoff day t : ℕ) → t < cutoff → known_to last cutoff day t ≡ leb day last
known_on_date last cutoff day t h =
    elim (dec_lt day last) [
      | yes l ↦ known_before last cutoff day t l ∙ sym (le-leb day last (omega arith))
      | no l ↦
          elim (dec_lt last day) [
            | yes a ↦ known_after last cutoff day t a ∙ sym (lt-leb day last a)
            | no a ↦ known_below last cutoff day t (omega arith) h ∙ sym (le-leb day last (omega arith))
          ]
    ]

-- no later day than the last one is known
pub known_through : (last cutoff day t : ℕ) → known_to last cutoff day t ≡ true → day ≤ last
known_through last cutoff day t h = sure_through (known_sure last cutoff day t h)

pub early_as_date : {A : Type 0} (v : A) (well : Bool) (Z limit cutoff day t : ℕ) → t < limit → t < cutoff
    → ◌≡◌ {A = Answer A} (at_instant well Z limit cutoff day t (given v)) (at_date well Z day v)
early_as_date v well Z limit cutoff day t h g = rw (lt-ltb t limit h, known_on_date Z cutoff day t g)

pub early_utc : {A : Type 0} (v : A) (well : Bool) (Z : ℕ) (w : Ending) (cutoff day t : ℕ) → cutoff ≤ short_day → t < cutoff
    → ◌≡◌ {A = Answer A} (at_utc well Z w cutoff day t v) (at_date well Z day v)
early_utc v well Z w cutoff day t h g =
    ap (λ a. at_instant well Z long_day cutoff day t a) (pass no_instant (lt-ltb t (day_length w) (omega (arith, length_least w))))
    ∙ early_as_date v well Z long_day cutoff day t (omega arith) g
