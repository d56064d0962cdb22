-- What a call for many asks of a prepared list. No public contract and no promise speaks of these.
-- Assumes nothing: these are definitions.
use Rattle.std.specs.Prelude.{Result, List, ◌≡◌, ℕ, ◌<◌, min, length, false}
use Rattle.schedule.specs.Schedule.{Schedule, well_formed}
use Rattle.schedule.specs.WordLayout.{meant}
use Rattle.refusals.specs.declared.Refusal.{Refusal}
use Rattle.refusals.specs.Refusals.{not_well_formed}
use Rattle.refusals.specs.Answer.{Answer, refused, answer_of}
use Rattle.many.specs.Many.{HandsMany}
use Rattle.many.specs.Private.{At, Asks}
use Rattle.many.specs.declared.prepared.PreparedList.{PreparedList}

-- n questions, as many as the arrays have room for: what a call may return of one under a prepared list is the answer that the list gives, and
-- a schedule that is not well formed refuses all
pub record AsksMany {A : Type 0} (n : ℕ) (returns : PreparedList → ℕ → Result A Refusal → Type 0) (answers : Schedule → List (Answer A)) (numbers values : ℕ) : Type 0 where
  pub its_count : (s : Schedule) → n ≡ min (length (answers s)) (min numbers values)
  pub given : (list : PreparedList) → Asks n (returns list) (λ r. answer_of r) (answers (meant list.list.words.now))
  pub none : (s : Schedule) → well_formed s ≡ false → (i : ℕ) → i < n → At (answers s) i (refused not_well_formed)

-- the answers are handed over, whichever are asked for so
abbrev pub AnswersEach : {A : Type 0} → ℕ → (PreparedList → ℕ → Result A Refusal → Type 0) → A → List ℕ → List ℕ → List A → ℕ → List ℕ → List A → Type 0
AnswersEach {A} n returns zero words numbers values result numbers' values' =
    (answers : Schedule → List (Answer A)) → AsksMany n returns answers (length numbers) (length values)
    → HandsMany zero (answers (meant words)) numbers values result numbers' values'
