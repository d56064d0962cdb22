-- An answer in bytes, by what a call's result says of it. Assumes nothing.
use Rattle.std.proofs.Common.{◌≡◌, ℕ, List, Result, Ok, Err, refl, sym, ap, ◌∙◌}
use Rattle.std.specs.Prelude.{IsErrAnd, MatchResult}
use Rattle.refusals.specs.declared.Refusal.{Refusal}
use Rattle.refusals.specs.Refusals.{number_of}
use Rattle.refusals.specs.Answer.{Answer, given, refused}
use Rattle.ascii.specs.declared.output.Output.{Output}
use Rattle.ascii.specs.Refusal.{refusal}
use Rattle.answers.specs.Times.{told}

module _ {A : Type 0} (f : A → List ℕ) {a : Answer A} {bytes : List ℕ} (is : bytes ≡ told f a) where
  -- the values are put
  pub told_given : {v : A} → given v ≡ a → bytes ≡ f v
  told_given e = is ∙ ap (told f) (sym e)

  -- or the refusal is handed over, and nothing is put
  pub told_refused : (result : Result (Unit {0}) Refusal) (P : Type 0) (out : Output) (why : Refusal) → IsErrAnd result (λ r. r ≡ why) → refused (number_of why) ≡ a
      → MatchResult result (λ _. P) (λ r. (out ≡ out) × (bytes ≡ refusal (number_of r)))
  told_refused (Ok v) P out why h e = absurd h
  told_refused (Err r) P out why h e = (refl, is ∙ (ap (told f) (sym e) ∙ rw h))
