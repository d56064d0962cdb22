-- The longer of two texts as it is put: a text that is chosen is read, and so has at most 1,028 bytes. Assumes nothing.
use mathlib.Core.Path.{◌≡◌, ◌∙◌}
use mathlib.Core.List.{List}
use mathlib.Core.Logic.{◌≢◌}
use Prim.Native.Nat.{ℕ, ◌≤◌}
use lib.ListN.{length}
use Rattle.text.specs.Read.{read_text}
use Rattle.text.proofs.Room.{at_most}
use Rattle.text.proofs.Sound.{accepted_well_formed}
use Rattle.text.proofs.Spelling.{one_spelling}
use Rattle.compare.specs.declared.longer.Chosen.{Chosen}
use Rattle.compare.specs.declared.longer.Chosen.TheVariants.{First, Second}
use Rattle.refusals.specs.Answer.{Answer, given, refused}
use Rattle.compare.specs.Longer.{chosen}
use Rattle.compare.proofs.TwoTexts.{Taken}
use Rattle.compare.proofs.Handed.{both_read}
use Rattle.ascii.specs.Refusal.{refusal}
use Rattle.answers.specs.Lists.{list_of, longer_by, longer_answer}

read_few : (x : List ℕ) → Taken x → length x ≤ 1028
read_few x t = rw (one_spelling x t) at (at_most (read_text x).schedule (accepted_well_formed x t))

no_refusal : {a : Answer Chosen} {c : Chosen} → given c ≡ a → (n : ℕ) → a ≢ refused n
no_refusal e n f = let z = e ∙ f in absurd cc

module _ (x y : List ℕ) where
  pub first_read : given First ≡ chosen x y → Taken x
  first_read e = (both_read x y (no_refusal e)).0

  pub second_read : given Second ≡ chosen x y → Taken y
  second_read e = (both_read x y (no_refusal e)).1

  pub first_few : given First ≡ chosen x y → length x ≤ 1028
  first_few e = read_few x (first_read e)

  pub second_few : given Second ≡ chosen x y → length y ≤ 1028
  second_few e = read_few y (second_read e)

-- what is put, by the choice between the lists that two fields name
module _ (x y : List ℕ) {first second : List ℕ} (p : first ≡ list_of x) (q : second ≡ list_of y) where
  pub by_first : given First ≡ chosen first second → longer_answer x y ≡ first
  unfolding longer_by
  by_first e = rw (← p, ← q, ← e)

  pub by_second : given Second ≡ chosen first second → longer_answer x y ≡ second
  unfolding longer_by
  by_second e = rw (← p, ← q, ← e)

  pub by_refused : {n : ℕ} → refused n ≡ chosen first second → longer_answer x y ≡ refusal n
  unfolding longer_by
  by_refused e = rw (← p, ← q, ← e)
