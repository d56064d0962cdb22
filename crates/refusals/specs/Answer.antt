-- An answer, given or refused, and the checks before it: a column of `require`, top to bottom in the order of the paper.
-- Assumes nothing: these are definitions.
use Rattle.std.specs.Prelude.{Bool, true, false, ℕ, Result, Ok, Err}
use Rattle.refusals.specs.declared.Refusal.{Refusal}
use Rattle.refusals.specs.Refusals.{number_of}

-- a result with number 0 and the values asked for, or a refusal with its number
pub data Answer (A : Type 0) : Type 0 where
  given : A → Answer A
  refused : ℕ → Answer A

-- refused with the number unless the test passes
abbrev pub require : {A : Type 0} → Bool → ℕ → Answer A → Answer A
require true n a = a
require false n a = refused n

-- "Accepted answers carry number 0"
abbrev pub number : {A : Type 0} → Answer A → ℕ
number (given v) = 0
number (refused n) = n

-- "Refused time questions return 0 for every number asked for"
abbrev pub or_zero : {A : Type 0} → A → Answer A → A
or_zero z (given v) = v
or_zero z (refused n) = z

-- what a call's result says: given, by what its value stands for, or refused with the number
abbrev pub answer_by : {A B : Type 0} → (A → B) → Result A Refusal → Answer B
answer_by f (Ok v) = given (f v)
answer_by f (Err r) = refused (number_of r)

-- the same where the value stands for itself
abbrev pub answer_of : {A : Type 0} → Result A Refusal → Answer A
answer_of r = answer_by (λ v. v) r
