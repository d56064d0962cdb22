-- The laws of one check: passed or not, and what that says of the answer.
-- Assumes nothing.
use mathlib.Core.Bool.{Bool, true, false}
use mathlib.Core.Path.{◌≡◌, refl, sym, ◌∙◌}
use Prim.Native.Nat.{ℕ, ◌≤◌}
use native.Mathlib.Omega.{arith}
use Rattle.refusals.specs.Answer.{Answer, given, refused, require, number}

pub pass : {A : Type 0} {a : Answer A} {b : Bool} (n : ℕ) → b ≡ true → require b n a ≡ a
pass n e = rw e

pub stop : {A : Type 0} (a : Answer A) {b : Bool} (n : ℕ) → b ≡ false → require b n a ≡ refused n
stop a n e = rw e

-- what the code's flag says of the test that it stands for
pub passed : {a b : Bool} → b ≡ a → b ≡ true → a ≡ true
passed e h = sym e ∙ h

pub failed : {a b : Bool} → b ≡ a → b ≡ false → a ≡ false
failed e h = sym e ∙ h

-- a check that was passed, and what was asked after it
pub required : {A : Type 0} {a : Answer A} {v : A} (b : Bool) (n : ℕ) → require b n a ≡ given v → (b ≡ true) × (a ≡ given v)
required true n h = (refl, h)
required false n h = absurd (let z : ◌≡◌ {A = ℕ} 0 1 = cc in omega arith)

pub given_is : {A : Type 0} {a b : A} → given a ≡ given b → a ≡ b
given_is h = cc

-- the same test, and where it passes the same after it
pub same_check : {A : Type 0} {a a' : Answer A} {test : Bool} (test' : Bool) (n : ℕ) → test ≡ test' → (test' ≡ true → a ≡ a') → require test n a ≡ require test' n a'
same_check true n e f = pass n e ∙ f refl
same_check {A} {a} false n e f = stop a n e

-- a number after the checks is no greater than the greatest of theirs
pub through : {A : Type 0} (b : Bool) (n most : ℕ) (a : Answer A) → n ≤ most → number a ≤ most → number (require b n a) ≤ most
through true n most a h g = g
through false n most a h g = h
