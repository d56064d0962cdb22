-- What an output holds after a writer that was lent room enough. Assumes nothing.
use Rattle.std.proofs.Common.{◌≡◌, ℕ, ◌≤◌, true, List, ◌++◌, Result, Ok, Err, length, take, drop, ap, ◌∙◌, arith, rules, length-append}
use Rattle.std.specs.Prelude.{IsOk}
use lib.Seq.{take-append_seam}
use borrow.Author.Tests.{le-leb}
use Rattle.refusals.specs.Answer.{given, answer_of}
use Rattle.refusals.specs.declared.Refusal.{Refusal}
use Rattle.schedule.specs.Schedule.{Schedule, leaves_gap, well_formed}
use Rattle.schedule.specs.Answers.{fitted, writing, written}

-- a call that answers is no refusal
ok : (r : Result ℕ Refusal) {n : ℕ} → answer_of r ≡ given n → IsOk r
ok (Ok v) e = search rules
ok (Err why) e = absurd cc

module _ (s : Schedule) (bytes out : List ℕ) (f : well_formed s ≡ true) (g : leaves_gap s ≡ true) (room : length bytes ≤ length out) where
  fits : writing s bytes (length out) ≡ given (length bytes)
  fits = simp (f, g, le-leb (length bytes) (length out) room)

  pub is_written : (r : Result ℕ Refusal) → answer_of r ≡ writing s bytes (length out) → IsOk r
  is_written r p = ok r (p ∙ fits)

  module _ {n : ℕ} {r : Result ℕ Refusal} {out' : List ℕ} (u : r ≡ Ok n) (p : answer_of r ≡ writing s bytes (length out)) (q : out' ≡ written s bytes out) where
    count_is : n ≡ length bytes
    count_is = let e = rw u at (p ∙ fits) in cc

    whole : out' ≡ bytes ++ drop (length bytes) out
    unfolding written fitted
    whole = q ∙ simp (f, g, le-leb (length bytes) (length out) room)

    pub inside : n ≤ length out'
    inside = omega (arith, ap length whole, length-append bytes (drop (length bytes) out), count_is)

    pub holds : take n out' ≡ bytes
    holds = rw (whole, count_is) (take-append_seam bytes (drop (length bytes) out))
