-- The numbers that a text reading is refused with.
-- Assumes nothing.
use mathlib.Core.List.{List, [], ◌∷◌}
use Prim.Native.Nat.{ℕ, ◌+◌, ◌*◌, ◌≤◌}
use native.Mathlib.Omega.{arith}
use lib.Dec.{ltb, leb, eqb}
use lib.ListN.{length}
use Rattle.schedule.specs.Schedule.{Schedule, month_start, blank_schedule}
use Rattle.schedule.specs.Answers.{Reading, with_leap}
use Rattle.schedule.proofs.Cases.{by_cond}
use Rattle.text.specs.Bytes.{is_digit, digit_of, mark_of}
use Rattle.text.specs.Read.{may_follow, at_end, read_from, read_text}
use Rattle.text.proofs.Cases.{by_mark_lem}

abbrev Small : Reading → Type 0
Small r = r.number ≤ 6

at_end_lem : (bs : List ℕ) (place : ℕ) (s : Schedule) (expiry : ℕ) → Small (at_end place s expiry bs)
at_end_lem [] place s expiry = omega arith
at_end_lem (b ∷ bs) place s expiry = omega arith

small : (bs : List ℕ) (gap place total : ℕ) (s : Schedule) → Small (read_from gap place total s bs)
unfolding read_from
small [] gap place total s = omega arith
small (b ∷ bs) gap place total s =
    by_cond Small (is_digit b)
    (λ _. by_cond Small (may_follow gap b) (λ _. small bs (gap * 10 + digit_of b) (place + 1) total s) (λ _. omega arith))
    (λ _. by_cond Small (eqb gap 0) (λ _. omega arith)
    (λ _.
    by_mark_lem Small (mark_of b) (omega arith)
    (λ _. by_cond Small (leb (total + gap) 2400) (λ _. at_end_lem bs (place + 1) s (month_start (total + gap))) (λ _. omega arith))
    (λ k _.
    by_cond Small (leb (total + gap) 2400)
    (λ _. by_cond Small (ltb (length s.leaps) 256) (λ _. small bs 0 (place + 1) (total + gap) (with_leap s (total + gap) k)) (λ _. omega arith))
    (λ _. omega arith))))

-- a text is refused with one of 1 to 6
pub at_most_six : (bytes : List ℕ) → (read_text bytes).number ≤ 6
unfolding read_text
at_most_six bytes = small bytes 0 0 0 blank_schedule
