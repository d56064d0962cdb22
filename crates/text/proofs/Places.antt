-- Where a reading that ends early stops.
-- Assumes nothing.
use mathlib.Core.Path.{◌≡◌}
use mathlib.Core.List.{List, [], ◌∷◌}
use Prim.Native.Nat.{ℕ, ◌+◌, ◌*◌, ◌<◌}
use native.Mathlib.Omega.{arith}
use lib.Dec.{ltb, leb, eqb}
use lib.ListN.{length}
use Rattle.refusals.specs.Refusals.{ends_early}
use Rattle.schedule.specs.Schedule.{Schedule, month_start, blank_schedule}
use Rattle.schedule.specs.Answers.{Reading, refusal, with_leap}
use Rattle.schedule.proofs.Cases.{by_cond}
use Rattle.text.specs.Bytes.{is_digit, digit_of, mark_of}
use Rattle.text.specs.Read.{may_follow, at_end, read_from, read_text}
use Rattle.text.proofs.Cases.{by_mark_lem}

-- refusal 1 stands at the end
record AtEnd (end : ℕ) (r : Reading) : Type 0 where
  at_end_lem : r.number ≡ ends_early → r.place ≡ end

other : {end : ℕ} (n p : ℕ) → 1 < n → AtEnd end (refusal n p)
other n p h = record { at_end_lem = λ e. absurd (omega arith) }

after_mark : {end : ℕ} (bs : List ℕ) (place expiry : ℕ) (s : Schedule) → AtEnd end (at_end place s expiry bs)
after_mark [] place expiry s = record { at_end_lem = λ e. absurd (omega arith) }
after_mark (b ∷ bs) place expiry s = other 6 place (omega arith)

early : (bs : List ℕ) (gap place total : ℕ) (s : Schedule) (end : ℕ) → place + length bs ≡ end → AtEnd end (read_from gap place total s bs)
unfolding read_from
early [] gap place total s end e = record { at_end_lem = λ _. omega arith }
early (b ∷ bs) gap place total s end e =
    by_cond (AtEnd end) (is_digit b)
    (λ _. by_cond (AtEnd end) (may_follow gap b) (λ _. early bs (gap * 10 + digit_of b) (place + 1) total s end (omega arith)) (λ _. other 3 place (omega arith)))
    (λ _. by_cond (AtEnd end) (eqb gap 0)
    (λ _. other 2 place (omega arith))
    (λ _. by_mark_lem (AtEnd end) (mark_of b)
    (other 2 place (omega arith))
    (λ _. by_cond (AtEnd end) (leb (total + gap) 2400) (λ _. after_mark bs (place + 1) (month_start (total + gap)) s) (λ _. other 4 place (omega arith)))
    (λ k _. by_cond (AtEnd end) (leb (total + gap) 2400)
    (λ _. by_cond (AtEnd end) (ltb (length s.leaps) 256)
    (λ _. early bs 0 (place + 1) (total + gap) (with_leap s (total + gap) k) end (omega arith))
    (λ _. other 5 place (omega arith)))
    (λ _. other 4 place (omega arith)))))

-- where the input ends early, the place is its length
pub ends_at_the_length : (bytes : List ℕ) → (read_text bytes).number ≡ ends_early → (read_text bytes).place ≡ length bytes
unfolding read_text
ends_at_the_length bytes = (early bytes 0 0 0 blank_schedule (length bytes) (omega arith)).at_end_lem
