-- No line prints more than 22 bytes. Assumes nothing.
use Prim.Native.Nat.{ℕ, ◌≤◌, ◌<◌}
use mathlib.Core.Path.{◌≡◌, refl}
use mathlib.Core.List.{[], ◌∷◌}
use native.Mathlib.Omega.{arith}
use lib.Dec.{eqb}
use lib.ListN.{length, length-append}
use Rattle.ascii.specs.Decimal.{decimal}
use Rattle.ascii.specs.Lines.{newline, space_byte, two_numbers}
use Rattle.ascii.specs.Refusal.{refusal}
use Rattle.ascii.proofs.Cases.{by_bool}
use Rattle.ascii.proofs.Digits.{decimal_short}
use Rattle.schedule.specs.Schedule.{Schedule}
use Rattle.schedule.specs.WordLayout.{meant}
use Rattle.text.specs.Read.{read_text}
use Rattle.text.proofs.Numbers.{at_most_six}
use Rattle.refusals.specs.Answer.{Answer, given, refused}
use Rattle.clock.specs.Question.{utc_to_uts}
use Rattle.clock.specs.Known.{uts_cutoff}
use Rattle.clock.specs.Days.{ending}
use Rattle.clock.specs.Smoothed.{uts}
use Rattle.clock.proofs.Checks.{on_utc, sure_through, utc_number_lem}
use Rattle.clock.proofs.Tai.{last_inside}
use Rattle.clock.proofs.Uts.{uts_within}
use Rattle.replay.specs.Trace.{Line, list, store, reset, question, other}
use Rattle.replay.specs.Replay.{State, time, refuse, on_day, numbered, reply, shown}

-- ---- refusals

refusal_short : (n : ℕ) → n ≤ 20 → length (shown (refuse n)) ≤ 22
unfolding shown refusal
refusal_short n h = omega (arith, length-append (refusal n) (newline ∷ []), decimal_short 1 n (omega arith))

-- ---- times

time_short : (day u : ℕ) → day < 114_366 → u < 86_400_000_000_000 → length (shown (time day u)) ≤ 22
unfolding shown
time_short day u h g =
    omega (arith, length-append (two_numbers day u) (newline ∷ []), length-append (decimal day) (space_byte ∷ decimal u), decimal_short 5 day (omega arith), decimal_short 13 u (omega arith))

answer_short : (s : Schedule) (day t : ℕ) (a : Answer ℕ) → utc_to_uts s day t ≡ a → length (shown (on_day day a)) ≤ 22
answer_short s day t (given u) e =
    let on = on_utc s uts_cutoff day t (uts (ending s day) t) u e in
    time_short day u (omega (arith, sure_through on.sure, last_inside s on.well)) (omega (arith, on.is, uts_within (ending s day) t on.below))
answer_short s day t (refused n) e = refusal_short n (omega (arith, rw e at (utc_number_lem s uts_cutoff day t (uts (ending s day) t))))

list_short : (n : ℕ) → n ≤ 6 → length (shown (numbered n)) ≤ 22
unfolding shown
list_short n h = by_bool (eqb n 0) (λ e. simp e (omega arith)) (λ e. simp e (refusal_short n (omega arith)))

-- no line prints more than 22 bytes
pub at_most : (s : State) (l : Line) → length (shown (reply s l)) ≤ 22
unfolding reply shown
at_most s (list bytes) = list_short (read_text bytes).number (at_most_six bytes)
at_most s store = omega arith
at_most s reset = omega arith
at_most s (question day t) = answer_short (meant s.current) day t (utc_to_uts (meant s.current) day t) refl
at_most s other = refusal_short 20 (omega arith)
