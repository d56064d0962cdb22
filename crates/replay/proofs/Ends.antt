-- What the end of a trace leaves: nothing is left, or something, and there is room for refusal 20 or not. Assumes nothing.
use Prim.Native.Nat.{ℕ, ◌<◌, ◌≤◌}
use mathlib.Core.Path.{◌≡◌, refl, sym, ◌∙◌}
use mathlib.Core.Bool.{true, false, false≢true}
use mathlib.Core.List.{List, [], ◌∷◌}
use native.Mathlib.Omega.{arith}
use lib.ListN.{length}
use lib.Seq.{take_all}
use borrow.Author.Tests.{eqb-true, le-leb}
use Rattle.std.specs.Prelude.{◌==◌}
use Rattle.ascii.specs.Decimal.{decimal, digits_in}
use Rattle.ascii.specs.Output.{filled, Held}
use Rattle.ascii.specs.Refusal.{refusal}
use Rattle.refusals.specs.Answer.{given, refused}
use Rattle.refusals.specs.Refusals.{no_line, output_short}
use Rattle.schedule.specs.Answers.{fitted}
use Rattle.schedule.proofs.Answers.{Fits, fits, no_room}
use Rattle.replay.specs.Replay.{refuse, shown, unended}

four_bytes : length (shown (refuse no_line)) ≡ 4
unfolding shown refusal decimal digits_in
four_bytes = refl

pub end_nothing : (left out : List ℕ) → true ≡ (length left == 0) → Fits (unended left) out (given 0) out
end_nothing [] out h = fits [] out 0 refl (omega arith) out refl
end_nothing (b ∷ bs) out h = absurd (omega (arith, eqb-true (length (b ∷ bs)) 0 (sym h)))

pub end_short : (left out : List ℕ) → false ≡ (length left == 0) → length out < 4 → Fits (unended left) out (refused output_short) out
end_short [] out h g = absurd (false≢true h)
end_short (b ∷ bs) out h g = no_room (shown (refuse no_line)) out 4 (sym four_bytes) g

pub end_some : (left : List ℕ) {out out' : List ℕ} {n : ℕ} → false ≡ (length left == 0) → 4 ≤ length out → Held (shown (refuse no_line)) out out' n
    → Fits (unended left) out (given n) out'
unfolding fitted filled
end_some [] h g p = absurd (false≢true h)
end_some (b ∷ bs) {out} {out'} {n} h g p =
    let bytes = shown (refuse no_line) in
    let short : length bytes ≤ length out = omega (arith, four_bytes) in
    let all : n ≡ length bytes = omega (arith, p.count) in
    (simp (le-leb (length bytes) (length out) short, all), simp (le-leb (length bytes) (length out) short) (p.holds ∙ rw (take_all (length out) bytes short)))
