-- Every schedule that the text reading accepts is well formed.
-- Assumes nothing.
use mathlib.Core.Path.{◌≡◌}
use mathlib.Core.Bool.{true}
use mathlib.Core.List.{List, [], ◌∷◌}
use Prim.Native.Nat.{ℕ, ◌+◌, ◌*◌, ◌≤◌, ◌<◌}
use native.Mathlib.Nat.{pos_of_ne-zero}
use native.Mathlib.Omega.{arith}
use lib.Dec.{ltb, leb, eqb}
use lib.ListN.{length}
use borrow.Author.Tests.{ltb-true, leb-true, eqb-false}
use Rattle.schedule.specs.Schedule.{Schedule, month_start, blank_schedule, leaves_gap, well_formed}
use Rattle.calendar.specs.Calendar.{starts_month}
use Rattle.schedule.proofs.Rounded.{first_leaves_gap}
use Rattle.schedule.specs.Answers.{with_leap}
use Rattle.schedule.proofs.Cases.{by_cond}
use Rattle.schedule.proofs.Sound.{Formed, never, Sound, sound_leap, sound_end, blank_sound}
use Rattle.text.specs.Bytes.{is_digit, digit_of, mark_of}
use Rattle.text.specs.Read.{may_follow, at_end, read_from, read_text}
use Rattle.text.proofs.Cases.{by_mark_lem}
use Rattle.text.proofs.Follow.{makes_gap}

sound_mark : (bs : List ℕ) (place total gap : ℕ) (s : Schedule) → 0 < gap → gap ≤ 999 → total + gap ≤ 2400 → Sound total s → Formed (at_end place s (month_start (total + gap)) bs)
sound_mark [] place total gap s p q h d = sound_end total gap s p q h d
sound_mark (b ∷ bs) place total gap s p q h d = never 6 place (omega arith)

sound : (bs : List ℕ) (gap place total : ℕ) (s : Schedule) → gap ≤ 999 → Sound total s → Formed (read_from gap place total s bs)
unfolding read_from
sound [] gap place total s q d = never 1 place (omega arith)
sound (b ∷ bs) gap place total s q d =
    by_cond Formed (is_digit b)
    (λ i. by_cond Formed (may_follow gap b)
    (λ g. sound bs (gap * 10 + digit_of b) (place + 1) total s (makes_gap gap b i g).1 d)
    (λ _. never 3 place (omega arith)))
    (λ _. by_cond Formed (eqb gap 0)
    (λ _. never 2 place (omega arith))
    (λ z. let p : 0 < gap = pos_of_ne-zero (eqb-false gap 0 z) in
    by_mark_lem Formed (mark_of b)
    (never 2 place (omega arith))
    (λ _. by_cond Formed (leb (total + gap) 2400) (λ h. sound_mark bs (place + 1) total gap s p q (leb-true _ _ h) d) (λ _. never 4 place (omega arith)))
    (λ k _. by_cond Formed (leb (total + gap) 2400)
    (λ h. by_cond Formed (ltb (length s.leaps) 256)
    (λ f. sound bs 0 (place + 1) (total + gap) (with_leap s (total + gap) k) (omega arith) (sound_leap total gap s k p q (ltb-true _ _ f) d))
    (λ _. never 5 place (omega arith)))
    (λ _. never 4 place (omega arith)))))

pub read_formed : (bytes : List ℕ) → Formed (read_text bytes)
unfolding read_text
read_formed bytes = sound bytes 0 0 0 blank_schedule (omega arith) blank_sound

-- a refused reading returns the blank schedule
pub refused_blank : (bytes : List ℕ) → ((read_text bytes).number ≡ 0 → ⊥) → (read_text bytes).schedule ≡ blank_schedule
refused_blank bytes = (read_formed bytes).blank

-- an accepted list's schedule is well formed
pub accepted_well_formed : (bytes : List ℕ) → (read_text bytes).number ≡ 0 → well_formed (read_text bytes).schedule ≡ true
accepted_well_formed bytes = (read_formed bytes).formed

-- every reader gives a first of a month
pub accepted_first : (bytes : List ℕ) → (read_text bytes).number ≡ 0 → starts_month (read_text bytes).schedule.expiry ≡ true
accepted_first bytes = (read_formed bytes).first

-- so what was read can be written
pub accepted_leaves_gap : (bytes : List ℕ) → (read_text bytes).number ≡ 0 → leaves_gap (read_text bytes).schedule ≡ true
accepted_leaves_gap bytes e = first_leaves_gap (read_text bytes).schedule (accepted_well_formed bytes e) (accepted_first bytes e)
