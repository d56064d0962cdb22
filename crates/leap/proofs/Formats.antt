-- The two list formats agree with each other, and with the schedule that was written.
-- Assumes nothing.
use mathlib.Core.Path.{◌≡◌, sym, ◌∙◌}
use mathlib.Core.Bool.{true}
use Rattle.schedule.specs.Schedule.{Schedule, rounded_down, leaves_gap, well_formed}
use Rattle.schedule.proofs.Rounded.{rounded_well, extends_rounded}
use Rattle.text.specs.Read.{read_text}
use Rattle.text.specs.Write.{text_of}
use Rattle.text.proofs.Back as text
use Rattle.nybbles.specs.Read.{read_nybbles}
use Rattle.nybbles.specs.Write.{nybbles_of}
use Rattle.nybbles.proofs.Back as nybbles
use Rattle.clock.specs.Question.{Question}
use Rattle.clock.specs.Lists.{Kept}
use Rattle.clock.proofs.Agree.{keeps}

-- the text and the nybbles of one schedule read as the same schedule
pub formats_agree : (s : Schedule) → well_formed s ≡ true → leaves_gap s ≡ true → read_text (text_of s) ≡ read_nybbles (nybbles_of s)
formats_agree s w g = text.reads_back_rounded s w g ∙ sym (nybbles.reads_back_rounded s w g)

-- rounding down never contradicts: what the list that was written answers, the schedule answers
pub rounded_kept : (s : Schedule) → well_formed s ≡ true → leaves_gap s ≡ true → (q : Question) → Kept s (rounded_down s) q
rounded_kept s w g q = keeps s (rounded_down s) (extends_rounded s w g) w (rounded_well s w g) q
