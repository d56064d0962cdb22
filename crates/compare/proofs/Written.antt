-- Bytes that were put into a local output with room for them, and are then copied to the caller's, if they fit. Assumes nothing.
use Rattle.std.proofs.Common.{◌≡◌, ℕ, ◌≤◌, ◌<◌, true, List, [], ◌∷◌, length, take, sym, ap, ◌∙◌, arith}
use Rattle.refusals.specs.Answer.{given, refused}
use Rattle.refusals.specs.Refusals.{output_short}
use Rattle.ascii.specs.declared.output.Output.{Output}
use Rattle.ascii.specs.Output.{Puts}
use Rattle.ascii.proofs.Putting.{both, one_put, from_start_lem, whole}
use Rattle.schedule.specs.Schedule.{Schedule, well_formed}
use Rattle.schedule.proofs.Answers.{Fits, fits, no_room}
use Rattle.compare.specs.Compare.{compared}
use Rattle.compare.specs.Private.{comparison}
use Rattle.compare.proofs.Bytes.{compared_bytes}
use Rattle.compare.proofs.Room.{at_most}

module _ (s t : Schedule) (w : well_formed s ≡ true) (v : well_formed t ≡ true) {first last next : Output}
    (p : Puts first next (comparison first.lines s t)) (q : Puts next last (10 ∷ [])) (lines : first.lines ≡ true) (start : first.at ≡ 0) (room : length first.bytes.now ≡ 4633) where
  counted : (last.at ≡ length (compared s t)) × (take last.at last.bytes.now ≡ compared s t)
  counted =
      let bytes = one_put (both p q) (compared_bytes s t ∙ rw lines) in
      whole (from_start_lem bytes start) (omega (arith, at_most s t w v, room))

  pub all_held : last.at ≡ length (take last.at last.bytes.now)
  all_held = counted.0 ∙ sym (ap length counted.1)

  module _ (out : List ℕ) where
    -- the output is too short
    pub too_short : length out < last.at → Fits (compared s t) out (refused output_short) out
    too_short h = no_room (compared s t) out last.at counted.0 h

    -- or the bytes are put at its start
    pub copied_out : last.at ≤ length out → {fresh done : Output} → Puts fresh done (take last.at last.bytes.now) → fresh.at ≡ 0 → fresh.bytes.now ≡ out → {copy : List ℕ}
        → copy ≡ done.bytes.now → Fits (compared s t) out (given last.at) copy
    copied_out h p start same now = fits (compared s t) out last.at counted.0 h _ (rw (now, ← counted.1, ← same, ← start) p.stored)
