-- Which dates and instants are taken: a well-formed schedule answers exactly those that the paper names.
-- Assumes nothing.
use mathlib.Core.Bool.{true, false}
use mathlib.Core.Logic.{◌↔◌}
use mathlib.Core.Path.{◌≡◌, ◌∙◌}
use Prim.Native.Nat.{ℕ, ◌<◌, ◌≤◌}
use native.Mathlib.Omega.{arith}
use lib.Dec.{leb}
use borrow.Author.Tests.{lt-ltb, le-ltb, le-leb, lt-leb, ltb-true, leb-true}
use Rattle.refusals.specs.Refusals.{before1972, no_instant, not_known, not_well_formed}
use Rattle.calendar.specs.Calendar.{first_day}
use Rattle.schedule.specs.Schedule.{Schedule, well_formed}
use Rattle.clock.specs.Days.{long_day, ending, day_length, dtai, tai}
use Rattle.clock.specs.Smoothed.{nanos_per_day, uts, utc_of}
use Rattle.clock.specs.Known.{last_day, tai_cutoff, uts_cutoff, nanos_cutoff, tai_end, known_tai}
use Rattle.refusals.specs.Answer.{Answer, given, refused}
use Rattle.clock.specs.Question.{first_tai, at_instant, at_utc, day_of, dtai_on, utc_to_tai, tai_to_utc, utc_to_uts, uts_to_utc, Question, ask_dtai, ask_utc_to_tai, ask_tai_to_utc, ask_utc_to_uts, ask_uts_to_utc, Value, ask}
use Rattle.clock.specs.Taken.{Within, Takes}
use Rattle.clock.proofs.Tai.{expires_later}
use Rattle.refusals.proofs.Checks.{pass, stop, required}
use Rattle.clock.proofs.Checks.{known_after, sure_within, within_sure, on_date, on_utc, utc_answered, on_uts, instant_passed}

module _ (s : Schedule) (w : well_formed s ≡ true) where
  utc_taken : {A : Type 0} (cutoff day t : ℕ) (v : A)
      → ((first_day ≤ day) × (t < day_length (ending s day)) × Within (last_day s) cutoff day t) ↔ ((x : A) × (at_utc (well_formed s) (last_day s) (ending s day) cutoff day t v ≡ given x))
  utc_taken cutoff day t v = (
    λ h. (v, utc_answered s cutoff day t v w h.0 (within_sure h.2) h.1),
    λ h. let k = on_utc s cutoff day t v h.0 h.1 in (k.from, k.below, sure_within k.sure),
  )

  -- a question is answered exactly when the schedule takes it
  pub taken : (q : Question) → Takes s q ↔ ((v : Value q) × (ask s q ≡ given v))
  taken (ask_dtai day) = (
    λ h. (dtai s day, pass not_well_formed w ∙ pass before1972 (le-leb first_day day h.0) ∙ pass not_known (le-leb day (last_day s) h.1)),
    λ h. let k = on_date s day (dtai s day) h.0 h.1 in (k.from, k.through),
  )
  taken (ask_utc_to_tai day t) = utc_taken tai_cutoff day t (tai s day t)
  taken (ask_tai_to_utc x) = (
    λ h. (
      record { day = day_of s x; micros = _ },
      pass not_well_formed w ∙ pass before1972 (le-leb first_tai x h.0) ∙ pass not_known (lt-ltb x (tai_end s) h.1),
    ),
    λ h.
        let a = required (well_formed s) not_well_formed h.1 in
        let b = required (leb first_tai x) before1972 a.1 in
        let c = required (known_tai s x) not_known b.1 in
        (leb-true first_tai x b.0, ltb-true x (tai_end s) c.0),
  )
  taken (ask_utc_to_uts day t) = utc_taken uts_cutoff day t (uts (ending s day) t)
  taken (ask_uts_to_utc day u) = (
    λ h. (utc_of (ending s day) u, instant_passed s nanos_per_day nanos_cutoff day u (record { well = w; from = h.0; below = h.1; sure = within_sure h.2 })),
    λ h. let k = on_uts s day u (utc_of (ending s day) u) h.0 h.1 in (k.0.from, k.0.below, sure_within k.0.sure),
  )

-- before MJD 41317 every date and instant is refused with 8, whatever its time; and so is every TAI below 10,000,000
pub before_first : (s : Schedule) → well_formed s ≡ true → (day t u : ℕ) → day < 41_317
    → (dtai_on s day ≡ refused 8) × (utc_to_tai s day t ≡ refused 8) × (utc_to_uts s day t ≡ refused 8) × (uts_to_utc s day u ≡ refused 8)
before_first s w day t u h =
    let early : leb first_day day ≡ false = lt-leb first_day day h in (
      pass not_well_formed w ∙ stop _ before1972 early,
      pass not_well_formed w ∙ stop _ before1972 early,
      pass not_well_formed w ∙ stop _ before1972 early,
      pass not_well_formed w ∙ stop _ before1972 early,
    )

pub before_first_tai : (s : Schedule) → well_formed s ≡ true → (x : ℕ) → x < 10_000_000 → tai_to_utc s x ≡ refused 8
before_first_tai s w x h = pass not_well_formed w ∙ stop _ before1972 (lt-leb first_tai x h)

-- a schedule that is not well formed has 11 for every question
pub malformed : (s : Schedule) → well_formed s ≡ false → (q : Question) → ask s q ≡ refused 11
malformed s w (ask_dtai day) = stop _ not_well_formed w
malformed s w (ask_utc_to_tai day t) = stop _ not_well_formed w
malformed s w (ask_tai_to_utc x) = stop _ not_well_formed w
malformed s w (ask_utc_to_uts day t) = stop _ not_well_formed w
malformed s w (ask_uts_to_utc day u) = stop _ not_well_formed w

module _ (s : Schedule) (w : well_formed s ≡ true) (day : ℕ) (from : 41_317 ≤ day) where
  none_there : {A : Type 0} (limit cutoff t : ℕ) (a : Answer A) → limit ≤ t → at_instant (well_formed s) (last_day s) limit cutoff day t a ≡ refused 9
  none_there limit cutoff t a h = pass not_well_formed w ∙ pass before1972 (le-leb first_day day from) ∙ stop _ no_instant (le-ltb t limit h)

  -- from 86,401,000,000 of UTC on there is no such instant (9) on any day from 1972 on, whether that day is known or not
  pub no_utc : (t : ℕ) → 86_401_000_000 ≤ t → (utc_to_tai s day t ≡ refused 9) × (utc_to_uts s day t ≡ refused 9)
  no_utc t h = (none_there long_day tai_cutoff t _ h, none_there long_day uts_cutoff t _ h)

  -- and likewise from 86,400,000,000,000 of UTS on
  pub no_uts : (u : ℕ) → 86_400_000_000_000 ≤ u → uts_to_utc s day u ≡ refused 9
  no_uts u h = none_there nanos_per_day nanos_cutoff u _ h

  module _ (late : s.expiry ≤ day) where
    after_last : last_day s < day
    after_last = omega (arith, expires_later s w)

    not_there : {A : Type 0} (limit cutoff t : ℕ) (a : Answer A) → t < limit → at_instant (well_formed s) (last_day s) limit cutoff day t a ≡ refused 10
    not_there limit cutoff t a h =
        pass not_well_formed w
        ∙ pass before1972 (le-leb first_day day from)
        ∙ pass no_instant (lt-ltb t limit h)
        ∙ stop a not_known (known_after (last_day s) cutoff day t after_last)

    -- from the expiry day on nothing is known (10): no DTAI, and no instant below those bounds
    pub no_dtai : ask s (ask_dtai day) ≡ refused 10
    no_dtai = pass not_well_formed w ∙ pass before1972 (le-leb first_day day from) ∙ stop _ not_known (lt-leb day (last_day s) after_last)

    pub utc_unknown : (t : ℕ) → t < 86_401_000_000 → (utc_to_tai s day t ≡ refused 10) × (utc_to_uts s day t ≡ refused 10)
    utc_unknown t h = (not_there long_day tai_cutoff t _ h, not_there long_day uts_cutoff t _ h)

    pub uts_unknown : (u : ℕ) → u < 86_400_000_000_000 → uts_to_utc s day u ≡ refused 10
    uts_unknown u h = not_there nanos_per_day nanos_cutoff u _ h
