-- The last day before the expiry, in the paper's numbers: fully known where the expiry is not the first of a month, and cut off where it is.
-- Assumes nothing.
use mathlib.Core.Bool.{true, false, not}
use mathlib.Core.Logic.{◌≢◌, inl, inr}
use mathlib.Core.Path.{◌≡◌, sym, ap, ◌∙◌}
use Prim.Native.Nat.{ℕ, ◌+◌, ◌-◌, ◌*◌, ◌/◌, ◌≤◌, ◌<◌}
use native.Mathlib.Decide.{dec_lt}
use native.Mathlib.Omega.{arith}
use borrow.Author.Tests.{le-leb, lt-ltb, le-ltb, ne_eqb}
use Rattle.refusals.specs.Refusals.{before1972, no_instant, not_known, not_well_formed}
use Rattle.calendar.specs.Calendar.{first_day, month_start, month_of, starts_month}
use Rattle.calendar.proofs.Laws.{starts_month_lem}
use Rattle.schedule.specs.Schedule.{Schedule, well_formed}
use Rattle.schedule.proofs.Gaps.{parts}
use Rattle.schedule.proofs.WordLayout.{within}
use Rattle.clock.specs.declared.Ending.TheVariants.{Ordinary}
use Rattle.clock.specs.Days.{long_day, ending, day_length, tai}
use Rattle.clock.specs.Smoothed.{nanos_per_day, uts, utc_of}
use Rattle.clock.specs.Known.{last_day, fully_known, tai_cutoff, uts_cutoff, nanos_cutoff, tai_end}
use Rattle.refusals.specs.Answer.{Answer, given, refused}
use Rattle.clock.specs.Question.{first_tai, at_instant, at_utc, utc_to_tai, tai_to_utc, utc_to_uts, uts_to_utc, ask_tai_to_utc, Utc}
use Rattle.clock.proofs.Tai.{expires_later, ending_last}
use Rattle.clock.proofs.Uts.{uts_is, uts_plain}
use Rattle.clock.proofs.Back.{back_plain, back_ordinary}
use Rattle.refusals.proofs.Checks.{pass, stop}
use Rattle.clock.proofs.Checks.{Sure, whole_near, whole_shut, known_whole, known_from, instant_passed, utc_answered}
use Rattle.clock.proofs.Taken.{taken}

-- UTS on a day without a leap
plain : (t : ℕ) → uts Ordinary t ≡ 1000 * t
plain t = uts_is Ordinary t

module _ (s : Schedule) (w : well_formed s ≡ true) where
  from_first : first_day ≤ s.expiry - 1
  from_first = omega (arith, expires_later s w)

  next : last_day s + 1 ≡ s.expiry
  next = omega (arith, expires_later s w)

  length_last : day_length (ending s (s.expiry - 1)) ≡ 86_400_000_000
  length_last = ap day_length (ending_last s w)

  -- ---- an instant of that day that is known, and one that isn't

  answered : {A : Type 0} (cutoff t : ℕ) (v : A) → Sure (last_day s) cutoff (s.expiry - 1) t → t < 86_400_000_000 → at_utc (well_formed s) (last_day s) (ending s (s.expiry - 1)) cutoff (s.expiry - 1) t v ≡ given v
  answered cutoff t v sure h = utc_answered s cutoff (s.expiry - 1) t v w from_first sure (omega (arith, length_last))

  unknown : {A : Type 0} (limit cutoff t : ℕ) (a : Answer A) → fully_known (last_day s) ≡ false → cutoff ≤ t → t < limit
      → at_instant (well_formed s) (last_day s) limit cutoff (s.expiry - 1) t a ≡ refused 10
  unknown limit cutoff t a k c h =
      pass not_well_formed w
      ∙ pass before1972 (le-leb first_day (s.expiry - 1) from_first)
      ∙ pass no_instant (lt-ltb t limit h)
      ∙ stop a not_known (known_from (last_day s) cutoff (s.expiry - 1) t (omega arith) c ∙ k)

  -- ---- every day before it, whatever the expiry

  module _ (day : ℕ) (from : 41_317 ≤ day) (early : day + 1 < s.expiry) where
    -- each of its instants has a TAI and a smoothed time, and each smoothed time a UTC
    pub before_tai : (t : ℕ) → t < day_length (ending s day) → utc_to_tai s day t ≡ given (tai s day t)
    before_tai t h = utc_answered s tai_cutoff day t (tai s day t) w from (inl (omega (arith, whole_near (last_day s)))) h

    pub before_uts : (t : ℕ) → t < day_length (ending s day) → utc_to_uts s day t ≡ given (uts (ending s day) t)
    before_uts t h = utc_answered s uts_cutoff day t (uts (ending s day) t) w from (inl (omega (arith, whole_near (last_day s)))) h

    pub before_back : (u : ℕ) → u < 86_400_000_000_000 → uts_to_utc s day u ≡ given (utc_of (ending s day) u)
    before_back u h =
        instant_passed s nanos_per_day nanos_cutoff day u (record { well = w; from = from; below = h; sure = inl (omega (arith, whole_near (last_day s))) })

  -- ---- the expiry is no first of a month

  module _ (inside : (m : ℕ) → month_start m ≢ s.expiry) where
    pub whole : fully_known (last_day s) ≡ true
    unfolding fully_known starts_month
    whole = rw next (ap not (ne_eqb (month_start (month_of s.expiry)) s.expiry (inside (month_of s.expiry))))

    sure : (cutoff t : ℕ) → Sure (last_day s) cutoff (s.expiry - 1) t
    sure cutoff t = inl (omega (arith, whole_shut (last_day s) whole))

    -- every instant of the last day before it has a TAI and a smoothed time, which nothing changes
    pub whole_tai : (t : ℕ) → t < 86_400_000_000 → utc_to_tai s (s.expiry - 1) t ≡ given (tai s (s.expiry - 1) t)
    whole_tai t h = answered tai_cutoff t (tai s (s.expiry - 1) t) (sure tai_cutoff t) h

    pub whole_uts : (t : ℕ) → t < 86_400_000_000 → utc_to_uts s (s.expiry - 1) t ≡ given (1000 * t)
    whole_uts t h = answered uts_cutoff t (uts (ending s (s.expiry - 1)) t) (sure uts_cutoff t) h ∙ ap given (rw (ending_last s w) (plain t))

    -- and every smoothed time of it a UTC
    pub whole_back : (u : ℕ) → u < 86_400_000_000_000 → uts_to_utc s (s.expiry - 1) u ≡ given (u / 1000)
    whole_back u h =
        instant_passed s nanos_per_day nanos_cutoff (s.expiry - 1) u (record { well = w; from = from_first; below = h; sure = sure nanos_cutoff u })
        ∙ ap given (rw (ending_last s w) (sym (back_ordinary u h)))

    -- from 86,400,000,000 on that day has no instant: 9, and not 10
    beyond : {A : Type 0} (cutoff t : ℕ) (v : A) → 86_400_000_000 ≤ t → at_utc (well_formed s) (last_day s) (ending s (s.expiry - 1)) cutoff (s.expiry - 1) t v ≡ refused 9
    beyond cutoff t v h =
        pass not_well_formed w
        ∙ pass before1972 (le-leb first_day (s.expiry - 1) from_first)
        ∙ elim (dec_lt t 86_401_000_000) [
          | yes l ↦
              pass no_instant (lt-ltb t long_day l)
              ∙ pass not_known (known_whole (last_day s) cutoff (s.expiry - 1) t (omega (arith, whole_shut (last_day s) whole)))
              ∙ stop (given v) no_instant (le-ltb t (day_length (ending s (s.expiry - 1))) (omega (arith, length_last)))
          | no l ↦ stop _ no_instant (le-ltb t long_day (omega arith))
        ]

    pub beyond_tai : (t : ℕ) → 86_400_000_000 ≤ t → utc_to_tai s (s.expiry - 1) t ≡ refused 9
    beyond_tai t h = beyond tai_cutoff t (tai s (s.expiry - 1) t) h

    pub beyond_uts : (t : ℕ) → 86_400_000_000 ≤ t → utc_to_uts s (s.expiry - 1) t ≡ refused 9
    beyond_uts t h = beyond uts_cutoff t (uts (ending s (s.expiry - 1)) t) h

    -- TAI to UTC goes to the end of that day, and no further
    pub end_whole : tai_end s ≡ tai s (s.expiry - 1) 86_400_000_000
    unfolding tai_end
    end_whole = rw whole

    pub tai_to_its_end : (x : ℕ) → 10_000_000 ≤ x → x < tai s (s.expiry - 1) 86_400_000_000 → (u : Utc) × (tai_to_utc s x ≡ given u)
    tai_to_its_end x h l = (taken s w (ask_tai_to_utc x)).0 (h, omega (arith, end_whole))

    pub tai_from_its_end : (x : ℕ) → 10_000_000 ≤ x → tai s (s.expiry - 1) 86_400_000_000 ≤ x → tai_to_utc s x ≡ refused 10
    tai_from_its_end x h l = pass not_well_formed w ∙ pass before1972 (le-leb first_tai x h) ∙ stop _ not_known (le-ltb x (tai_end s) (omega (arith, end_whole)))

  -- ---- the expiry is the first day of a month

  module _ (m : ℕ) (first : month_start m ≡ s.expiry) where
    pub cut : fully_known (last_day s) ≡ false
    unfolding fully_known
    cut = rw (next, ← first) (ap not (starts_month_lem (within m (omega (arith, (parts s w).end)))))

    -- the day before it has a TAI below 86,399,000,000, and a smoothed time below 85,399,000,000, which nothing changes; from there on 10
    pub cut_tai : (t : ℕ) → (t < 86_399_000_000 → utc_to_tai s (s.expiry - 1) t ≡ given (tai s (s.expiry - 1) t))
        × (86_399_000_000 ≤ t → t < 86_401_000_000 → utc_to_tai s (s.expiry - 1) t ≡ refused 10)
    cut_tai t = (
      λ h. answered tai_cutoff t (tai s (s.expiry - 1) t) (inr (omega arith, h)) (omega arith),
      λ c h. unknown long_day tai_cutoff t _ cut c h,
    )

    pub cut_uts : (t : ℕ) → (t < 85_399_000_000 → utc_to_uts s (s.expiry - 1) t ≡ given (1000 * t))
        × (85_399_000_000 ≤ t → t < 86_401_000_000 → utc_to_uts s (s.expiry - 1) t ≡ refused 10)
    cut_uts t = (
      λ h. answered uts_cutoff t (uts (ending s (s.expiry - 1)) t) (inr (omega arith, h)) (omega arith) ∙ ap given (uts_plain (ending s (s.expiry - 1)) t (omega arith)),
      λ c h. unknown long_day uts_cutoff t _ cut c h,
    )

    -- the way back is given below 85,399,000,000,000, and TAI to UTC below the TAI of 86,399,000,000; from there on 10
    pub cut_back : (u : ℕ) → (u < 85_399_000_000_000 → uts_to_utc s (s.expiry - 1) u ≡ given (u / 1000))
        × (85_399_000_000_000 ≤ u → u < 86_400_000_000_000 → uts_to_utc s (s.expiry - 1) u ≡ refused 10)
    cut_back u = (
      λ h.
          instant_passed s nanos_per_day nanos_cutoff (s.expiry - 1) u (record { well = w; from = from_first; below = omega arith; sure = inr (omega arith, h) })
          ∙ ap given (sym (back_plain (ending s (s.expiry - 1)) u h)),
      λ c h. unknown nanos_per_day nanos_cutoff u _ cut c h,
    )

    pub end_cut : tai_end s ≡ tai s (s.expiry - 1) 86_399_000_000
    unfolding tai_end
    end_cut = rw cut

    pub cut_tai_back : (x : ℕ) → 10_000_000 ≤ x → (x < tai s (s.expiry - 1) 86_399_000_000 → (u : Utc) × (tai_to_utc s x ≡ given u))
        × (tai s (s.expiry - 1) 86_399_000_000 ≤ x → tai_to_utc s x ≡ refused 10)
    cut_tai_back x h = (
      λ l. (taken s w (ask_tai_to_utc x)).0 (h, omega (arith, end_cut)),
      λ l. pass not_well_formed w ∙ pass before1972 (le-leb first_tai x h) ∙ stop _ not_known (le-ltb x (tai_end s) (omega (arith, end_cut))),
    )
