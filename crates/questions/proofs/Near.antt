-- TAI to UTC by the day near the TAI: it has begun by then, and the instant lies on it or on the next.
-- Assumes nothing.
use Rattle.std.proofs.Common.{◌≡◌, ℕ, ◌+◌, ◌-◌, ◌<◌, ◌≤◌, true, cond, ltb, sym, refl, ap, ◌∙◌, arith, le-ltb, lt-ltb, le-leb}
use native.Mathlib.Decide.{dec_lt}
use borrow.Author.Tests.{lt-leb}
use Rattle.refusals.specs.Refusals.{before1972, not_known, not_well_formed}
use Rattle.calendar.specs.Calendar.{first_day}
use Rattle.calendar.proofs.Greatest.{greatest_is}
use Rattle.schedule.specs.Schedule.{Schedule, well_formed}
use Rattle.schedule.proofs.Cases.{by_bool}
use Rattle.clock.specs.Days.{ending, day_length, tai}
use Rattle.clock.specs.Known.{last_day, fully_known, tai_cutoff, tai_end}
use Rattle.refusals.specs.Answer.{given, require}
use Rattle.clock.specs.Question.{first_tai, day_of, tai_to_utc}
use Rattle.clock.proofs.Tai.{length_least, tai_low, tai_high, tai_first, tai_next, tai_rises}
use Rattle.refusals.proofs.Checks.{pass, stop}
use Rattle.clock.proofs.Checks.{known_after}
use Rattle.clock.proofs.Instant.{last_from, end_open, end_shut, end_from, known_in_day}
use Rattle.questions.specs.Said.{most_dtai, near_day, on_day}

module _ (s : Schedule) (w : well_formed s ≡ true) (x : ℕ) (h : first_tai ≤ x) where
  -- the answer, by the day of x and its start
  pub utc_answer_lem : (day start : ℕ) → day ≡ day_of s x → start ≡ tai s day 0 → x < tai s day 0 + day_length (ending s day) → on_day day (x - start) (last_day s) ≡ tai_to_utc s x
  utc_answer_lem day start e b inside =
      let z : start ≡ tai s (day_of s x) 0 = b ∙ ap (λ d. tai s d 0) e in
      rw (e, z) (ap (λ t. require t not_known (given (record { day = day_of s x; micros = x - tai s (day_of s x) 0 }))) (known_in_day s w x h (rw e at inside)))
      ∙ sym (pass not_well_formed w ∙ pass before1972 (le-leb first_tai x h))

  -- past the last day
  pub utc_past : (t : ℕ) → tai s (last_day s) 0 + day_length (ending s (last_day s)) ≤ x → on_day (last_day s + 1) t (last_day s) ≡ tai_to_utc s x
  utc_past t past =
      let late : tai_end s ≤ x = by_bool (fully_known (last_day s)) (λ k. omega (arith, end_shut s w k, (end_from s w).1)) (λ k. omega (arith, end_open s w k, (end_from s w).1)) in
      stop _ not_known (known_after (last_day s) tai_cutoff (last_day s + 1) t (omega arith))
      ∙ sym (pass not_well_formed w ∙ pass before1972 (le-leb first_tai x h) ∙ stop _ not_known (le-ltb x (tai_end s) late))

  -- ---- the day near x has begun by x, and x lies on it or on the next
  module _ (near : ℕ) (n : near ≡ near_day x (last_day s)) where
    pub near_from : first_day ≤ near
    near_from = omega (arith, last_from s w)

    pub near_begun : tai s near 0 ≤ x
    near_begun =
        elim (dec_lt x most_dtai) [
          | yes l ↦ let z : near ≡ first_day = omega (arith, last_from s w) in rw z (omega (arith, tai_first s w))
          | no l ↦ omega (arith, tai_high s w near near_from)
        ]

    is_day : (day : ℕ) → day ≤ last_day s → tai s day 0 ≤ x → ((j : ℕ) → day < j → j ≤ last_day s → x < tai s j 0) → day ≡ day_of s x
    is_day day a b f = sym (greatest_is (record { within = a; passes = le-leb (tai s day 0) x b; above = λ j p q. lt-leb (tai s j 0) x (f j p q) }))

    pub near_stays : (near < last_day s → x < tai s near 0 + day_length (ending s near)) → near ≡ day_of s x
    near_stays k =
        is_day near (omega arith) near_begun (λ j a b. omega (arith, k (omega arith), tai_rises s w near j near_from a))

    pub near_steps : near < last_day s → tai s near 0 + day_length (ending s near) ≤ x → near + 1 ≡ day_of s x
    near_steps l k =
        let from = near_from in
        is_day (near + 1) (omega arith) (omega (arith, tai_next s w near near_from)) (λ j a b. omega (arith, tai_low s w j (omega arith)))

    -- on the next day it lies early
    pub near_inside : near < last_day s → x < tai s (near + 1) 0 + day_length (ending s (near + 1))
    near_inside l =
        let from = near_from in
        omega (arith, tai_low s w (near + 1) (omega arith), length_least (ending s (near + 1)))

    -- the instant so far after the start of that day
    pub from_near : cond (ltb (x - tai s near 0) (day_length (ending s near))) (on_day near (x - tai s near 0) (last_day s))
        (on_day (near + 1) (x - tai s near 0 - day_length (ending s near)) (last_day s))
        ≡ tai_to_utc s x
    from_near =
        let begun = near_begun in
        elim (dec_lt (x - tai s near 0) (day_length (ending s near))) [
          | yes l ↦ rw (lt-ltb (x - tai s near 0) (day_length (ending s near)) l) (utc_answer_lem near (tai s near 0) (near_stays (λ _. omega arith)) refl (omega arith))
          | no l ↦
              let past : tai s near 0 + day_length (ending s near) ≤ x = omega arith in
              let next = tai_next s w near near_from in
              rw (le-ltb (x - tai s near 0) (day_length (ending s near)) (omega arith))
              (elim (dec_lt near (last_day s)) [
                | yes m ↦
                    ap (λ u. on_day (near + 1) u (last_day s)) (omega arith)
                    ∙ utc_answer_lem (near + 1) (tai s near 0 + day_length (ending s near)) (near_steps m past) (sym next) (near_inside m)
                | no m ↦
                    let z : near ≡ last_day s = omega arith in
                    ap (λ d. on_day (d + 1) (x - tai s near 0 - day_length (ending s near)) (last_day s)) z
                    ∙ utc_past (x - tai s near 0 - day_length (ending s near)) (omega (arith, ap (λ d. tai s d 0 + day_length (ending s d)) z))
              ])
        ]
