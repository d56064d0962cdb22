-- TAI to UTC and UTC to TAI are inverse to each other.
-- Assumes nothing.
use mathlib.Core.Bool.{true, false}
use mathlib.Core.Logic.{⊎_elim, ◌↔◌}
use mathlib.Core.Path.{◌≡◌, sym, ap, ◌∙◌, subst}
use Prim.Native.Nat.{ℕ, ◌+◌, ◌-◌, ◌≤◌, ◌<◌}
use native.Mathlib.Decide.{dec_lt}
use native.Mathlib.Omega.{arith}
use lib.Dec.{leb, ltb}
use borrow.Author.Tests.{ltb-true, leb-true, leb-false, lt-ltb, le-ltb, le-leb, lt-leb}
use Rattle.refusals.specs.Refusals.{before1972, not_known, not_well_formed}
use Rattle.calendar.specs.Calendar.{first_day}
use Rattle.calendar.proofs.Greatest.{Greatest, greatest_found, greatest_is}
use Rattle.schedule.specs.Schedule.{Schedule, well_formed}
use Rattle.schedule.proofs.Cases.{by_bool}
use Rattle.clock.specs.Days.{micros_per_day, ending, day_length, tai}
use Rattle.clock.specs.Known.{last_day, fully_known, tai_cutoff, known_to, tai_end, known_tai}
use Rattle.refusals.specs.Answer.{given}
use Rattle.clock.specs.Question.{Utc, first_tai, utc_to_tai, day_of, tai_to_utc}
use Rattle.clock.proofs.Tai.{expires_later, ending_last, tai_in_day, tai_first, tai_next, tai_order, tai_rises}
use Rattle.refusals.proofs.Checks.{required, given_is}
use Rattle.clock.proofs.Checks.{Sure, whole_to, whole_open, whole_shut, whole_near, known_whole, known_before, known_last, known_sure, sure_through, on_utc, utc_answered}

-- x is the TAI of an instant that the schedule knows
pub record Instant (s : Schedule) (x day t : ℕ) : Type 0 where
  pub from : first_day ≤ day
  pub is : x ≡ tai s day 0 + t
  pub below : t < day_length (ending s day)
  pub sure : Sure (last_day s) tai_cutoff day t

module _ (s : Schedule) (w : well_formed s ≡ true) where
  pub last_from : first_day ≤ last_day s
  last_from = omega (arith, expires_later s w)

  -- the TAI from which on nothing is known, where the last day is not fully known, and where it is
  pub end_open : fully_known (last_day s) ≡ false → tai_end s ≡ tai s (last_day s) 0 + tai_cutoff
  unfolding tai_end
  end_open m = rw m (tai_in_day s w (last_day s) tai_cutoff last_from)

  pub end_shut : fully_known (last_day s) ≡ true → tai_end s ≡ tai s (last_day s) 0 + micros_per_day
  unfolding tai_end
  end_shut m = rw m (tai_in_day s w (last_day s) micros_per_day last_from)

  -- in either case after the last day's first 86,399 s, which are no more than the whole day
  pub end_from : (tai s (last_day s) 0 + tai_cutoff ≤ tai_end s) × (day_length (ending s (last_day s)) ≡ micros_per_day)
  end_from =
      (by_bool (fully_known (last_day s)) (λ k. omega (arith, end_shut k)) (λ k. omega (arith, end_open k)), ap day_length (ending_last s w))

  -- ---- from the instant to its TAI and back

  on_whole : {x day t : ℕ} → Instant s x day t → day < whole_to (last_day s) → x < tai_end s
  on_whole {x} {day} {t} i q =
      let is = i.is in
      elim (dec_lt day (last_day s)) [
        | yes l ↦ omega (arith, i.below, end_from.0, tai_rises s w day (last_day s) i.from l)
        | no l ↦
            let e : day ≡ last_day s = omega (arith, whole_near (last_day s)) in
            by_bool (fully_known (last_day s))
            (λ k. omega (arith, i.below, end_shut k, end_from.1, ap (λ d. tai s d 0) e, ap (λ d. day_length (ending s d)) e))
            (λ k. absurd (omega (arith, whole_open (last_day s) k)))
      ]

  pub instant_bounds : {x day t : ℕ} → Instant s x day t → (first_tai ≤ x) × (x < tai_end s)
  instant_bounds {x} {day} {t} i =
      let first = tai_order s w first_day day (omega arith) i.from in
      let is = i.is in (
        omega (arith, tai_first s w),
        ⊎_elim (λ (q : day < whole_to (last_day s)). on_whole i q)
            (λ (q : (day ≡ last_day s) × (t < tai_cutoff)). omega (arith, end_from.0, ap (λ d. tai s d 0) q.0))
            i.sure,
      )

  instant_day : {x day t : ℕ} → Instant s x day t → Greatest (λ d. leb (tai s d 0) x) (last_day s) day
  instant_day {x} {day} i =
      let is = i.is in
      record {
        within = sure_through i.sure;
        passes = le-leb (tai s day 0) x (omega arith);
        above = λ j a b. lt-leb (tai s j 0) x (omega (arith, i.below, tai_rises s w day j i.from a));
      }

  pub instant_value : {x day t : ℕ} → Instant s x day t → ◌≡◌ {A = Utc} (record { day = day_of s x; micros = x - tai s (day_of s x) 0 }) (record { day = day; micros = t })
  instant_value {x} {day} {t} i =
      let m : x - tai s day 0 ≡ t = omega (arith, i.is) in
      rw (greatest_is (instant_day i), m)

  -- ---- from the TAI to its instant

  module _ (x : ℕ) (h : first_tai ≤ x) where
    first_passes : leb (tai s first_day 0) x ≡ true
    first_passes = le-leb (tai s first_day 0) x (omega (arith, tai_first s w))

    day_greatest : Greatest (λ d. leb (tai s d 0) x) (last_day s) (day_of s x)
    day_greatest = greatest_found (λ d. leb (tai s d 0) x) (last_day s) first_day last_from first_passes

    day_from : first_day ≤ day_of s x
    day_from =
        elim (dec_lt (day_of s x) first_day) [
          | yes l ↦ absurd (omega (arith, tai_first s w, leb-false (tai s first_day 0) x (day_greatest.above first_day l last_from)))
          | no l ↦ omega arith
        ]

    day_begun : tai s (day_of s x) 0 ≤ x
    day_begun = leb-true (tai s (day_of s x) 0) x day_greatest.passes

    before_next : (day : ℕ) → day_of s x < day → day ≤ last_day s → x < tai s day 0
    before_next day a b = leb-false (tai s day 0) x (day_greatest.above day a b)

    -- on the last day, where it is not fully known, x is known where its microsecond is
    on_last : fully_known (last_day s) ≡ false → (day : ℕ) → last_day s ≡ day → tai s day 0 ≤ x → ltb (x - tai s day 0) tai_cutoff ≡ ltb x (tai_end s)
    on_last m day e b =
        let end : tai_end s ≡ tai s day 0 + tai_cutoff = omega (arith, end_open m, ap (λ d. tai s d 0) e) in
        elim (dec_lt x (tai s day 0 + tai_cutoff)) [
          | yes l ↦ rw (lt-ltb (x - tai s day 0) tai_cutoff (omega arith), lt-ltb x (tai_end s) (omega arith))
          | no l ↦ rw (le-ltb (x - tai s day 0) tai_cutoff (omega arith), le-ltb x (tai_end s) (omega arith))
        ]

    -- where x lies within its day, whether it is known is whether its microsecond of the day is
    pub known_in_day : x < tai s (day_of s x) 0 + day_length (ending s (day_of s x)) → known_to (last_day s) tai_cutoff (day_of s x) (x - tai s (day_of s x) 0) ≡ known_tai s x
    known_in_day inside =
        elim (dec_lt (day_of s x) (last_day s)) [
          | yes l ↦
              known_before (last_day s) tai_cutoff (day_of s x) _ l
              ∙ sym (lt-ltb x (tai_end s) (omega (arith, end_from.0, before_next (last_day s) l (omega arith))))
          | no l ↦
              let e : day_of s x ≡ last_day s = omega (arith, day_greatest.within) in
              by_bool (fully_known (last_day s))
              (λ k.
              known_whole (last_day s) tai_cutoff (day_of s x) _ (omega (arith, whole_shut (last_day s) k))
              ∙ sym (lt-ltb x (tai_end s) (omega (arith, end_shut k, end_from.1, ap (λ d. tai s d 0) e, ap (λ d. day_length (ending s d)) e))))
              (λ k. known_last (last_day s) tai_cutoff (day_of s x) _ e k ∙ on_last k (day_of s x) (sym e) day_begun)
        ]

    -- what is known lies within its day
    known_inside : x < tai_end s → x < tai s (day_of s x) 0 + day_length (ending s (day_of s x))
    known_inside i =
        elim (dec_lt (day_of s x) (last_day s)) [
          | yes l ↦ omega (arith, tai_next s w (day_of s x) day_from, before_next (day_of s x + 1) (omega arith) (omega arith))
          | no l ↦
              let e : day_of s x ≡ last_day s = omega (arith, day_greatest.within) in
              let same : tai s (day_of s x) 0 + day_length (ending s (day_of s x)) ≡ tai s (last_day s) 0 + micros_per_day =
              omega (arith, end_from.1, ap (λ d. tai s d 0) e, ap (λ d. day_length (ending s d)) e) in
              by_bool (fully_known (last_day s)) (λ k. omega (arith, end_shut k)) (λ k. omega (arith, end_open k))
        ]

    pub instant_found : x < tai_end s → Instant s x (day_of s x) (x - tai s (day_of s x) 0)
    instant_found i =
        let begun = day_begun in
        let inside = known_inside i in
        record {
          from = day_from;
          is = omega arith;
          below = omega arith;
          sure = known_sure (last_day s) tai_cutoff (day_of s x) (x - tai s (day_of s x) 0) (known_in_day inside ∙ lt-ltb x (tai_end s) i);
        }

  -- ---- the two questions

  tai_given : {x day t : ℕ} → Instant s x day t → utc_to_tai s day t ≡ given x
  tai_given {x} {day} {t} i =
      utc_answered s tai_cutoff day t (tai s day t) w i.from i.sure i.below ∙ ap given (tai_in_day s w day t i.from ∙ sym i.is)

  utc_given : {x day t : ℕ} → Instant s x day t → tai_to_utc s x ≡ given (record { day = day; micros = t })
  utc_given {x} i =
      let b = instant_bounds i in
      rw (w, le-leb first_tai x b.0, lt-ltb x (tai_end s) b.1) (ap given (instant_value i))

tai_instant : (s : Schedule) (x day t : ℕ) → utc_to_tai s day t ≡ given x → (well_formed s ≡ true) × Instant s x day t
tai_instant s x day t h =
    let k = on_utc s tai_cutoff day t (tai s day t) x h in
    (k.well, record { from = k.from; is = sym k.is ∙ tai_in_day s k.well day t k.from; below = k.below; sure = k.sure })

utc_instant : (s : Schedule) (x : ℕ) (u : Utc) → tai_to_utc s x ≡ given u → (well_formed s ≡ true) × Instant s x u.day u.micros
utc_instant s x u h =
    let a = required (well_formed s) not_well_formed h in
    let b = required (leb first_tai x) before1972 a.1 in
    let c = required (known_tai s x) not_known b.1 in
    let i = instant_found s a.0 x (leb-true first_tai x b.0) (ltb-true x (tai_end s) c.0) in
    (a.0, subst (λ (v : Utc). Instant s x v.day v.micros) (given_is c.1) i)

-- TAI to UTC gives an instant exactly when UTC to TAI gives that instant's TAI
pub tai_inverse : (s : Schedule) (x : ℕ) (u : Utc) → (tai_to_utc s x ≡ given u) ↔ (utc_to_tai s u.day u.micros ≡ given x)
tai_inverse s x u = (
  λ h. let i = utc_instant s x u h in tai_given s i.0 i.1,
  λ h. let i = tai_instant s x u.day u.micros h in utc_given s i.0 i.1,
)
