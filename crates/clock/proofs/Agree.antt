-- Demand 3, the longer list: it keeps every answer of the shorter one and its refusals 8 and 9, and refusal 10 stays or becomes an answer or 9.
-- Assumes nothing.
use mathlib.Core.Bool.{Bool, true, false}
use mathlib.Core.Logic.{inl, inr, ⊎_elim}
use mathlib.Core.Path.{◌≡◌, refl, sym, ap, ◌∙◌}
use Prim.Native.Nat.{ℕ, ◌+◌, ◌-◌, ◌≤◌, ◌<◌}
use native.Mathlib.Decide.{dec_lt}
use native.Mathlib.Omega.{arith}
use lib.Dec.{leb, ltb}
use borrow.Author.Tests.{ltb-true, leb-true, lt-ltb, le-leb}
use Rattle.refusals.specs.Refusals.{before1972, no_instant, not_known, not_well_formed}
use Rattle.calendar.specs.Calendar.{first_day}
use Rattle.schedule.specs.declared.Sign.{Sign}
use Rattle.schedule.specs.declared.Sign.TheVariants.{Positive, Negative}
use Rattle.schedule.specs.Schedule.{Schedule, well_formed}
use Rattle.schedule.specs.Extends.{Extends}
use Rattle.schedule.proofs.Cases.{by_bool}
use Rattle.schedule.proofs.Gaps.{parts}
use Rattle.clock.specs.Days.{long_day, short_day, dtai, ending_before, ending, day_length, tai}
use Rattle.clock.specs.Smoothed.{nanos_per_day, uts, utc_of}
use Rattle.clock.specs.Known.{last_day, fully_known, tai_cutoff, uts_cutoff, nanos_cutoff, known_to, known_date, tai_end, known_tai}
use Rattle.refusals.specs.Answer.{Answer, given, refused, require}
use Rattle.clock.specs.Question.{first_tai, at_instant, at_utc, dtai_on, utc_to_tai, day_of, tai_to_utc, utc_to_uts, uts_to_utc, Question, ask_dtai, ask_utc_to_tai, ask_tai_to_utc, ask_utc_to_uts, ask_uts_to_utc, ask}
use Rattle.clock.specs.Lists.{Open, Kept}
use Rattle.clock.proofs.Tally.{tally}
use Rattle.clock.proofs.Tallied.{dtai_tallied}
use Rattle.clock.proofs.Leaps.{tally_below, ending_below, ending_known}
use Rattle.clock.proofs.Tai.{length_least, expires_later, ending_last}
use Rattle.clock.proofs.Uts.{uts_plain}
use Rattle.clock.proofs.Checks.{Sure, whole_to, whole_open, whole_near, whole_later, sure_known, known_sure, sure_through}
use Rattle.clock.proofs.Instant.{Instant, instant_bounds, instant_value, instant_found}
use Rattle.clock.proofs.Back.{back_plain}

-- ---- two chains of checks, the second of a list that may know more

-- the second answer is the first, or the first is refusal 10
data Later {A : Type 0} : Answer A → Answer A → Type 0 where
  alike : (a : Answer A) → Later a a
  opened : (a : Answer A) → Open a → Later (refused not_known) a

-- a check of both that does not ask the list
later_check : {A : Type 0} {a a' : Answer A} (b : Bool) (n : ℕ) → (b ≡ true → Later a a') → Later (require b n a) (require b n a')
later_check true n f = f refl
later_check false n f = alike (refused n)

-- a check that both pass
later_pass : {A : Type 0} {a a' : Answer A} (b b' : Bool) (n : ℕ) → b ≡ true → b' ≡ true → Later a a' → Later (require b n a) (require b' n a')
later_pass b b' n e e' h = rw (e, e') h

-- what the first list knows, the second knows too, and answers alike
later_known : {A : Type 0} {a a' : Answer A} (b b' : Bool) → Open a' → (b ≡ true → (b' ≡ true) × (a' ≡ a)) → Later (require b not_known a) (require b' not_known a')
later_known {a = a} true b' o f = rw ((f refl).0, (f refl).1) (alike a)
later_known {a' = a'} false true o f = opened a' o
later_known false false o f = alike (refused not_known)

given_open : {A : Type 0} (v : A) → Open (given v)
given_open v = inr (inr (v, refl))

instant_open : {A : Type 0} (b : Bool) (v : A) → Open (require b no_instant (given v))
instant_open true v = given_open v
instant_open false v = inr (inl refl)

-- what is known up to one day is known up to a later one
sure_longer : {last last' cutoff day t : ℕ} → last ≤ last' → Sure last cutoff day t → Sure last' cutoff day t
sure_longer h (inl l) = inl (omega (arith, whole_later h))
sure_longer {last} {last'} h (inr l) =
    elim (dec_lt last last') [ yes q ↦ inl (omega (arith, whole_near last')) | no q ↦ inr (omega arith, l.1) ]

module _ (L S : Schedule) (longer : Extends L S) (wL : well_formed L ≡ true) (wS : well_formed S ≡ true) where
  -- ---- the quantities that agree

  last_later : last_day S ≤ last_day L
  last_later = omega (arith, longer.later)

  tally_same : (sign : Sign) (day : ℕ) → day ≤ last_day S → tally sign L.leaps day ≡ tally sign S.leaps day
  tally_same sign day h =
      sym (tally_below sign S.expiry day L.leaps (omega (arith, expires_later S wS))) ∙ ap (λ ls. tally sign ls day) longer.same

  dtai_same : (day : ℕ) → day ≤ last_day S → dtai L day ≡ dtai S day
  dtai_same day h = rw (dtai_tallied L day, dtai_tallied S day, tally_same Positive day h, tally_same Negative day h)

  tai_same : (day t : ℕ) → day ≤ last_day S → tai L day t ≡ tai S day t
  unfolding tai
  tai_same day t h = rw (dtai_same day h)

  ending_earlier : (day : ℕ) → day < last_day S → ending L day ≡ ending S day
  ending_earlier day h = sym (ending_below S.expiry (day + 1) L.leaps (omega arith)) ∙ ap (λ ls. ending_before ls (day + 1)) longer.same

  -- where the last day is fully known, neither list has a leap at its end
  ending_same : (day : ℕ) → day < whole_to (last_day S) → ending L day ≡ ending S day
  ending_same day h =
      elim (dec_lt day (last_day S)) [
        | yes l ↦ ending_earlier day l
        | no l ↦
            let e : day ≡ last_day S = omega (arith, whole_near (last_day S)) in
            by_bool (fully_known (last_day S))
            (λ k. rw e (ending_known (last_day S) 0 L.leaps L.expiry k (parts L wL).gaps (parts L wL).end ∙ sym (ending_last S wS)))
            (λ k. absurd (omega (arith, whole_open (last_day S) k)))
      ]

  -- ---- the five questions

  later_dtai : (day : ℕ) → Later (dtai_on S day) (dtai_on L day)
  later_dtai day =
      later_pass (well_formed S) (well_formed L) not_well_formed wS wL
      (later_check (leb first_day day) before1972 λ _.
      later_known (known_date (last_day S) day) (known_date (last_day L) day) (given_open (dtai L day)) λ e.
      let h = leb-true day (last_day S) e in
      (le-leb day (last_day L) (omega (arith, last_later)), ap given (dtai_same day h)))

  -- the checks of an instant, and what comes after them
  later_instant : {A : Type 0} (limit cutoff day t : ℕ) {a a' : Answer A} → Open a' → (Sure (last_day S) cutoff day t → a' ≡ a)
      → Later (at_instant (well_formed S) (last_day S) limit cutoff day t a) (at_instant (well_formed L) (last_day L) limit cutoff day t a')
  later_instant limit cutoff day t o f =
      later_pass (well_formed S) (well_formed L) not_well_formed wS wL
      (later_check (leb first_day day) before1972 λ _.
      later_check (ltb t limit) no_instant λ _.
      later_known (known_to (last_day S) cutoff day t) (known_to (last_day L) cutoff day t) o λ e.
      let sure = known_sure (last_day S) cutoff day t e in
      (sure_known (sure_longer last_later sure), f sure))

  later_utc : {A : Type 0} (cutoff day t : ℕ) (v v' : A) → cutoff ≤ short_day → (day < whole_to (last_day S) → v' ≡ v) → (day ≤ last_day S → t < cutoff → v' ≡ v)
      → Later (at_utc (well_formed S) (last_day S) (ending S day) cutoff day t v) (at_utc (well_formed L) (last_day L) (ending L day) cutoff day t v')
  later_utc cutoff day t v v' small before on_last =
      later_instant long_day cutoff day t (instant_open (ltb t (day_length (ending L day))) v')
      (⊎_elim (λ (h : day < whole_to (last_day S)). rw (ending_same day h, before h))
      (λ (h : (day ≡ last_day S) × (t < cutoff)).
      rw (lt-ltb t (day_length (ending L day)) (omega (arith, length_least (ending L day))), lt-ltb t (day_length (ending S day)) (omega (arith, length_least (ending S day))))
      (ap given (on_last (omega arith) h.1))))

  later_tai : (day t : ℕ) → Later (utc_to_tai S day t) (utc_to_tai L day t)
  later_tai day t =
      later_utc tai_cutoff day t (tai S day t) (tai L day t) (omega arith) (λ h. tai_same day t (omega (arith, whole_near (last_day S)))) (λ h _. tai_same day t h)

  later_uts : (day t : ℕ) → Later (utc_to_uts S day t) (utc_to_uts L day t)
  later_uts day t =
      later_utc uts_cutoff day t (uts (ending S day) t) (uts (ending L day) t) (omega arith) (λ h. ap (λ w. uts w t) (ending_same day h))
      (λ _ h. uts_plain (ending L day) t (omega arith) ∙ sym (uts_plain (ending S day) t (omega arith)))

  later_back : (day u : ℕ) → Later (uts_to_utc S day u) (uts_to_utc L day u)
  later_back day u =
      later_instant nanos_per_day nanos_cutoff day u (given_open (utc_of (ending L day) u))
      (⊎_elim (λ (h : day < whole_to (last_day S)). rw (ending_same day h))
      (λ (h : (day ≡ last_day S) × (u < nanos_cutoff)). ap given (sym (back_plain (ending L day) u h.1) ∙ back_plain (ending S day) u h.1)))

  -- an instant that the shorter list knows has the same TAI under the longer
  instant_same : {x day t : ℕ} → Instant S x day t → Instant L x day t
  instant_same {x} {day} {t} i =
      record {
        from = i.from;
        is = i.is ∙ ap (λ y. y + t) (sym (tai_same day 0 (sure_through i.sure)));
        below =
            ⊎_elim (λ h. rw (ending_same day h) i.below)
            (λ (h : (day ≡ last_day S) × (t < tai_cutoff)). omega (arith, length_least (ending L day)))
            i.sure;
        sure = sure_longer last_later i.sure;
      }

  later_utc_of : (x : ℕ) → Later (tai_to_utc S x) (tai_to_utc L x)
  later_utc_of x =
      later_pass (well_formed S) (well_formed L) not_well_formed wS wL
      (later_check (leb first_tai x) before1972 λ p.
      later_known (known_tai S x) (known_tai L x) (given_open (record { day = day_of L x; micros = x - tai L (day_of L x) 0 })) λ e.
      let i = instant_same (instant_found S wS x (leb-true first_tai x p) (ltb-true x (tai_end S) e)) in
      (lt-ltb x (tai_end L) (instant_bounds L wL i).1, ap given (instant_value L wL i)))

  later_ask : (q : Question) → Later (ask S q) (ask L q)
  later_ask (ask_dtai day) = later_dtai day
  later_ask (ask_utc_to_tai day t) = later_tai day t
  later_ask (ask_tai_to_utc x) = later_utc_of x
  later_ask (ask_utc_to_uts day t) = later_uts day t
  later_ask (ask_uts_to_utc day u) = later_back day u

kept : {A : Type 0} {a a' : Answer A} → Later a a'
    → ((v : A) → a ≡ given v → a' ≡ given v) × (a ≡ refused before1972 → a' ≡ refused before1972) × (a ≡ refused no_instant → a' ≡ refused no_instant)
    × (a ≡ refused not_known → Open a')
kept (alike a) = (λ v e. e, λ e. e, λ e. e, λ e. inl e)
kept (opened a o) = (
  λ v e. let z : ◌≡◌ {A = ℕ} 0 1 = cc in absurd (omega arith),
  λ e. let z : not_known ≡ before1972 = cc in absurd (omega arith),
  λ e. let z : not_known ≡ no_instant = cc in absurd (omega arith),
  λ e. o,
)

-- a list that extends another keeps all its answers and its refusals 8 and 9, and refusal 10 stays or becomes an answer or 9
pub keeps : (longer shorter : Schedule) → Extends longer shorter → well_formed longer ≡ true → well_formed shorter ≡ true → (q : Question) → Kept longer shorter q
keeps L S x wL wS q =
    let k = kept (later_ask L S x wL wS q) in
    record { answer = k.0; refusal_8 = k.1; refusal_9 = k.2; refusal_10 = k.3 }
