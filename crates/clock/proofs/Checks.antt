-- The end of knowledge, and the checks of a question: what holds when all are passed.
-- Assumes nothing.
use mathlib.Core.Bool.{Bool, true, false, cond, ◌&&◌, ◌||◌, or-true, and-eq-true_iff}
use mathlib.Core.Logic.{◌⊎◌, inl, inr}
use mathlib.Core.Path.{◌≡◌, refl, sym, ap, ◌∙◌}
use Prim.Native.Nat.{ℕ, ◌+◌, ◌≤◌, ◌<◌}
use native.Mathlib.Decide.{dec_lt}
use native.Mathlib.Omega.{arith}
use lib.Dec.{leb, ltb, eqb}
use borrow.Author.Tests.{ltb-true, leb-true, eqb-true, lt-ltb, le-ltb, le-leb, eq-eqb, ne_eqb}
use Rattle.refusals.specs.Refusals.{before1972, no_instant, not_known, not_well_formed}
use Rattle.calendar.specs.Calendar.{first_day}
use Rattle.schedule.specs.Schedule.{Schedule, well_formed}
use Rattle.schedule.proofs.Cases.{by_bool}
use Rattle.clock.specs.Days.{long_day, ending, day_length}
use Rattle.clock.specs.Smoothed.{nanos_per_day}
use Rattle.clock.specs.Known.{last_day, fully_known, nanos_cutoff, known_to, known_date}
use Rattle.refusals.specs.Answer.{Answer, given, require, number}
use Rattle.clock.specs.Question.{at_date, at_instant, at_utc, at_uts}
use Rattle.clock.specs.Taken.{Within}
use Rattle.refusals.proofs.Checks.{pass, required, given_is, through}
use Rattle.clock.proofs.Tai.{length_most}

-- ---- the end of knowledge

-- the days before this one are fully known: those before the last, and the last too if it is
unfoldable pub whole_to : ℕ → ℕ
whole_to last = cond (fully_known last) (last + 1) last

pub whole_shut : (last : ℕ) → fully_known last ≡ true → whole_to last ≡ last + 1
unfolding whole_to
whole_shut last k = rw k

pub whole_open : (last : ℕ) → fully_known last ≡ false → whole_to last ≡ last
unfolding whole_to
whole_open last k = rw k

-- the days before the last are fully known, and none after it
pub whole_near : (last : ℕ) → (last ≤ whole_to last) × (whole_to last ≤ last + 1)
whole_near last =
    by_bool (fully_known last) (λ k. let e = whole_shut last k in (omega arith, omega arith)) (λ k. let e = whole_open last k in (omega arith, omega arith))

-- up to a later day as much is fully known, or more
pub whole_later : {last last' : ℕ} → last ≤ last' → whole_to last ≤ whole_to last'
whole_later {last} {last'} h =
    elim (dec_lt last last') [
      | yes l ↦ omega (arith, whole_near last, whole_near last')
      | no l ↦ let e : last ≡ last' = omega arith in omega (arith, ap whole_to e)
    ]

-- a time of a day is known on a day that is fully known, and on the last day below the cut-off
abbrev pub Sure : ℕ → ℕ → ℕ → ℕ → Type 0
Sure last cutoff day t = (day < whole_to last) ⊎ ((day ≡ last) × (t < cutoff))

-- the test says the same
known_is : (last cutoff day t : ℕ) → known_to last cutoff day t ≡ (ltb day (whole_to last) || (eqb day last && ltb t cutoff))
unfolding known_to
known_is last cutoff day t =
    by_bool (fully_known last)
    (λ k. rw (k, whole_shut last k)
    (elim (dec_lt day last) [
      | yes l ↦ rw (lt-ltb day last l, lt-ltb day (last + 1) (omega arith))
      | no l ↦
          elim (dec_lt last day) [
            | yes a ↦ rw (le-ltb day last (omega arith), le-ltb day (last + 1) (omega arith), ne_eqb day last (λ e. omega arith))
            | no a ↦ rw (le-ltb day last (omega arith), lt-ltb day (last + 1) (omega arith), eq-eqb day last (omega arith))
          ]
    ]))
    (λ k. rw (k, whole_open last k))

pub known_whole : (last cutoff day t : ℕ) → day < whole_to last → known_to last cutoff day t ≡ true
known_whole last cutoff day t h = known_is last cutoff day t ∙ rw (lt-ltb day (whole_to last) h)

pub known_before : (last cutoff day t : ℕ) → day < last → known_to last cutoff day t ≡ true
known_before last cutoff day t h = known_whole last cutoff day t (omega (arith, whole_near last))

pub known_last : (last cutoff day t : ℕ) → day ≡ last → fully_known last ≡ false → known_to last cutoff day t ≡ ltb t cutoff
known_last last cutoff day t h k = known_is last cutoff day t ∙ rw (le-ltb day (whole_to last) (omega (arith, whole_open last k)), eq-eqb day last h)

pub known_below : (last cutoff day t : ℕ) → day ≡ last → t < cutoff → known_to last cutoff day t ≡ true
known_below last cutoff day t h l = known_is last cutoff day t ∙ rw (eq-eqb day last h, lt-ltb t cutoff l) (or-true (ltb day (whole_to last)))

-- on the last day from the cut-off on: known where that day is fully known
pub known_from : (last cutoff day t : ℕ) → day ≡ last → cutoff ≤ t → known_to last cutoff day t ≡ fully_known last
known_from last cutoff day t h l =
    by_bool (fully_known last) (λ k. known_whole last cutoff day t (omega (arith, whole_shut last k)) ∙ sym k)
    (λ k. known_last last cutoff day t h k ∙ le-ltb t cutoff l ∙ sym k)

pub known_after : (last cutoff day t : ℕ) → last < day → known_to last cutoff day t ≡ false
known_after last cutoff day t h = known_is last cutoff day t ∙ rw (le-ltb day (whole_to last) (omega (arith, whole_near last)), ne_eqb day last (λ e. omega arith))

pub sure_known : {last cutoff day t : ℕ} → Sure last cutoff day t → known_to last cutoff day t ≡ true
sure_known {last} {cutoff} {day} {t} (inl h) = known_whole last cutoff day t h
sure_known {last} {cutoff} {day} {t} (inr h) = known_below last cutoff day t h.0 h.1

pub known_sure : (last cutoff day t : ℕ) → known_to last cutoff day t ≡ true → Sure last cutoff day t
known_sure last cutoff day t k = go (ltb day (whole_to last)) refl (sym (known_is last cutoff day t) ∙ k)
  where
    go : (b : Bool) → ltb day (whole_to last) ≡ b → (b || (eqb day last && ltb t cutoff)) ≡ true → Sure last cutoff day t
    go true e h = inl (ltb-true day (whole_to last) e)
    go false e h =
        let p = (and-eq-true_iff (eqb day last) (ltb t cutoff)).0 h in
        inr (eqb-true day last p.0, ltb-true t cutoff p.1)

pub sure_through : {last cutoff day t : ℕ} → Sure last cutoff day t → day ≤ last
sure_through {last} (inl h) = omega (arith, whole_near last)
sure_through (inr h) = omega arith

-- in the paper's words
pub sure_within : {last cutoff day t : ℕ} → Sure last cutoff day t → Within last cutoff day t
sure_within {last} {cutoff} {day} {t} (inl h) =
    elim (dec_lt day last) [
      | yes l ↦ inl l
      | no l ↦
          let e : day ≡ last = omega (arith, whole_near last) in
          by_bool (fully_known last) (λ k. inr (e, inl k)) (λ k. absurd (omega (arith, whole_open last k)))
    ]
sure_within (inr h) = inr (h.0, inr h.1)

pub within_sure : {last cutoff day t : ℕ} → Within last cutoff day t → Sure last cutoff day t
within_sure {last} (inl h) = inl (omega (arith, whole_near last))
within_sure {last} (inr (e, inl f)) = inl (omega (arith, whole_shut last f))
within_sure (inr (e, inr l)) = inr (e, l)

-- ---- all the checks of a question

-- what holds when a date is answered
pub record OnDate {A : Type 0} (s : Schedule) (day : ℕ) (v x : A) : Type 0 where
  pub well : well_formed s ≡ true
  pub from : first_day ≤ day
  pub through : day ≤ last_day s
  pub is : v ≡ x

pub on_date : {A : Type 0} (s : Schedule) (day : ℕ) (v x : A) → at_date (well_formed s) (last_day s) day v ≡ given x → OnDate s day v x
on_date s day v x h =
    let a = required (well_formed s) not_well_formed h in
    let b = required (leb first_day day) before1972 a.1 in
    let c = required (known_date (last_day s) day) not_known b.1 in
    record { well = a.0; from = leb-true first_day day b.0; through = leb-true day (last_day s) c.0; is = given_is c.1 }

-- what holds when an instant passes the checks that UTC and UTS share, and that it does then
pub record OnInstant (s : Schedule) (limit cutoff day t : ℕ) : Type 0 where
  pub well : well_formed s ≡ true
  pub from : first_day ≤ day
  pub below : t < limit
  pub sure : Sure (last_day s) cutoff day t

pub on_instant : {A : Type 0} {a : Answer A} {x : A} (s : Schedule) (limit cutoff day t : ℕ) → at_instant (well_formed s) (last_day s) limit cutoff day t a ≡ given x
    → OnInstant s limit cutoff day t × (a ≡ given x)
on_instant s limit cutoff day t h =
    let p = required (well_formed s) not_well_formed h in
    let q = required (leb first_day day) before1972 p.1 in
    let u = required (ltb t limit) no_instant q.1 in
    let v = required (known_to (last_day s) cutoff day t) not_known u.1 in (
      record { well = p.0; from = leb-true first_day day q.0; below = ltb-true t limit u.0; sure = known_sure (last_day s) cutoff day t v.0 },
      v.1,
    )

pub instant_passed : {A : Type 0} {a : Answer A} (s : Schedule) (limit cutoff day t : ℕ) → OnInstant s limit cutoff day t → at_instant (well_formed s) (last_day s) limit cutoff day t a ≡ a
instant_passed s limit cutoff day t on =
    pass not_well_formed on.well
    ∙ pass before1972 (le-leb first_day day on.from)
    ∙ pass no_instant (lt-ltb t limit on.below)
    ∙ pass not_known (sure_known on.sure)

-- what holds when an instant of UTC is answered, and that it is then
pub record OnUtc {A : Type 0} (s : Schedule) (cutoff day t : ℕ) (v x : A) : Type 0 where
  pub well : well_formed s ≡ true
  pub from : first_day ≤ day
  pub sure : Sure (last_day s) cutoff day t
  pub below : t < day_length (ending s day)
  pub is : v ≡ x

pub on_utc : {A : Type 0} (s : Schedule) (cutoff day t : ℕ) (v x : A) → at_utc (well_formed s) (last_day s) (ending s day) cutoff day t v ≡ given x → OnUtc s cutoff day t v x
on_utc s cutoff day t v x h =
    let p = on_instant s long_day cutoff day t h in
    let q = required (ltb t (day_length (ending s day))) no_instant p.1 in
    record { well = p.0.well; from = p.0.from; sure = p.0.sure; below = ltb-true t (day_length (ending s day)) q.0; is = given_is q.1 }

pub utc_answered : {A : Type 0} (s : Schedule) (cutoff day t : ℕ) (v : A) → well_formed s ≡ true → first_day ≤ day → Sure (last_day s) cutoff day t
    → t < day_length (ending s day) → at_utc (well_formed s) (last_day s) (ending s day) cutoff day t v ≡ given v
utc_answered s cutoff day t v w from sure below =
    instant_passed s long_day cutoff day t (record { well = w; from = from; below = omega (arith, length_most (ending s day)); sure = sure })
    ∙ pass no_instant (lt-ltb t (day_length (ending s day)) below)

-- what holds when an instant of UTS is answered
pub on_uts : {A : Type 0} (s : Schedule) (day u : ℕ) (v x : A) → at_uts (well_formed s) (last_day s) day u v ≡ given x → OnInstant s nanos_per_day nanos_cutoff day u × (v ≡ x)
on_uts s day u v x h = let p = on_instant s nanos_per_day nanos_cutoff day u h in (p.0, given_is p.1)

-- ---- the numbers

-- an instant of UTC is refused with at most 11
pub utc_number_lem : {A : Type 0} (s : Schedule) (cutoff day t : ℕ) (v : A) → number (at_utc (well_formed s) (last_day s) (ending s day) cutoff day t v) ≤ 11
utc_number_lem {A} s cutoff day t v =
    let length-left : Answer A = require (ltb t (day_length (ending s day))) no_instant (given v) in
    let known-left : Answer A = require (known_to (last_day s) cutoff day t) not_known length-left in
    let long-left : Answer A = require (ltb t long_day) no_instant known-left in
    let early-left : Answer A = require (leb first_day day) before1972 long-left in
    through (well_formed s) not_well_formed 11 early-left (omega arith)
    (through (leb first_day day) before1972 11 long-left (omega arith)
    (through (ltb t long_day) no_instant 11 known-left (omega arith)
    (through (known_to (last_day s) cutoff day t) not_known 11 length-left (omega arith)
    (through (ltb t (day_length (ending s day))) no_instant 11 (given v) (omega arith) (omega arith)))))
