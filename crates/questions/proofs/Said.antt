-- What is answered by what a schedule says of a day is what the schedule answers.
-- Assumes nothing.
use Rattle.std.proofs.Common.{◌≡◌, ℕ, ◌+◌, ◌-◌, ◌*◌, ◌/◌, ◌<◌, ◌≤◌, min, true, false, cond, ltb, leb, List, sym, refl, ap, subst, ◌∙◌, ap₂, arith, ltb-true, lt-ltb, le-leb, leb-true}
use Rattle.refusals.specs.Refusals.{before1972, no_instant, not_known, not_well_formed}
use Rattle.calendar.specs.Calendar.{first_day, end_day}
use Rattle.schedule.specs.Schedule.{Schedule, well_formed}
use Rattle.schedule.specs.WordLayout.{meant}
use Rattle.schedule.proofs.Cases.{by_bool}
use Rattle.clock.specs.declared.Ending.{Ending}
use Rattle.clock.specs.Days.{long_day, short_day, dtai, ending, day_length, tai}
use Rattle.clock.specs.Smoothed.{nanos_per_day, uts, utc_of}
use Rattle.clock.specs.Known.{last_day, tai_cutoff, uts_cutoff, nanos_cutoff, known_to}
use Rattle.refusals.specs.Answer.{Answer, given, refused, require}
use Rattle.clock.specs.Question.{first_tai, Utc, at_date, at_instant, dtai_on, utc_to_tai, tai_to_utc, utc_to_uts, uts_to_utc}
use Rattle.clock.proofs.Tai.{length_least, last_inside}
use Rattle.clock.proofs.Uts.{uts_plain}
use Rattle.clock.proofs.Back.{back_plain}
use Rattle.refusals.proofs.Checks.{pass, stop, required, given_is, same_check}
use Rattle.clock.proofs.Checks.{known_sure, sure_through}
use Rattle.questions.specs.declared.by_day.Day.{Day}
use Rattle.questions.specs.Said.{dtai_said, ListSaid, ListFor, list_said, no_list, DaySaid, DayFor, day_said, no_day, held, tai_said, dtai_by, tai_by, uts_by, early_uts, micros_by, early_micros, near_day, on_day, from_start, utc_by}
use Rattle.questions.proofs.Checked.{known_on_date, early_as_date, early_utc}
use Rattle.questions.proofs.Exact.{held_exact, tai_held}
use Rattle.questions.proofs.Near.{near_from, near_begun, from_near}

-- ---- the checks

module _ {s : Schedule} {last : ℕ} (f : ListSaid s last) where
  same_date : {A : Type 0} (day : ℕ) (v v' : A) → (first_day ≤ day → day ≤ last_day s → v ≡ v')
      → at_date true last day v ≡ at_date (well_formed s) (last_day s) day v'
  same_date day v v' e =
      same_check (well_formed s) not_well_formed (sym f.well) λ _.
      same_check (leb first_day day) before1972 refl λ p.
      same_check (leb day (last_day s)) not_known (ap (λ Z. leb day Z) f.is_last) λ q.
      ap given (e (leb-true first_day day p) (leb-true day (last_day s) q))

  same_instant : {A : Type 0} (limit cutoff day t : ℕ) (a a' : Answer A) → (first_day ≤ day → day ≤ last_day s → a ≡ a')
      → at_instant true last limit cutoff day t a ≡ at_instant (well_formed s) (last_day s) limit cutoff day t a'
  same_instant limit cutoff day t a a' e =
      same_check (well_formed s) not_well_formed (sym f.well) λ _.
      same_check (leb first_day day) before1972 refl λ p.
      same_check (ltb t limit) no_instant refl λ _.
      same_check (known_to (last_day s) cutoff day t) not_known (ap (λ Z. known_to Z cutoff day t) f.is_last) λ q.
      e (leb-true first_day day p) (sure_through (known_sure (last_day s) cutoff day t q))

-- ---- the questions, by what is said of the day

module _ {s : Schedule} {day : ℕ} {k : Day} (f : DaySaid s day k) where
  pub dtai_of_day : dtai_by (given k) day ≡ dtai_on s day
  dtai_of_day = same_date f.list day (dtai_said k) (dtai s day) (λ p q. (f.is p q).offset)

  pub tai_of_day : (t : ℕ) → tai_by (given k) day t ≡ utc_to_tai s day t
  tai_of_day t =
      -- a list ends within the calendar
      pass not_well_formed (lt-ltb k.last end_day (omega (arith, f.list.is_last, last_inside s f.list.well)))
      ∙ same_instant f.list long_day tai_cutoff day t _ _
      (λ p q.
      let is = f.is p q in
      ap (λ (e : Ending). require (ltb t (day_length e)) no_instant (given (tai_said k day t))) is.ends
      ∙ same_check (ltb t (day_length (ending s day))) no_instant refl (λ _. ap given (tai_held s f.list.well day t p k is.offset)))

  pub uts_of_day : (t : ℕ) → uts_by (given k) day t ≡ utc_to_uts s day t
  uts_of_day t =
      same_instant f.list long_day uts_cutoff day t _ _
      (λ p q. ap (λ (e : Ending). require (ltb t (day_length e)) no_instant (given (uts e t))) (f.is p q).ends)

  pub micros_of_day : (u : ℕ) → micros_by (given k) day u ≡ uts_to_utc s day u
  micros_of_day u = same_instant f.list nanos_per_day nanos_cutoff day u _ _ (λ p q. ap (λ (e : Ending). given (utc_of e u)) (f.is p q).ends)

-- before the last 1,001 s of a day it does not matter how the day ends
module _ {s : Schedule} {last : ℕ} (f : ListSaid s last) (day : ℕ) where
  pub early_uts_of_list : (t : ℕ) → t < uts_cutoff → early_uts (given last) day t ≡ utc_to_uts s day t
  early_uts_of_list t h =
      same_date f day (1000 * min t uts_cutoff) (uts (ending s day) t) (λ _ _. omega arith ∙ sym (uts_plain (ending s day) t (omega arith)))
      ∙ sym (early_utc (uts (ending s day) t) (well_formed s) (last_day s) (ending s day) uts_cutoff day t (omega arith) h)

  pub early_micros_of_list : (u : ℕ) → u < nanos_cutoff → early_micros (given last) day u ≡ uts_to_utc s day u
  early_micros_of_list u h =
      same_date f day (u / 1000) (utc_of (ending s day) u) (λ _ _. back_plain (ending s day) u h)
      ∙ sym (early_as_date (utc_of (ending s day) u) (well_formed s) (last_day s) nanos_per_day nanos_cutoff day u (omega arith) h)

-- TAI to UTC, by the day near it
abbrev within : ℕ → Ending → ℕ → ℕ → Answer Utc
within day e Z t = cond (ltb t (day_length e)) (on_day day t Z) (on_day (day + 1) (t - day_length e) Z)

-- the first 86,399 s of a day are its own, and known
from_start_lem : (k : Day) (day t : ℕ) → day ≤ k.last → from_start k day t ≡ within day k.ending k.last t
from_start_lem k day t h =
    by_bool (ltb t short_day)
    (λ e.
    let early = ltb-true t short_day e in
    rw (e, lt-ltb t (day_length k.ending) (omega (arith, length_least k.ending)))
    (sym (pass not_known (known_on_date k.last tai_cutoff day t (omega arith) ∙ le-leb day k.last h))))
    (λ e. rw e)

pub utc_of_day : {s : Schedule} {near last : ℕ} {k : Day} (x : ℕ) → DaySaid s near k → last ≡ last_day s → near ≡ near_day x last → utc_by (given k) near x ≡ tai_to_utc s x
utc_of_day {s} {near} {last} {k} x f e m =
    let w = f.list.well in
    let n : near ≡ near_day x (last_day s) = m ∙ ap (λ Z. near_day x Z) e in
    same_check (well_formed s) not_well_formed (sym w) λ _.
    same_check (leb first_tai x) before1972 refl λ p.
    let enough = leb-true first_tai x p in
    let from = near_from s w x enough near n in
    let through : near ≤ last_day s = omega (arith, n) in
    let is = f.is from through in
    let start : tai_said k near 0 ≡ tai s near 0 = tai_held s w near 0 from k is.offset in
    let since : held x (tai_said k near 0) ≡ x - tai s near 0 = ap (λ b. held x b) start ∙ held_exact x (tai s near 0) (near_begun s w x enough near n) in
    pass not_known (lt-ltb near end_day (omega (arith, last_inside s w)))
    ∙ from_start_lem k near (held x (tai_said k near 0)) (omega arith)
    ∙ ap₂ (λ (e : Ending) (Z : ℕ). within near e Z (held x (tai_said k near 0))) is.ends f.list.is_last
    ∙ ap (λ t. within near (ending s near) (last_day s) t) since
    ∙ from_near s w x enough near n
    ∙ pass not_well_formed w
    ∙ pass before1972 p

-- ---- under any schedule: words that are no list are refused with 11

pub dtai_said_lem : {s : Schedule} {day : ℕ} {said : Answer Day} → DayFor s day said → dtai_by said day ≡ dtai_on s day
dtai_said_lem (day_said f) = dtai_of_day f
dtai_said_lem (no_day w) = sym (stop _ not_well_formed w)

pub tai_said_lem : {s : Schedule} {day : ℕ} {said : Answer Day} → DayFor s day said → (t : ℕ) → tai_by said day t ≡ utc_to_tai s day t
tai_said_lem (day_said f) t = tai_of_day f t
tai_said_lem (no_day w) t = sym (stop _ not_well_formed w)

pub uts_said : {s : Schedule} {day : ℕ} {said : Answer Day} → DayFor s day said → (t : ℕ) → uts_by said day t ≡ utc_to_uts s day t
uts_said (day_said f) t = uts_of_day f t
uts_said (no_day w) t = sym (stop _ not_well_formed w)

pub micros_said : {s : Schedule} {day : ℕ} {said : Answer Day} → DayFor s day said → (u : ℕ) → micros_by said day u ≡ uts_to_utc s day u
micros_said (day_said f) u = micros_of_day f u
micros_said (no_day w) u = sym (stop _ not_well_formed w)

pub early_uts_said : {s : Schedule} {said : Answer ℕ} → ListFor s said → (day t : ℕ) → t < uts_cutoff → early_uts said day t ≡ utc_to_uts s day t
early_uts_said (list_said f) day t h = early_uts_of_list f day t h
early_uts_said (no_list w) day t h = sym (stop _ not_well_formed w)

pub early_micros_said : {s : Schedule} {said : Answer ℕ} → ListFor s said → (day u : ℕ) → u < nanos_cutoff → early_micros said day u ≡ uts_to_utc s day u
early_micros_said (list_said f) day u h = early_micros_of_list f day u h
early_micros_said (no_list w) day u h = sym (stop _ not_well_formed w)

pub utc_said : {s : Schedule} {near : ℕ} {said : Answer Day} (x : ℕ) → DayFor s near said → (well_formed s ≡ true → near ≡ near_day x (last_day s)) → utc_by said near x ≡ tai_to_utc s x
utc_said x (day_said f) m = utc_of_day x f refl (m f.list.well)
utc_said x (no_day w) m = sym (stop _ not_well_formed w)

-- ---- what words say

-- words that are refused are no list, and the number is 11
not_list : {A : Type 0} (s : Schedule) {n : ℕ} (x : A) → refused n ≡ require (well_formed s) not_well_formed (given x) → (well_formed s ≡ false) × (n ≡ not_well_formed)
not_list s x e =
    by_bool (well_formed s) (λ w. let f = rw w at e in absurd (let z : ◌≡◌ {A = ℕ} 0 1 = cc in omega arith)) (λ w. let f = rw w at e in (w, cc))

pub no_day_of : {A : Type 0} (s : Schedule) (day : ℕ) {n : ℕ} (x : A) → refused n ≡ require (well_formed s) not_well_formed (given x) → DayFor s day (refused n)
no_day_of s day x e = let no = not_list s x e in rw no.1 (no_day no.0)

pub no_list_of : {A : Type 0} (s : Schedule) {n : ℕ} (x : A) → refused n ≡ require (well_formed s) not_well_formed (given x) → ListFor s (refused n)
no_list_of s x e = let no = not_list s x e in rw no.1 (no_list no.0)

-- words that are taken mean what was taken
same_words : {words taken : List ℕ} → given taken ≡ require (well_formed (meant words)) not_well_formed (given words) → taken ≡ words
same_words {words} e = given_is (sym (required (well_formed (meant words)) not_well_formed (sym e)).1)

pub day_of_words : (words : List ℕ) {taken : List ℕ} (day : ℕ) {k : Day} → given taken ≡ require (well_formed (meant words)) not_well_formed (given words)
    → DaySaid (meant taken) day k → DayFor (meant words) day (given k)
day_of_words words day {k} e f = subst (λ (ws : List ℕ). DayFor (meant ws) day (given k)) (same_words {words = words} e) (day_said f)

pub list_of_words : (words : List ℕ) {taken : List ℕ} {last : ℕ} → given taken ≡ require (well_formed (meant words)) not_well_formed (given words)
    → last ≡ last_day (meant taken) → well_formed (meant taken) ≡ true → ListFor (meant words) (given last)
list_of_words words {last = last} e z w = subst (λ (ws : List ℕ). ListFor (meant ws) (given last)) (same_words {words = words} e) (list_said (record { well = w; is_last = z }))
