-- The five questions in the paper's numbers: each is refused in the order that the paper has for it, and answered exactly where the paper says
-- that it is given.
-- Assumes nothing.
use Rattle.std.proofs.Common.{◌≡◌, ℕ, ◌+◌, ◌-◌, ◌<◌, ◌≤◌, Bool, true, false, ltb, leb, ◌⊎◌, ◌↔◌, ℤ, refl, ap, ◌∙◌, inl, inr, arith, le-ltb, lt-ltb, le-leb}
use native.Mathlib.Decide.{dec_lt}
use borrow.Author.Tests.{lt-leb}
use Rattle.refusals.specs.Answer.{Answer, given, require, number}
use Rattle.calendar.specs.Calendar.{first_day, month_of, starts_month}
use Rattle.calendar.proofs.Laws.{first_of, no_start}
use Rattle.schedule.specs.Schedule.{Schedule, well_formed}
use Rattle.schedule.proofs.Cases.{by_bool}
use Rattle.schedule.proofs.Gaps.{parts}
use Rattle.schedule.proofs.WordLayout.{within}
use Rattle.clock.specs.Days.{long_day, ending, day_length, dtai, tai}
use Rattle.clock.specs.Smoothed.{nanos_per_day, uts, utc_of}
use Rattle.clock.specs.Known.{last_day, tai_cutoff, uts_cutoff, nanos_cutoff, known_to, known_date, tai_end, known_tai}
use Rattle.clock.specs.Question.{Utc, first_tai, at_instant, at_utc, day_of, dtai_on, utc_to_tai, tai_to_utc, utc_to_uts, uts_to_utc, Question, ask_dtai, ask_utc_to_tai, ask_tai_to_utc, ask_utc_to_uts, ask_uts_to_utc, ask}
use Rattle.clock.specs.Rules.{RefusedIf, holds, fails, Gives, OnFirst, NotOnFirst, Known, Unknown, KnownTai, UnknownTai}
use Rattle.clock.proofs.Tai.{length_most, expires_later}
use Rattle.clock.proofs.Checks.{known_before, known_below, known_from, known_after}
use Rattle.clock.proofs.LastDay.{whole, cut, end_whole, end_cut}

-- ---- an order of refusals

-- a test tells whether Q holds or P
data Tells (b : Bool) (Q P : Type 0) : Type 0 where
  passed : b ≡ true → Q → Tells b Q P
  failed : b ≡ false → P → Tells b Q P

-- a check in its place
checked : {A : Type 0} {P Q : Type 0} {Next : Answer A → Type 0} (a : Answer A) (b : Bool) (n : ℕ) → Tells b Q P → (Q → P → ⊥) → (Q → Next a)
    → RefusedIf n P Next (require b n a)
checked a b n (passed e q) not_both next = rw e (fails (not_both q) (next q))
checked a b n (failed e p) not_both next = rw e (holds p refl)

tells_well : (b : Bool) → Tells b (b ≡ true) (b ≡ false)
tells_well true = passed refl refl
tells_well false = failed refl refl

tells_from : (m n : ℕ) → Tells (leb m n) (m ≤ n) (n < m)
tells_from m n =
    elim (dec_lt n m) [
      | yes l ↦ failed (lt-leb m n l) l
      | no l ↦ let h : m ≤ n = omega arith in passed (le-leb m n h) h
    ]

tells_below : (m n : ℕ) → Tells (ltb m n) (m < n) (n ≤ m)
tells_below m n =
    elim (dec_lt m n) [
      | yes l ↦ passed (lt-ltb m n l) l
      | no l ↦ let h : n ≤ m = omega arith in failed (le-ltb m n h) h
    ]

well_or_not : (b : Bool) → b ≡ true → b ≡ false → ⊥
well_or_not b p q = let z : ◌≡◌ {A = ℕ} 0 1 = cc in omega arith

-- ---- what a list does not know

apart : (s : Schedule) (cutoff day t : ℕ) → Known s cutoff day t → Unknown s cutoff day t → ⊥
apart s cutoff day t (inl h) (inl i) = omega arith
apart s cutoff day t (inl h) (inr i) = omega (arith, i.0)
apart s cutoff day t (inr h) (inl i) = omega (arith, h.0)
apart s cutoff day t (inr (e, inl l)) (inr i) = omega (arith, i.1)
apart s cutoff day t (inr (e, inr f)) (inr i) = f i.2.0 i.2.1

apart_tai : (s : Schedule) (x : ℕ) → KnownTai s x → UnknownTai s x → ⊥
apart_tai s x (inl h) (inl i) = omega (arith, h.1, i.1)
apart_tai s x (inl h) (inr i) = i.0 h.0.0 h.0.1
apart_tai s x (inr h) (inl i) = h.0 i.0.0 i.0.1
apart_tai s x (inr h) (inr i) = omega (arith, h.1, i.1)

module _ (s : Schedule) (w : well_formed s ≡ true) where
  first_or_not : OnFirst s ⊎ NotOnFirst s
  first_or_not =
      by_bool (starts_month s.expiry) (λ k. inl (month_of s.expiry, first_of k))
      (λ k. inr (λ m e. no_start k m (within m (omega (arith, (parts s w).end))) e))

  -- the tests say so
  tells_date : (day : ℕ) → Tells (known_date (last_day s) day) (day < s.expiry) (s.expiry ≤ day)
  tells_date day =
      elim (dec_lt day s.expiry) [
        | yes l ↦ passed (le-leb day (last_day s) (omega arith)) l
        | no l ↦ failed (lt-leb day (last_day s) (omega (arith, expires_later s w))) (omega arith)
      ]

  module _ (cutoff day t : ℕ) where
    tells_last : day + 1 ≡ s.expiry → cutoff ≤ t → OnFirst s ⊎ NotOnFirst s → Tells (known_to (last_day s) cutoff day t) (Known s cutoff day t) (Unknown s cutoff day t)
    tells_last e h (inl f) = failed (known_from (last_day s) cutoff day t (omega arith) h ∙ cut s w f.0 f.1) (inr (e, h, f))
    tells_last e h (inr f) = passed (known_from (last_day s) cutoff day t (omega arith) h ∙ whole s w f) (inr (e, inr f))

    tells_known : Tells (known_to (last_day s) cutoff day t) (Known s cutoff day t) (Unknown s cutoff day t)
    tells_known =
        elim (dec_lt (day + 1) s.expiry) [
          | yes l ↦ passed (known_before (last_day s) cutoff day t (omega arith)) (inl l)
          | no l ↦
              elim (dec_lt day s.expiry) [
                | yes r ↦
                    let e : day + 1 ≡ s.expiry = omega arith in
                    elim (dec_lt t cutoff) [
                      | yes q ↦ passed (known_below (last_day s) cutoff day t (omega arith) q) (inr (e, inl q))
                      | no q ↦ tells_last e (omega arith) first_or_not
                    ]
                | no r ↦ failed (known_after (last_day s) cutoff day t (omega (arith, expires_later s w))) (inl (omega arith))
              ]
        ]

  tells_tai : (x : ℕ) → OnFirst s ⊎ NotOnFirst s → Tells (ltb x (tai_end s)) (x < tai_end s) (tai_end s ≤ x) → Tells (known_tai s x) (KnownTai s x) (UnknownTai s x)
  tells_tai x (inl f) (passed e h) = passed e (inl (f, omega (arith, end_cut s w f.0 f.1)))
  tells_tai x (inl f) (failed e h) = failed e (inl (f, omega (arith, end_cut s w f.0 f.1)))
  tells_tai x (inr f) (passed e h) = passed e (inr (f, omega (arith, end_whole s w f)))
  tells_tai x (inr f) (failed e h) = failed e (inr (f, omega (arith, end_whole s w f)))

-- the checks of an instant, t into a day: the first four of UTC, and all of UTS
instant_order : {A : Type 0} {Next : Answer A → Type 0} (s : Schedule) (limit cutoff day t : ℕ) (a : Answer A) → Next a
    → RefusedIf 11 (well_formed s ≡ false)
    (RefusedIf 8 (day < 41_317)
    (RefusedIf 9 (limit ≤ t)
    (RefusedIf 10 (Unknown s cutoff day t) Next))) (at_instant (well_formed s) (last_day s) limit cutoff day t a)
instant_order s limit cutoff day t a next =
    checked _ (well_formed s) 11 (tells_well (well_formed s)) (well_or_not (well_formed s))
    (λ w. checked _ (leb first_day day) 8 (tells_from first_day day) (λ h i. omega arith)
    (λ from. checked _ (ltb t limit) 9 (tells_below t limit) (λ h i. omega arith)
    (λ below. checked a (known_to (last_day s) cutoff day t) 10 (tells_known s w cutoff day t) (apart s cutoff day t)
    (λ known. next))))

utc_order : {A : Type 0} (s : Schedule) (cutoff day t : ℕ) (v : A)
    → RefusedIf 11 (well_formed s ≡ false)
    (RefusedIf 8 (day < 41_317)
    (RefusedIf 9 (86_401_000_000 ≤ t)
    (RefusedIf 10 (Unknown s cutoff day t)
    (RefusedIf 9 (day_length (ending s day) ≤ t)
    (Gives v))))) (at_utc (well_formed s) (last_day s) (ending s day) cutoff day t v)
utc_order s cutoff day t v =
    let L = day_length (ending s day) in
    instant_order s long_day cutoff day t _ (checked (given v) (ltb t L) 9 (tells_below t L) (λ h i. omega arith) (λ below. refl))

-- ---- the order of each question

-- "For a date: 11, 8, 10"
pub dtai_order : (s : Schedule) (day : ℕ)
    → RefusedIf 11 (well_formed s ≡ false)
    (RefusedIf 8 (day < 41_317)
    (RefusedIf 10 (s.expiry ≤ day)
    (Gives (dtai s day)))) (dtai_on s day)
dtai_order s day =
    checked _ (well_formed s) 11 (tells_well (well_formed s)) (well_or_not (well_formed s))
    (λ w. checked _ (leb first_day day) 8 (tells_from first_day day) (λ h i. omega arith)
    (λ from. checked _ (known_date (last_day s) day) 10 (tells_date s w day) (λ h i. omega arith)
    (λ known. refl)))

-- "UTC instants: 11, 8, then 9 if t is 86,401,000,000 or more, 10, then 9 if t is L or more"
pub utc_to_tai_order : (s : Schedule) (day t : ℕ)
    → RefusedIf 11 (well_formed s ≡ false)
    (RefusedIf 8 (day < 41_317)
    (RefusedIf 9 (86_401_000_000 ≤ t)
    (RefusedIf 10 (Unknown s 86_399_000_000 day t)
    (RefusedIf 9 (day_length (ending s day) ≤ t)
    (Gives (tai s day t)))))) (utc_to_tai s day t)
utc_to_tai_order s day t = utc_order s tai_cutoff day t (tai s day t)

pub utc_to_uts_order : (s : Schedule) (day t : ℕ)
    → RefusedIf 11 (well_formed s ≡ false)
    (RefusedIf 8 (day < 41_317)
    (RefusedIf 9 (86_401_000_000 ≤ t)
    (RefusedIf 10 (Unknown s 85_399_000_000 day t)
    (RefusedIf 9 (day_length (ending s day) ≤ t)
    (Gives (uts (ending s day) t)))))) (utc_to_uts s day t)
utc_to_uts_order s day t = utc_order s uts_cutoff day t (uts (ending s day) t)

-- "UTS instants: 11, 8, 9 (86,400,000,000,000 or more), 10"
pub uts_to_utc_order : (s : Schedule) (day u : ℕ)
    → RefusedIf 11 (well_formed s ≡ false)
    (RefusedIf 8 (day < 41_317)
    (RefusedIf 9 (86_400_000_000_000 ≤ u)
    (RefusedIf 10 (Unknown s 85_399_000_000_000 day u)
    (Gives (utc_of (ending s day) u))))) (uts_to_utc s day u)
uts_to_utc_order s day u = instant_order s nanos_per_day nanos_cutoff day u _ refl

-- "TAI: 11, 8, 10"
pub tai_to_utc_order : (s : Schedule) (x : ℕ)
    → RefusedIf 11 (well_formed s ≡ false)
    (RefusedIf 8 (x < 10_000_000)
    (RefusedIf 10 (UnknownTai s x)
    (Gives (record { day = day_of s x; micros = x - tai s (day_of s x) 0 })))) (tai_to_utc s x)
tai_to_utc_order s x =
    checked _ (well_formed s) 11 (tells_well (well_formed s)) (well_or_not (well_formed s))
    (λ w. checked _ (leb first_tai x) 8 (tells_from first_tai x) (λ h i. omega arith)
    (λ from. checked _ (known_tai s x) 10 (tells_tai s w x (first_or_not s w) (tells_below x (tai_end s))) (apart_tai s x)
    (λ known. refl)))

-- ---- the numbers

-- 0, or 8 to 11
abbrev pub FromEight : ℕ → Type 0
FromEight n = (n ≡ 0) ⊎ ((8 ≤ n) × (n ≤ 11))

from_eight : {A : Type 0} {n : ℕ} {P : Type 0} {Next : Answer A → Type 0} (a : Answer A) → 8 ≤ n → n ≤ 11 → RefusedIf n P Next a
    → (Next a → FromEight (number a)) → FromEight (number a)
from_eight a low high (holds p e) next = inr (rw e (low, high))
from_eight a low high (fails f n) next = next n

utc_from_eight : {A : Type 0} (s : Schedule) (cutoff day t : ℕ) (v : A) → FromEight (number (at_utc (well_formed s) (last_day s) (ending s day) cutoff day t v))
utc_from_eight s cutoff day t v =
    let a = at_utc (well_formed s) (last_day s) (ending s day) cutoff day t v in
    from_eight a (omega arith) (omega arith) (utc_order s cutoff day t v)
    (λ b. from_eight a (omega arith) (omega arith) b
    (λ c. from_eight a (omega arith) (omega arith) c
    (λ d. from_eight a (omega arith) (omega arith) d
    (λ e. from_eight a (omega arith) (omega arith) e
    (λ g. inl (ap number g))))))

-- no question has a number above 11, nor one below 8 but 0
pub no_other_number : (s : Schedule) (q : Question) → FromEight (number (ask s q))
no_other_number s (ask_dtai day) =
    let a = dtai_on s day in
    from_eight a (omega arith) (omega arith) (dtai_order s day)
    (λ b. from_eight a (omega arith) (omega arith) b
    (λ c. from_eight a (omega arith) (omega arith) c
    (λ g. inl (ap number g))))
no_other_number s (ask_utc_to_tai day t) = utc_from_eight s tai_cutoff day t (tai s day t)
no_other_number s (ask_tai_to_utc x) =
    let a = tai_to_utc s x in
    from_eight a (omega arith) (omega arith) (tai_to_utc_order s x)
    (λ b. from_eight a (omega arith) (omega arith) b
    (λ c. from_eight a (omega arith) (omega arith) c
    (λ g. inl (ap number g))))
no_other_number s (ask_utc_to_uts day t) = utc_from_eight s uts_cutoff day t (uts (ending s day) t)
no_other_number s (ask_uts_to_utc day u) =
    let a = uts_to_utc s day u in
    from_eight a (omega arith) (omega arith) (uts_to_utc_order s day u)
    (λ b. from_eight a (omega arith) (omega arith) b
    (λ c. from_eight a (omega arith) (omega arith) c
    (λ d. from_eight a (omega arith) (omega arith) d
    (λ g. inl (ap number g)))))

-- ---- when each is answered

-- what is answered was not refused, and where nothing refuses it the next is said of it
module _ {A : Type 0} {n : ℕ} {P : Type 0} {Next : Answer A → Type 0} {a : Answer A} where
  not_refused : {x : A} → RefusedIf n P Next a → a ≡ given x → (P → ⊥) × Next a
  not_refused (holds p e) h = absurd (let z : ◌≡◌ {A = ℕ} 0 1 = cc in omega arith)
  not_refused (fails f next) h = (f, next)

  goes_on : RefusedIf n P Next a → (P → ⊥) → Next a
  goes_on (holds p e) f = absurd (f p)
  goes_on (fails g next) f = next

passes : {b : Bool} {Q P : Type 0} → Tells b Q P → (P → ⊥) → Q
passes (passed e q) f = q
passes (failed e p) f = absurd (f p)

-- the first four checks, passed
four_passed : {A : Type 0} {Next : Answer A → Type 0} {a : Answer A} {x : A} (s : Schedule) (limit cutoff day t : ℕ)
    → RefusedIf 11 (well_formed s ≡ false) (RefusedIf 8 (day < 41_317) (RefusedIf 9 (limit ≤ t) (RefusedIf 10 (Unknown s cutoff day t) Next))) a → a ≡ given x
    → ((well_formed s ≡ true) × (41_317 ≤ day) × (t < limit) × Known s cutoff day t) × Next a
four_passed s limit cutoff day t order h =
    let a = not_refused order h in
    let b = not_refused a.1 h in
    let c = not_refused b.1 h in
    let d = not_refused c.1 h in
    let w = passes (tells_well (well_formed s)) a.0 in
    ((w, passes (tells_from first_day day) b.0, passes (tells_below t limit) c.0, passes (tells_known s w cutoff day t) d.0), d.1)

four_next : {A : Type 0} {Next : Answer A → Type 0} {a : Answer A} (s : Schedule) (limit cutoff day t : ℕ)
    → RefusedIf 11 (well_formed s ≡ false) (RefusedIf 8 (day < 41_317) (RefusedIf 9 (limit ≤ t) (RefusedIf 10 (Unknown s cutoff day t) Next))) a
    → well_formed s ≡ true → 41_317 ≤ day → t < limit → Known s cutoff day t → Next a
four_next s limit cutoff day t order w from below known =
    goes_on (goes_on (goes_on (goes_on order (well_or_not (well_formed s) w)) (λ i. omega arith)) (λ i. omega arith)) (apart s cutoff day t known)

utc_answered : {A : Type 0} (s : Schedule) (cutoff day t : ℕ) (v : A)
    → ((x : A) × (at_utc (well_formed s) (last_day s) (ending s day) cutoff day t v ≡ given x))
    ↔ ((well_formed s ≡ true) × (41_317 ≤ day) × (t < day_length (ending s day)) × Known s cutoff day t)
utc_answered s cutoff day t v = (
  λ h.
      let a = four_passed s long_day cutoff day t (utc_order s cutoff day t v) h.1 in
      let b = not_refused a.1 h.1 in
      (a.0.0, a.0.1, passes (tells_below t (day_length (ending s day))) b.0, a.0.3),
  λ h.
      let below = h.2 in
      (v, goes_on (four_next s long_day cutoff day t (utc_order s cutoff day t v) h.0 h.1 (omega (arith, length_most (ending s day))) h.3) (λ i. omega arith)),
)

-- "DTAI is given through Z", the day before the expiry
pub dtai_given : (s : Schedule) (day : ℕ) → ((d : ℤ) × (dtai_on s day ≡ given d)) ↔ ((well_formed s ≡ true) × (41_317 ≤ day) × (day < s.expiry))
dtai_given s day = (
  λ h.
      let a = not_refused (dtai_order s day) h.1 in
      let b = not_refused a.1 h.1 in
      let c = not_refused b.1 h.1 in
      let w = passes (tells_well (well_formed s)) a.0 in
      (w, passes (tells_from first_day day) b.0, passes (tells_date s w day) c.0),
  λ h. (
    dtai s day,
    goes_on (goes_on (goes_on (dtai_order s day) (well_or_not (well_formed s) h.0)) (λ i. omega (arith, h.1))) (λ i. omega (arith, h.2)),
  ),
)

-- "TAI is given on Z below 86,399,000,000 microseconds"
pub utc_to_tai_given : (s : Schedule) (day t : ℕ) → ((x : ℕ) × (utc_to_tai s day t ≡ given x))
    ↔ ((well_formed s ≡ true) × (41_317 ≤ day) × (t < day_length (ending s day)) × Known s 86_399_000_000 day t)
utc_to_tai_given s day t = utc_answered s tai_cutoff day t (tai s day t)

-- "UTS on Z below 85,399,000,000 microseconds"
pub utc_to_uts_given : (s : Schedule) (day t : ℕ) → ((u : ℕ) × (utc_to_uts s day t ≡ given u))
    ↔ ((well_formed s ≡ true) × (41_317 ≤ day) × (t < day_length (ending s day)) × Known s 85_399_000_000 day t)
utc_to_uts_given s day t = utc_answered s uts_cutoff day t (uts (ending s day) t)

-- "(85,399,000,000,000 nanoseconds coming back)"
pub uts_to_utc_given : (s : Schedule) (day u : ℕ) → ((t : ℕ) × (uts_to_utc s day u ≡ given t))
    ↔ ((well_formed s ≡ true) × (41_317 ≤ day) × (u < 86_400_000_000_000) × Known s 85_399_000_000_000 day u)
uts_to_utc_given s day u = (
  λ h. (four_passed s nanos_per_day nanos_cutoff day u (uts_to_utc_order s day u) h.1).0,
  λ h. (utc_of (ending s day) u, four_next s nanos_per_day nanos_cutoff day u (uts_to_utc_order s day u) h.0 h.1 h.2 h.3),
)

-- "TAI to UTC is given below the TAI of Z at 86,399,000,000", or else it "goes to the end of that day"
pub tai_to_utc_given : (s : Schedule) (x : ℕ) → ((u : Utc) × (tai_to_utc s x ≡ given u)) ↔ ((well_formed s ≡ true) × (10_000_000 ≤ x) × KnownTai s x)
tai_to_utc_given s x = (
  λ h.
      let a = not_refused (tai_to_utc_order s x) h.1 in
      let b = not_refused a.1 h.1 in
      let c = not_refused b.1 h.1 in
      let w = passes (tells_well (well_formed s)) a.0 in
      (w, passes (tells_from first_tai x) b.0, passes (tells_tai s w x (first_or_not s w) (tells_below x (tai_end s))) c.0),
  λ h. (
    record { day = day_of s x; micros = x - tai s (day_of s x) 0 },
    goes_on (goes_on (goes_on (tai_to_utc_order s x) (well_or_not (well_formed s) h.0)) (λ i. omega (arith, h.1))) (apart_tai s x h.2),
  ),
)
