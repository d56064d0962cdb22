-- "Well formed" and "extends" in the paper's words and numbers, by the month of the expiry day, and by the further leaps of a longer list.
-- Assumes nothing.
use Rattle.std.proofs.Common.{◌≡◌, ℕ, ◌+◌, ◌-◌, ◌<◌, ◌≤◌, true, false, ◌↔◌, List, [], ◌∷◌, ◌++◌, length, get_or, sym, refl, ap, ◌∙◌, arith, ltb-false, le-ltb, lt-ltb, le-leb, leb-true}
use Rattle.calendar.specs.Calendar.{starts_month}
use Rattle.calendar.proofs.Laws.{start_from, start_lt, start_le, month_most, month_started, starts_month_lem}
use Rattle.schedule.specs.Schedule.{Leap, Schedule, month_start, month_of, is_expired, gaps_fit, last_leap, rounded_down, leaves_gap, well_formed}
use Rattle.schedule.specs.WordLayout.{meant}
use Rattle.schedule.specs.Extends.{below, Extends}
use Rattle.schedule.specs.Rules.{Rise, WellFormed, AllFrom, ExtendsBy}
use Rattle.schedule.proofs.Cases.{by_bool}
use Rattle.schedule.proofs.Expired.{is_expired_lem, not_expired, expired_from}
use Rattle.schedule.proofs.Gaps.{fits_lt, fits_le, expiry_after, expiry_within, last_fits, first, later, before_end, parts}
use Rattle.schedule.proofs.Extension.{below_none}
use Rattle.schedule.proofs.ByNumber.{by_number, reached}
use Rattle.schedule.proofs.Rounded.{last_before}
use Rattle.schedule.proofs.Meant.{expiry_is}

-- ---- well formed

gaps_rise : (from : ℕ) (ls : List Leap) (e : ℕ) → gaps_fit from ls e ≡ true → Rise from ls
gaps_rise from [] e f = tt
gaps_rise from (l ∷ ls) e f =
    let g = first from l ls e f in
    (fits_lt from l.month g, omega (arith, fits_lt from l.month g, fits_le from l.month g), gaps_rise l.month ls e (later from l ls e f))

gaps_near : (from : ℕ) (ls : List Leap) (e : ℕ) → gaps_fit from ls e ≡ true → e ≤ 114_366 → month_of e - last_leap from ls ≤ 999
unfolding last_leap
gaps_near from [] e f h =
    let g = last_fits from e f in
    let a = expiry_after from e g in
    leb-true (month_of e - from) 999 (sym (by_number from e a h) ∙ lt-ltb e (month_start (from + 1000)) (expiry_within from e g))
gaps_near from (l ∷ ls) e f h = gaps_near l.month ls e (later from l ls e f) h

gaps_fit_lem : (from : ℕ) (ls : List Leap) (e : ℕ) → Rise from ls → month_start (last_leap from ls) < e → month_of e - last_leap from ls ≤ 999 → e ≤ 114_366
    → gaps_fit from ls e ≡ true
unfolding gaps_fit last_leap
gaps_fit_lem from [] e r a n h = rw (lt-ltb (month_start from) e a, by_number from e a h) (le-leb (month_of e - from) 999 n)
gaps_fit_lem from (l ∷ ls) e r a n h =
    simp (lt-ltb from l.month r.0, le-leb (l.month - from) 999 (omega (arith, r.1)), gaps_fit_lem l.month ls e r.2 a n h)

-- the test of a schedule passes exactly where the paper's conditions hold
pub well_formed_exactly : (s : Schedule) → (well_formed s ≡ true) ↔ WellFormed s
well_formed_exactly s = (
  λ w.
      let p = parts s w in
      record {
        few = p.room;
        rise = gaps_rise 0 s.leaps s.expiry p.gaps;
        after = last_before s.leaps 0 s.expiry p.gaps;
        near = gaps_near 0 s.leaps s.expiry p.gaps p.end;
        end = p.end;
      },
  λ f.
      simp (
        le-leb (length s.leaps) 256 f.few,
        le-leb s.expiry 114_366 f.end,
        gaps_fit_lem 0 s.leaps s.expiry f.rise f.after f.near f.end,
      ),
)

-- a schedule with a month's number in place of the expiry day is never well formed
pub month_refused : (s : Schedule) → s.expiry ≤ 2400 → well_formed s ≡ false
month_refused s h =
    by_bool (well_formed s) (λ w. absurd (omega (arith, start_from 0, before_end s.leaps 0 s.expiry (parts s w).gaps))) (λ f. f)

-- words that mean a well-formed schedule have its expiry day as their last, word 513
pub last_word : (words : List ℕ) → well_formed (meant words) ≡ true → (meant words).expiry ≡ get_or words 513 0
last_word words w = expiry_is words w

-- so words with a month's number there, as an older leap_schedule has, are never well formed
pub old_words : (words : List ℕ) → get_or words 513 0 ≤ 2400 → well_formed (meant words) ≡ false
old_words words h =
    by_bool (well_formed (meant words)) (λ w. month_refused (meant words) (omega (arith, last_word words w))) (λ f. f)

-- ---- rounding down

-- the schedule rounded down expires on the latest first of a month that is not after the expiry day
pub rounded_is_last : (s : Schedule) → well_formed s ≡ true
    → ((rounded_down s).expiry ≤ s.expiry) × (starts_month (rounded_down s).expiry ≡ true) × ((m : ℕ) → month_start m ≤ s.expiry → month_start m ≤ (rounded_down s).expiry)
rounded_is_last s w =
    let p = parts s w in (
      month_started s.expiry (omega (arith, start_from 0, before_end s.leaps 0 s.expiry p.gaps)),
      starts_month_lem (month_most s.expiry),
      λ m h. start_le (reached s.expiry p.end m h),
    )

-- of a well-formed schedule, rounding down leaves no gap exactly where the expiry day lies in the last leap's month (in month 0 if there is none)
pub no_gap_exactly : (s : Schedule) → well_formed s ≡ true → (leaves_gap s ≡ false) ↔ (month_of s.expiry ≡ last_leap 0 s.leaps)
no_gap_exactly s w =
    let p = parts s w in
    let most = reached s.expiry p.end (last_leap 0 s.leaps) (omega (arith, last_before s.leaps 0 s.expiry p.gaps)) in (
      λ f. omega (arith, ltb-false (last_leap 0 s.leaps) (month_of s.expiry) f),
      λ e. le-ltb (last_leap 0 s.leaps) (month_of s.expiry) (omega arith),
    )

-- ---- extends

-- leaps after a month that starts on the day or later
pub rising_from : (day from : ℕ) (ls : List Leap) (e : ℕ) → gaps_fit from ls e ≡ true → day ≤ month_start from → AllFrom day ls
rising_from day from [] e f h = tt
rising_from day from (l ∷ ls) e f h =
    let g = start_lt (fits_lt from l.month (first from l ls e f)) in
    (omega arith, rising_from day l.month ls e (later from l ls e f) (omega arith))

-- leaps in two parts, by a day
record Parted (day : ℕ) (ls : List Leap) : Type 0 where
  further : List Leap
  whole : ls ≡ below day ls ++ further
  from : AllFrom day further

part : (day from : ℕ) (ls : List Leap) (e : ℕ) → gaps_fit from ls e ≡ true → Parted day ls
unfolding below
part day from [] e f = record { further = []; whole = refl; from = tt }
part day from (l ∷ ls) e f =
    let more = later from l ls e f in
    let rest = part day l.month ls e more in
    by_bool (is_expired day l.month)
    (λ t.
    let h = expired_from day l.month t in
    record { further = l ∷ ls; whole = rw (t, below_none day l.month ls e more h); from = (h, rising_from day l.month ls e more h) })
    (λ n. record { further = rest.further; whole = rw n (ap (λ (xs : List Leap). l ∷ xs) rest.whole); from = rest.from })

none_from : (day : ℕ) (ls : List Leap) → AllFrom day ls → below day ls ≡ []
unfolding below
none_from day [] a = refl
none_from day (l ∷ ls) a = rw (is_expired_lem day l.month a.0) (none_from day ls a.1)

below_first : (day from : ℕ) (xs ys : List Leap) → gaps_fit from xs day ≡ true → AllFrom day ys → below day (xs ++ ys) ≡ xs
unfolding below
below_first day from [] ys f a = none_from day ys a
below_first day from (x ∷ xs) ys f a =
    let more = later from x xs day f in
    rw (not_expired day x.month (before_end xs x.month day more)) (ap (λ (zs : List Leap). x ∷ zs) (below_first day x.month xs ys more a))

-- a well-formed list extends another exactly in the paper's words
pub extends_exactly : (longer shorter : Schedule) → well_formed longer ≡ true → well_formed shorter ≡ true
    → Extends longer shorter ↔ ((further : List Leap) × ExtendsBy longer shorter further)
extends_exactly l s w w' = (
  λ x.
      let p = part s.expiry 0 l.leaps l.expiry (parts l w).gaps in
      (p.further, record { same = p.whole ∙ ap (λ (xs : List Leap). xs ++ p.further) x.same; from = p.from; later = x.later }),
  λ x.
      record {
        same = ap (below s.expiry) x.1.same ∙ below_first s.expiry 0 s.leaps x.0 (parts s w').gaps x.1.from;
        later = x.1.later;
      },
)
