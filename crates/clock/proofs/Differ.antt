-- Demand 3, two lists: no question gets two different answers exactly when one extends the other; else some date has two DTAI.
-- Assumes nothing.
use mathlib.Core.Bool.{true, ◌&&◌}
use mathlib.Core.List.{List, [], ◌∷◌}
use mathlib.Core.Logic.{◌⊎◌, inl, inr, ⊎_elim, ◌≢◌, ◌↔◌}
use mathlib.Core.Path.{◌≡◌, refl, sym, ap, ◌∙◌, subst}
use Prim.Native.Nat.{ℕ, ◌+◌, ◌≤◌, ◌<◌}
use native.Mathlib.Decide.{dec_lt}
use native.Mathlib.Omega.{arith}
use borrow.Author.Tests.{le-leb}
use Rattle.refusals.specs.Refusals.{before1972, not_known, not_well_formed}
use Rattle.calendar.specs.Calendar.{first_day, month_start}
use Rattle.calendar.proofs.Laws.{start_zero, start_lt}
use Rattle.schedule.specs.declared.Sign.{Sign}
use Rattle.schedule.specs.declared.Sign.TheVariants.{Positive, Negative}
use Rattle.schedule.specs.declared.Leap.{Leap}
use Rattle.schedule.specs.Schedule.{Schedule, gaps_fit, well_formed}
use Rattle.schedule.specs.Extends.{same_sign, below, Extends}
use Rattle.schedule.proofs.Gaps.{fits_lt, first, later, before_end, parts}
use Rattle.schedule.proofs.Expired.{is_expired_lem, not_expired}
use Rattle.schedule.proofs.Extension.{below_none}
use Rattle.clock.specs.Days.{first_dtai, dtai}
use Rattle.clock.proofs.Tally.{count, tally}
use Rattle.clock.proofs.Tallied.{minus_same, dtai_tallied}
use Rattle.clock.specs.Known.{last_day}
use Rattle.refusals.specs.Answer.{given}
use Rattle.clock.specs.Question.{ask_dtai, ask}
use Rattle.clock.specs.Lists.{Agreed, Parted}
use Rattle.clock.proofs.Leaps.{not_yet, tally_none}
use Rattle.refusals.proofs.Checks.{pass, given_is}
use Rattle.clock.proofs.Agree.{keeps}

-- ---- the tallies on the day of a list's first leap

tally_now : (sign : Sign) (from : ℕ) (l : Leap) (ls : List Leap) (e : ℕ) → gaps_fit from (l ∷ ls) e ≡ true
    → tally sign (l ∷ ls) (month_start l.month) ≡ count (same_sign sign l.sign && true)
tally_now sign from l ls e h =
    rw (le-leb (month_start l.month) (month_start l.month) (omega arith))
    (omega (arith, tally_none sign l.month ls e (month_start l.month) (later from l ls e h) (omega arith)))

tally_before : (sign : Sign) (from : ℕ) (l : Leap) (ls : List Leap) (e day : ℕ) → gaps_fit from (l ∷ ls) e ≡ true → day < month_start l.month → tally sign (l ∷ ls) day ≡ 0
tally_before sign from l ls e day h i = omega (arith, not_yet sign l day i, tally_none sign l.month ls e day (later from l ls e h) (omega arith))

-- ---- two lists of leaps after one month, compared

-- a day before both expiries on which the two DTAI differ
record Apart (from : ℕ) (xs ys : List Leap) (e f : ℕ) : Type 0 where
  day : ℕ
  after : month_start from ≤ day
  before : day < e
  before' : day < f
  apart : tally Positive xs day + tally Negative ys day ≢ tally Positive ys day + tally Negative xs day

swap : {from : ℕ} {xs ys : List Leap} {e f : ℕ} → Apart from xs ys e f → Apart from ys xs f e
swap r = record { day = r.day; after = r.after; before = r.before'; before' = r.before; apart = λ z. r.apart (sym z) }

-- the first list has a leap on a day on which the other has none yet
alone : (from : ℕ) (l : Leap) (ls ys : List Leap) (e f : ℕ) → gaps_fit from (l ∷ ls) e ≡ true → month_start l.month < f
    → ((sign : Sign) → tally sign ys (month_start l.month) ≡ 0) → Apart from (l ∷ ls) ys e f
alone from l ls ys e f h i none =
    record {
      day = month_start l.month;
      after = omega (arith, start_lt (fits_lt from l.month (first from l ls e h)));
      before = before_end ls l.month e (later from l ls e h);
      before' = i;
      apart = ones l.sign (tally_now Positive from l ls e h) (tally_now Negative from l ls e h);
    }
  where
    ones : (g : Sign) → tally Positive (l ∷ ls) (month_start l.month) ≡ count (same_sign Positive g && true)
        → tally Negative (l ∷ ls) (month_start l.month) ≡ count (same_sign Negative g && true)
        → tally Positive (l ∷ ls) (month_start l.month) + tally Negative ys (month_start l.month) ≢ tally Positive ys (month_start l.month) + tally Negative (l ∷ ls) (month_start l.month)
    ones Positive p q = omega (arith, none Positive, none Negative)
    ones Negative p q = omega (arith, none Positive, none Negative)

-- the leaps below the one expiry are the other list, or the other way round, or the two are apart
Outcome : ℕ → List Leap → List Leap → ℕ → ℕ → Type 0
Outcome from xs ys e f = ((below e ys ≡ xs) × (e ≤ f)) ⊎ (((below f xs ≡ ys) × (f ≤ e)) ⊎ Apart from xs ys e f)

-- a common first leap
common : (from : ℕ) (a : Leap) (xs ys : List Leap) (e f : ℕ) → gaps_fit from (a ∷ xs) e ≡ true → gaps_fit from (a ∷ ys) f ≡ true
    → Outcome a.month xs ys e f → Outcome from (a ∷ xs) (a ∷ ys) e f
unfolding Outcome below
common from a xs ys e f g h (inl p) =
    inl (rw (not_expired e a.month (before_end xs a.month e (later from a xs e g))) (ap (λ zs. a ∷ zs) p.0), p.1)
common from a xs ys e f g h (inr (inl p)) =
    inr (inl (rw (not_expired f a.month (before_end ys a.month f (later from a ys f h))) (ap (λ zs. a ∷ zs) p.0), p.1))
common from a xs ys e f g h (inr (inr r)) =
    inr (inr (record {
      day = r.day;
      after = omega (arith, r.after, start_lt (fits_lt from a.month (first from a xs e g)));
      before = r.before;
      before' = r.before';
      apart = λ z. r.apart (omega arith);
    }))

-- first leaps of one month
meet : (from : ℕ) (a b : Leap) (xs ys : List Leap) (e f : ℕ) → gaps_fit from (a ∷ xs) e ≡ true → gaps_fit from (b ∷ ys) f ≡ true
    → b.month ≡ a.month → Outcome a.month xs ys e f → Outcome from (a ∷ xs) (b ∷ ys) e f
unfolding Outcome
meet from a b xs ys e f g h z o = go a.sign b.sign refl refl
  where
    d : ℕ
    d = month_start a.month

    same : a.sign ≡ b.sign → Outcome from (a ∷ xs) (b ∷ ys) e f
    same p =
        let k : b ≡ a = λ i. record { month = z i; sign = sym p i } in
        rw k (common from a xs ys e f g (rw k at h) o)

    differ : tally Positive (a ∷ xs) d + tally Negative (b ∷ ys) d ≢ tally Positive (b ∷ ys) d + tally Negative (a ∷ xs) d → Outcome from (a ∷ xs) (b ∷ ys) e f
    differ n =
        inr (inr (record {
          day = d;
          after = omega (arith, start_lt (fits_lt from a.month (first from a xs e g)));
          before = before_end xs a.month e (later from a xs e g);
          before' = omega (arith, before_end ys b.month f (later from b ys f h), ap month_start z);
          apart = n;
        }))

    left : (sign k : Sign) → a.sign ≡ k → tally sign (a ∷ xs) d ≡ count (same_sign sign k && true)
    left sign k p = tally_now sign from a xs e g ∙ ap (λ u. count (same_sign sign u && true)) p

    right : (sign k : Sign) → b.sign ≡ k → tally sign (b ∷ ys) d ≡ count (same_sign sign k && true)
    right sign k p =
        subst (λ (m : ℕ). tally sign (b ∷ ys) (month_start m) ≡ count (same_sign sign b.sign && true)) z (tally_now sign from b ys f h)
        ∙ ap (λ u. count (same_sign sign u && true)) p

    go : (p q : Sign) → a.sign ≡ p → b.sign ≡ q → Outcome from (a ∷ xs) (b ∷ ys) e f
    go Positive Positive p q = same (p ∙ sym q)
    go Negative Negative p q = same (p ∙ sym q)
    go Positive Negative p q =
        differ (omega (arith, left Positive Positive p, left Negative Positive p, right Positive Negative q, right Negative Negative q))
    go Negative Positive p q =
        differ (omega (arith, left Positive Negative p, left Negative Negative p, right Positive Positive q, right Negative Positive q))

compare : (from : ℕ) (xs ys : List Leap) (e f : ℕ) → gaps_fit from xs e ≡ true → gaps_fit from ys f ≡ true → Outcome from xs ys e f
unfolding Outcome below
compare from [] [] e f g h = elim (dec_lt e f) [ yes l ↦ inl (refl, omega arith) | no l ↦ inr (inl (refl, omega arith)) ]
compare from [] (b ∷ ys) e f g h =
    let z = later from b ys f h in
    elim (dec_lt (month_start b.month) e) [
      | yes l ↦ inr (inr (swap (alone from b ys [] f e h l (λ sign. refl))))
      | no l ↦
          inl (rw (is_expired_lem e b.month (omega arith)) (below_none e b.month ys f z (omega arith)), omega (arith, before_end ys b.month f z))
    ]
compare from (a ∷ xs) [] e f g h =
    let z = later from a xs e g in
    elim (dec_lt (month_start a.month) f) [
      | yes l ↦ inr (inr (alone from a xs [] e f g l (λ sign. refl)))
      | no l ↦
          inr (inl (rw (is_expired_lem f a.month (omega arith)) (below_none f a.month xs e z (omega arith)), omega (arith, before_end xs a.month e z)))
    ]
compare from (a ∷ xs) (b ∷ ys) e f g h =
    let more = later from a xs e g in
    let more' = later from b ys f h in
    elim (dec_lt a.month b.month) [
      | yes l ↦
          inr (inr (alone from a xs (b ∷ ys) e f g (omega (arith, start_lt l, before_end ys b.month f more'))
          (λ sign. tally_before sign from b ys f (month_start a.month) h (start_lt l))))
      | no l ↦
          elim (dec_lt b.month a.month) [
            | yes m ↦
                inr (inr (swap (alone from b ys (a ∷ xs) f e h (omega (arith, start_lt m, before_end xs a.month e more))
                (λ sign. tally_before sign from a xs e (month_start b.month) g (start_lt m)))))
            | no m ↦ let z : b.month ≡ a.month = omega arith in meet from a b xs ys e f g h z (compare a.month xs ys e f more (rw z at more'))
          ]
    ]

-- ---- two schedules

dtai_given : (s : Schedule) (day : ℕ) → well_formed s ≡ true → first_day ≤ day → day < s.expiry → ask s (ask_dtai day) ≡ given (dtai s day)
dtai_given s day w h i = pass not_well_formed w ∙ pass before1972 (le-leb first_day day h) ∙ pass not_known (le-leb day (last_day s) (omega arith))

extends_or_parted : (s s' : Schedule) → well_formed s ≡ true → well_formed s' ≡ true → Extends s' s ⊎ (Extends s s' ⊎ Parted s s')
unfolding Outcome
extends_or_parted s s' w w' = go (compare 0 s.leaps s'.leaps s.expiry s'.expiry (parts s w).gaps (parts s' w').gaps)
  where
    go : Outcome 0 s.leaps s'.leaps s.expiry s'.expiry → Extends s' s ⊎ (Extends s s' ⊎ Parted s s')
    go (inl p) = inl (record { same = p.0; later = p.1 })
    go (inr (inl p)) = inr (inl (record { same = p.0; later = p.1 }))
    go (inr (inr r)) =
        let from : first_day ≤ r.day = omega (arith, start_zero, r.after) in
        inr (inr (record {
          day = r.day;
          dtai₁ = dtai s r.day;
          dtai₂ = dtai s' r.day;
          first = dtai_given s r.day w from r.before;
          second = dtai_given s' r.day w' from r.before';
          differ = λ e. r.apart
              (omega (arith, minus_same (first_dtai + tally Positive s.leaps r.day) (tally Negative s.leaps r.day) (first_dtai + tally Positive s'.leaps r.day) (tally Negative s'.leaps r.day) (sym (dtai_tallied s r.day) ∙ e ∙ dtai_tallied s' r.day)));
        }))

not_parted : (s s' : Schedule) → Agreed s s' → Parted s s' → ⊥
not_parted s s' a d = d.differ (a (ask_dtai d.day) d.dtai₁ d.dtai₂ d.first d.second)

-- no question gets two different answers exactly when one list extends the other
pub agree_iff_extends : (s s' : Schedule) → well_formed s ≡ true → well_formed s' ≡ true → Agreed s s' ↔ (Extends s' s ⊎ Extends s s')
agree_iff_extends s s' w w' = (
  λ a. ⊎_elim (λ x. inl x) (λ y. ⊎_elim (λ x. inr x) (λ d. absurd (not_parted s s' a d)) y) (extends_or_parted s s' w w'),
  λ x q v v' p p'.
      ⊎_elim
      (λ (longer : Extends s' s). given_is (sym ((keeps s' s longer w' w q).answer v p) ∙ p'))
      (λ (longer : Extends s s'). given_is (sym p ∙ (keeps s s' longer w w' q).answer v' p'))
      x,
)

-- where neither list extends the other, some date has a DTAI given under both, and the two differ
pub parted : (s s' : Schedule) → well_formed s ≡ true → well_formed s' ≡ true → ¬ Extends s' s → ¬ Extends s s' → Parted s s'
parted s s' w w' n n' = ⊎_elim (λ x. absurd (n x)) (λ y. ⊎_elim (λ x. absurd (n' x)) (λ d. d) y) (extends_or_parted s s' w w')
