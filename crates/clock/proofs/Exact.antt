-- DTAI is 10 at first and changes by the leaps alone; TAI and UTS are the paper's formulas in the integers, with nothing cut off; and in an
-- inserted second DTAI is still the old one.
-- Assumes nothing.
use mathlib.Core.Bool.{Bool, true, false, cond}
use mathlib.Core.Path.{◌≡◌, refl, sym, ap, ap₂, ◌∙◌}
use Prim.Native.Nat.{ℕ, suc, ◌+◌, ◌-◌, ◌*◌, ◌≤◌, ◌<◌}
use native.Mathlib.Decide.{dec_lt}
use native.Mathlib.Omega.{arith}
use lib.Dec.{ltb}
use lib.IntN.{pos, negsuc, sub_ℕ, neg_ℤ-neg_ℤ, +ℤ_idr, +ℤ-neg_ℤ_cancel, ◌+ℤ◌, ◌-ℤ◌, ◌*ℤ◌}
use borrow.Author.Tests.{lt-ltb, le-ltb}
use Rattle.schedule.specs.declared.Sign.TheVariants.{Positive, Negative}
use Rattle.schedule.specs.Schedule.{Schedule, well_formed}
use Rattle.calendar.specs.Calendar.{first_day}
use Rattle.clock.specs.declared.Ending.{Ending}
use Rattle.clock.specs.declared.Ending.TheVariants.{Ordinary, Inserted, Deleted}
use Rattle.clock.specs.Days.{micros_per_day, first_dtai, ending, day_length, dtai, tai}
use Rattle.clock.specs.Smoothed.{smoothing, minus, uts}
use Rattle.clock.specs.Known.{tai_cutoff}
use Rattle.refusals.specs.Answer.{given}
use Rattle.clock.specs.Question.{utc_to_tai}
use Rattle.clock.specs.Rules.{leap_sign}
use Rattle.clock.proofs.Tally.{tally}
use Rattle.clock.proofs.Tallied.{plus_negative, plus_times, dtai_tallied, days_exact, tai_tallied}
use Rattle.clock.proofs.Leaps.{part}
use Rattle.clock.proofs.Tai.{length_least, deleted_few, tally_first, tally_after}
use Rattle.clock.proofs.Checks.{on_utc}

-- (a + 1) - b is one more than a - b
minus_more : (a b : ℕ) → sub_ℕ (a + 1) b ≡ sub_ℕ a b +ℤ pos 1
minus_more a b =
    elim (dec_lt a b) [
      | yes l ↦
          elim (dec_lt (a + 1) b) [
            | yes m ↦ rw (lt-ltb (a + 1) b m, lt-ltb a b l, lt-ltb 1 (suc (b - suc a)) (omega arith)) (ap negsuc (omega arith))
            | no m ↦ rw (le-ltb (a + 1) b (omega arith), lt-ltb a b l, le-ltb 1 (suc (b - suc a)) (omega arith)) (ap pos (omega arith))
          ]
      | no l ↦ rw (le-ltb (a + 1) b (omega arith), le-ltb a b (omega arith)) (ap pos (omega arith))
    ]

-- a - (b + 1) is one less than a - b
both_more : (a b : ℕ) → sub_ℕ (a + 1) (b + 1) ≡ sub_ℕ a b
both_more a b =
    elim (dec_lt a b) [
      | yes l ↦ rw (lt-ltb (a + 1) (b + 1) (omega arith), lt-ltb a b l) (ap negsuc (omega arith))
      | no l ↦ rw (le-ltb (a + 1) (b + 1) (omega arith), le-ltb a b (omega arith)) (ap pos (omega arith))
    ]

minus_less : (a b : ℕ) → sub_ℕ a (b + 1) ≡ sub_ℕ a b -ℤ pos 1
minus_less a b = sym (ap (λ z. z -ℤ pos 1) (sym (both_more a b) ∙ minus_more a (b + 1)) ∙ +ℤ-neg_ℤ_cancel (sub_ℕ a (b + 1)) (pos 1))

-- what a day's end makes of DTAI, by the tallies of the next day
next_by : (s : Schedule) (day : ℕ) (w : Ending) → tally Positive s.leaps (day + 1) ≡ tally Positive s.leaps day + part Positive w
    → tally Negative s.leaps (day + 1) ≡ tally Negative s.leaps day + part Negative w → dtai s (day + 1) ≡ dtai s day +ℤ leap_sign w
next_by s day Ordinary p q =
    let up : first_dtai + tally Positive s.leaps (day + 1) ≡ first_dtai + tally Positive s.leaps day = omega arith in
    let down : tally Negative s.leaps (day + 1) ≡ tally Negative s.leaps day = omega arith in
    dtai_tallied s (day + 1) ∙ ap₂ sub_ℕ up down ∙ sym (dtai_tallied s day) ∙ sym (+ℤ_idr (dtai s day))
next_by s day Inserted p q =
    let up : first_dtai + tally Positive s.leaps (day + 1) ≡ first_dtai + tally Positive s.leaps day + 1 = omega arith in
    let down : tally Negative s.leaps (day + 1) ≡ tally Negative s.leaps day = omega arith in
    dtai_tallied s (day + 1)
    ∙ ap₂ sub_ℕ up down
    ∙ minus_more (first_dtai + tally Positive s.leaps day) (tally Negative s.leaps day)
    ∙ ap (λ z. z +ℤ pos 1) (sym (dtai_tallied s day))
next_by s day Deleted p q =
    let up : first_dtai + tally Positive s.leaps (day + 1) ≡ first_dtai + tally Positive s.leaps day = omega arith in
    let down : tally Negative s.leaps (day + 1) ≡ tally Negative s.leaps day + 1 = omega arith in
    dtai_tallied s (day + 1)
    ∙ ap₂ sub_ℕ up down
    ∙ minus_less (first_dtai + tally Positive s.leaps day) (tally Negative s.leaps day)
    ∙ ap (λ z. z -ℤ pos 1) (sym (dtai_tallied s day))

minus_exact : (w : Ending) (a b : ℕ) → b ≤ a → pos (minus w a b) ≡ pos a -ℤ leap_sign w *ℤ pos b
minus_exact Ordinary a b h = sym (plus_negative a (0 * b) (omega arith) ∙ ap pos (omega arith))
minus_exact Inserted a b h = sym (plus_negative a (1 * b) (omega arith) ∙ ap pos (omega arith))
minus_exact Deleted a b h = rw (neg_ℤ-neg_ℤ (pos (1 * b))) (ap pos (omega arith))

-- DTAI is 10 on MJD 41317
pub ten_in_1972 : (s : Schedule) → well_formed s ≡ true → dtai s 41_317 ≡ pos 10
ten_in_1972 s w =
    let up : first_dtai + tally Positive s.leaps 41_317 ≡ 10 = omega (arith, tally_first s w Positive) in
    dtai_tallied s 41_317 ∙ ap₂ sub_ℕ up (tally_first s w Negative)

-- from a day to the next it changes by the leap that ends the day, 1 or -1, and by nothing else
pub dtai_next : (s : Schedule) → well_formed s ≡ true → (day : ℕ) → dtai s (day + 1) ≡ dtai s day +ℤ leap_sign (ending s day)
dtai_next s w day = next_by s day (ending s day) (tally_after s w Positive day) (tally_after s w Negative day)

-- only a day with an inserted second has a microsecond 86,400,000,000
is_inserted : (w : Ending) (t : ℕ) → micros_per_day ≤ t → t < day_length w → leap_sign w ≡ pos 1
is_inserted Ordinary t i h = absurd (omega arith)
is_inserted Inserted t i h = refl
is_inserted Deleted t i h = absurd (omega arith)

-- from MJD 41317 on under a well-formed schedule, TAI is 86,400,000,000 x (MJD - 41317) + UTC microseconds + 1,000,000 x DTAI
pub tai_exact : (s : Schedule) (day t : ℕ) → well_formed s ≡ true → 41_317 ≤ day
    → pos (tai s day t) ≡ pos 86_400_000_000 *ℤ (pos day -ℤ pos 41_317) +ℤ pos t +ℤ pos 1_000_000 *ℤ dtai s day
tai_exact s day t w i =
    ap pos (tai_tallied s day t i)
    ∙ plus_times (micros_per_day * (day - first_day) + t) (first_dtai + tally Positive s.leaps day) (tally Negative s.leaps day)
    (omega (arith, deleted_few s w day i))
    ∙ ap₂ (λ x z. x +ℤ pos 1_000_000 *ℤ z) (sym (days_exact day t i)) (sym (dtai_tallied s day))

-- within a day UTS is 1000 x t - w x (1,000,000,000 - R) where R < 1,000,000,000, else 1000 x t, for R = L - t
pub uts_exact : (w : Ending) (t : ℕ) → t < day_length w
    → pos (uts w t) ≡ cond (ltb (day_length w - t) smoothing) (pos (1000 * t) -ℤ leap_sign w *ℤ pos (smoothing - (day_length w - t))) (pos (1000 * t))
unfolding uts
uts_exact w t h = go (ltb (day_length w - t) smoothing)
  where
    go : (b : Bool) → pos (cond b (minus w (1000 * t) (smoothing - (day_length w - t))) (1000 * t))
        ≡ cond b (pos (1000 * t) -ℤ leap_sign w *ℤ pos (smoothing - (day_length w - t))) (pos (1000 * t))
    go true = minus_exact w (1000 * t) (smoothing - (day_length w - t)) (omega (arith, length_least w))
    go false = refl

-- that formula with its numbers written out, as the paper has them
pub uts_in_numbers : (w : Ending) (t : ℕ) → t < day_length w
    → pos (uts w t) ≡ cond (ltb (day_length w - t) 1_000_000_000) (pos (1000 * t) -ℤ leap_sign w *ℤ pos (1_000_000_000 - (day_length w - t))) (pos (1000 * t))
uts_in_numbers w t h = uts_exact w t h

-- in an inserted second TAI is still taken with the DTAI of that day, and the new one, from the next day on, is 1 more
pub old_dtai_in_leap : (s : Schedule) (day t x : ℕ) → utc_to_tai s day t ≡ given x → micros_per_day ≤ t
    → (pos x ≡ pos 86_400_000_000 *ℤ (pos day -ℤ pos 41_317) +ℤ pos t +ℤ pos 1_000_000 *ℤ dtai s day) × (dtai s (day + 1) ≡ dtai s day +ℤ pos 1)
old_dtai_in_leap s day t x h i =
    let k = on_utc s tai_cutoff day t (tai s day t) x h in (
      ap pos (sym k.is) ∙ tai_exact s day t k.well k.from,
      dtai_next s k.well day ∙ ap (λ z. dtai s day +ℤ z) (is_inserted (ending s day) t i k.below),
    )
