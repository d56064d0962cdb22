-- A look at leaps in their order by the month of a day: the search from the last leap back, and what it tells of the day.
-- Assumes nothing.
use Rattle.std.proofs.Common.{◌≡◌, ℕ, ◌+◌, ◌-◌, ◌<◌, ◌≤◌, true, List, length, get_or, take, sym, ap, ◌∙◌, refl, ap₂, ⊎_elim, eq-or-lt_of_le, arith, length-take-le}
use native.Mathlib.Decide.{dec_lt}
use Rattle.std.proofs.lemmas.List.{get_or_past}
use lib.IntN.{sub_ℕ}
use Rattle.calendar.specs.Calendar.{first_day, end_day, month_start, month_of, InMonth}
use Rattle.calendar.proofs.Laws.{start_zero, start_from, start_le, in_month}
use Rattle.schedule.specs.declared.Sign.{Sign}
use Rattle.schedule.specs.declared.Sign.TheVariants.{Positive, Negative}
use Rattle.schedule.specs.declared.Leap.{Leap}
use Rattle.schedule.specs.Schedule.{Schedule, no_leap, gaps_fit, well_formed}
use Rattle.schedule.specs.WordLayout.{word_of_sign}
use Rattle.questions.specs.declared.by_day.Day.{Day}
use Rattle.clock.specs.declared.Ending.TheVariants.{Ordinary}
use Rattle.clock.specs.Days.{first_dtai, ending_of, ending}
use Rattle.questions.specs.Said.{SaidOf, DaySaid}
use Rattle.clock.specs.Known.{last_day}
use Rattle.clock.proofs.Tai.{last_inside}
use Rattle.questions.specs.Private.{ByMonth, one_of, of_sign, Lowered}
use Rattle.clock.proofs.Placed.{leap_month, in_order, Placed, ending_same, ending_next}
use Rattle.questions.proofs.Signs.{of_sign_next, one_sign, both_signs, dtai_placed}

-- a search from the last leap back: those from n on lie after the month
pub record Beyond (ls : List Leap) (month n : ℕ) : Type 0 where
  pub room : n ≤ length ls
  pub after : (i : ℕ) → n ≤ i → i < length ls → month < leap_month ls i

pub beyond_one : {ls : List Leap} {month n : ℕ} → Beyond ls month n → (before : ℕ) → before + 1 ≡ n → month < leap_month ls before → Beyond ls month before
beyond_one {ls} {month} {n} p before e l =
    record {
      room = omega (arith, p.room);
      after = λ i a b.
          ⊎_elim (λ (z : before ≡ i). rw (← z) l) (λ (k : before < i). p.after i (omega arith) b) (eq-or-lt_of_le a);
    }

-- it ends at a leap that lies at the month or before it
pub beyond_found : {ls : List Leap} {month n : ℕ} → Beyond ls month n → (expiry : ℕ) → gaps_fit 0 ls expiry ≡ true
    → (before : ℕ) → before + 1 ≡ n → leap_month ls before ≤ month → ByMonth ls month (before + 1)
beyond_found {ls} {month} {n} p expiry f before e l =
    record {
      room = omega (arith, p.room);
      by = λ i h.
          let o : i ≤ before = omega arith in
          ⊎_elim (λ (z : i ≡ before). rw z l)
          (λ (k : i < before). omega (arith, in_order ls 0 expiry f i before k (omega (arith, p.room))))
          (eq-or-lt_of_le o);
      after = λ h. p.after (before + 1) (omega arith) h;
    }

-- one leap more
negative : (sign : Sign) → word_of_sign sign ≡ one_of Negative sign
negative Positive = refl
negative Negative = refl

pub lowered_one : {ls : List Leap} {n down : ℕ} → Lowered ls n down → n < length ls → (word : ℕ) → word ≡ word_of_sign (get_or ls n no_leap).sign
    → Lowered ls (n + 1) (down + word)
lowered_one {ls} {n} {down} p h word e =
    let own = negative (get_or ls n no_leap).sign in
    record {
      sum = omega (arith, p.sum, e, own, of_sign_next Negative ls n h);
      few = omega (arith, p.few, e, own, one_sign (get_or ls n no_leap).sign);
    }

module _ (s : Schedule) (w : well_formed s ≡ true) (day month n : ℕ) (p : ByMonth s.leaps month n) (i : InMonth day month) where
  here : Placed s.leaps day n
  here =
      record {
        room = p.room;
        begun = λ k h. omega (arith, i.from, start_le (p.by k h));
        not_begun = λ h.
            let later : month + 1 ≤ leap_month s.leaps n = omega (arith, p.after h) in
            omega (arith, i.before, start_le later);
      }

  pub said_by_lem : (down : ℕ) → Lowered s.leaps n down → (k : Day) → k.up ≡ n - down → k.down ≡ down → k.ending ≡ ending s day → SaidOf s day k
  said_by_lem down l k eu ed f =
      let positives : of_sign Positive (take n s.leaps) ≡ n - down = omega (arith, both_signs (take n s.leaps), length-take-le n s.leaps p.room, l.sum) in
      record {
        offset = ap₂ (λ up low. sub_ℕ (first_dtai + up) low) (eu ∙ sym positives) (ed ∙ l.sum) ∙ sym (dtai_placed s w here);
        ends = f;
      }

  -- no leap takes effect on the next day
  pub ends_same : (month_start (leap_month s.leaps n) - 1 ≡ day → ⊥) → Ordinary ≡ ending s day
  ends_same ne = sym (ending_same s w here (λ h e. ne (omega (arith, e))))

  -- the next leap does
  pub ends_next : month_start (leap_month s.leaps n) - 1 ≡ day → ending_of (get_or s.leaps n no_leap).sign ≡ ending s day
  ends_next e =
      let some : n < length s.leaps =
      elim (dec_lt n (length s.leaps)) [
        | yes z ↦ z
        | no z ↦ absurd (let none : leap_month s.leaps n ≡ 0 = ap (λ (l : Leap). l.month) (get_or_past s.leaps n no_leap (omega arith)) in
            omega (arith, ap month_start none, e, start_zero, start_from month, i.from))
      ] in
      sym (ending_next s w day n some (omega (arith, e, start_from (leap_month s.leaps n))))

-- what a look at the day's month says is what the schedule says of the day
pub day_by : (s : Schedule) → well_formed s ≡ true → (day month : ℕ) → (first_day ≤ day → day < end_day → month ≡ month_of day) → (k : Day)
    → k.last ≡ last_day s → (InMonth day month → SaidOf s day k) → DaySaid s day k
day_by s w day month m k last is =
    record {
      list = record { well = w; is_last = last };
      is = λ p q.
          let inside : day < end_day = omega (arith, last_inside s w) in
          is (rw (m p inside) (in_month p inside));
    }
