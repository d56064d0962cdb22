-- Schedules that are made leap by leap from the blank one: what holds of them on the way, and that they are well formed at the end.
-- Assumes nothing.
use Rattle.std.proofs.Common.{◌≡◌, ℕ, ◌+◌, ◌<◌, ◌≤◌, true, List, [], ◌∷◌, ◌++◌, length, sym, refl, ap, ◌∙◌, append_assoc, append-nil, arith, length-append, lt-ltb, le-leb}
use native.Mathlib.Nat.{add-sub_cancel_left}
use Rattle.calendar.proofs.Laws.{start_lt, start_to, starts_month_lem}
use Rattle.calendar.specs.Calendar.{starts_month}
use Rattle.schedule.specs.declared.Sign.{Sign}
use Rattle.schedule.specs.Schedule.{Leap, Schedule, month_start, end_day, blank_schedule, gap_fits, expiry_fits, gaps_fit, well_formed}
use Rattle.schedule.specs.Answers.{Reading, with_leap, refusal, accepted}

-- a reading that is accepted has place 0 and a well-formed schedule that expires on the first of a month, and one that is refused the blank schedule
pub record Formed (r : Reading) : Type 0 where
  pub formed : r.number ≡ 0 → well_formed r.schedule ≡ true
  pub first : r.number ≡ 0 → starts_month r.schedule.expiry ≡ true
  pub placed : r.number ≡ 0 → r.place ≡ 0
  pub blank : (r.number ≡ 0 → ⊥) → r.schedule ≡ blank_schedule

pub never : (n p : ℕ) → 0 < n → Formed (refusal n p)
never n p h = record { formed = λ e. absurd (omega arith); first = λ e. absurd (omega arith); placed = λ e. absurd (omega arith); blank = λ z. refl }

-- what holds of the schedule so far: its leaps end at the month `total`
pub record Sound (total : ℕ) (s : Schedule) : Type 0 where
  room : length s.leaps ≤ 256
  gaps : (more : List Leap) (expiry : ℕ) → gaps_fit 0 (s.leaps ++ more) expiry ≡ gaps_fit total more expiry

-- a gap of 1 to 999 fits
fits : (total gap : ℕ) → 0 < gap → gap ≤ 999 → gap_fits total (total + gap) ≡ true
fits total gap p q = simp (lt-ltb total (total + gap) (omega arith), add-sub_cancel_left total gap, le-leb gap 999 q)

-- an expiry on the first day of a month 1 to 999 after the last leap's fits, and lies within the calendar
expiry_fits_lem : (total gap : ℕ) → 0 < gap → gap ≤ 999 → expiry_fits total (month_start (total + gap)) ≡ true
expiry_fits_lem total gap p q =
    let a : total < total + gap = omega arith in
    let b : total + gap < total + 1000 = omega arith in
    simp (lt-ltb (month_start total) (month_start (total + gap)) (start_lt a), lt-ltb (month_start (total + gap)) (month_start (total + 1000)) (start_lt b))

-- one leap that fits, and what is left
next_fits : (from : ℕ) (l : Leap) (ls : List Leap) (expiry : ℕ) → gap_fits from l.month ≡ true → gaps_fit from (l ∷ ls) expiry ≡ gaps_fit l.month ls expiry
unfolding gaps_fit
next_fits from l ls expiry f = simp f

last_fits : (from expiry : ℕ) → gaps_fit from [] expiry ≡ expiry_fits from expiry
unfolding gaps_fit
last_fits from expiry = refl

pub sound_leap : (total gap : ℕ) (s : Schedule) (k : Sign) → 0 < gap → gap ≤ 999 → length s.leaps < 256 → Sound total s → Sound (total + gap) (with_leap s (total + gap) k)
sound_leap total gap s k p q h d =
    let l : Leap = record { month = total + gap; sign = k } in
    record {
      room = omega (arith, length-append s.leaps (l ∷ []));
      gaps = λ more e.
          ap (λ (ls : List Leap). gaps_fit 0 ls e) (append_assoc s.leaps (l ∷ []) more) ∙ (d.gaps (l ∷ more) e ∙ next_fits total l more e (fits total gap p q));
    }

pub sound_end : (total gap : ℕ) (s : Schedule) → 0 < gap → gap ≤ 999 → total + gap ≤ 2400 → Sound total s → Formed (accepted s (month_start (total + gap)))
sound_end total gap s p q h d =
    record {
      formed = λ e.
          let z : gaps_fit 0 s.leaps (month_start (total + gap)) ≡ true =
          ap (λ (ls : List Leap). gaps_fit 0 ls (month_start (total + gap))) (sym (append-nil s.leaps))
          ∙ (d.gaps [] (month_start (total + gap)) ∙ (last_fits total (month_start (total + gap)) ∙ expiry_fits_lem total gap p q)) in
          simp (le-leb (length s.leaps) 256 d.room, le-leb (month_start (total + gap)) end_day (start_to h), z);
      first = λ e. starts_month_lem h;
      placed = λ e. refl;
      blank = λ z. absurd (z refl);
    }

pub blank_sound : Sound 0 blank_schedule
blank_sound = record { room = omega arith; gaps = λ more e. refl }
