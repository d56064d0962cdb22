-- When a month is at or after an expiry, by the day on which it starts.
-- Assumes nothing.
use Rattle.std.proofs.Common.{◌≡◌, ℕ, ◌<◌, ◌≤◌, min, true, false, sym, ap, ◌∙◌, arith, le-leb, leb-false, leb-true}
use native.Mathlib.Decide.{dec_lt}
use borrow.Author.Tests.{lt-leb}
use Rattle.calendar.proofs.Laws.{start_last, start_lt}
use Rattle.schedule.specs.Schedule.{last_month, end_day, month_start, is_expired}

pub is_expired_lem : (expiry month : ℕ) → expiry ≤ month_start month → is_expired expiry month ≡ true
unfolding is_expired
is_expired_lem expiry month h = le-leb expiry (month_start month) h

module _ (expiry month : ℕ) where
  pub not_expired : month_start month < expiry → is_expired expiry month ≡ false
  unfolding is_expired
  not_expired h = lt-leb expiry (month_start month) h

  pub expired_from : is_expired expiry month ≡ true → expiry ≤ month_start month
  unfolding is_expired
  expired_from t = leb-true expiry (month_start month) t

  pub known_until : is_expired expiry month ≡ false → month_start month < expiry
  unfolding is_expired
  known_until f = leb-false expiry (month_start month) f

  -- within the calendar a month past 2400 may be taken as month 2400
  pub expired_past : expiry ≤ end_day → is_expired expiry (min month last_month) ≡ is_expired expiry month
  expired_past g =
      elim (dec_lt last_month month) [
        | yes l ↦
            let e : min month last_month ≡ last_month = omega arith in
            rw e (is_expired_lem expiry last_month (omega (arith, start_last)) ∙ sym (is_expired_lem expiry month (omega (arith, start_last, start_lt l))))
        | no l ↦ ap (is_expired expiry) (omega arith)
      ]
