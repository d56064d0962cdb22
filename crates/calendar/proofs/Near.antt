-- The estimate of a day's month, and the step from it to the month. It is tested on the first and the last day of each month, and never falls in between.
-- Assumes nothing.
use mathlib.Core.Path.{◌≡◌}
use Prim.Native.Nat.{ℕ, ◌+◌, ◌*◌, ◌≤◌, ◌<◌}
use native.Mathlib.Omega.{arith}
use Rattle.calendar.specs.Calendar.{first_day, last_month, end_day, month_start, month_of, MonthOrNext}
use Rattle.calendar.proofs.Estimates.{estimated}
use Rattle.calendar.proofs.Gregorian.{closed_right}
use Rattle.calendar.proofs.Laws.{start_next, start_last, start_lt, start_from, started, not_started, first_in, is_month, in_month, month_below}

-- of the month of a day and the next one, the next is the one that starts after the day,
pub is_next : {d m : ℕ} → first_day ≤ d → d < end_day → MonthOrNext d m → d < month_start m → m ≡ month_of d + 1
is_next {m = m} p q n h = omega (arith, n.high, not_started m (in_month p q) h)

-- and the day's own is the one that has started by then
pub is_own : {d m : ℕ} → first_day ≤ d → d < end_day → MonthOrNext d m → month_start m ≤ d → m ≡ month_of d
is_own {m = m} p q n h = omega (arith, n.low, started m (in_month p q) h)

-- the estimate is at most one month off, and never early, for every day from MJD 41317 to 114365
pub at_most_one_off : {d : ℕ} → first_day ≤ d → d < end_day → MonthOrNext d (estimated d)
at_most_one_off {d} p q =
    let m = month_of d in
    let i = in_month p q in
    let r = closed_right {m = m} (omega (arith, month_below p q)) in
    record { low = omega (arith, i.from, r.first); high = omega (arith, i.before, start_next m, r.last) }

-- so with 487 days to 16 months, counted from day 41301, no month starts as late as the month two numbers on would
pub start_by : {m : ℕ} → m < last_month → 16 * month_start m < 487 * (m + 2) + 16 * 41_301
start_by {m} h =
    let d = month_start m in
    let own = is_month h (first_in m) in
    let from = start_from m in
    let n = at_most_one_off {d = d} from (omega (arith, start_lt h, start_last)) in
    omega (arith, n.high)
