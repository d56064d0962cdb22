-- `schedule::is_expired` meets its contract. Assumes nothing.
use Rattle.std.proofs.Common.{◌≡◌, ℕ, min, leb, ap}
use Rattle.schedule.specs.Schedule.{last_month, month_start, is_expired}
use Rattle.schedule.proofs.is_expired.Goals as goal

by_start : (expiry month : ℕ) {start : ℕ} → start ≡ month_start month → leb expiry start ≡ is_expired expiry month
unfolding is_expired
by_start expiry month e = ap (λ (a : ℕ). leb expiry a) e

pub returns : goal.returns
returns c = by_start c.args.expiry (min c.args.month last_month) c.expiry_at.ensures
