-- "Times" and the orders of the refusals by 01's words and numbers alone, as 10/14 amends them. Laws (proofs/InOrder.antt, Lengths.antt, Exact.antt,
-- Back.antt) say that the five questions are answered and refused so.
-- Assumes nothing: these are definitions.
use Rattle.std.specs.Prelude.{◌≡◌, ℕ, ◌+◌, ◌-◌, ◌<◌, ◌≤◌, ◌≢◌, ◌⊎◌, ℤ, pos, negsuc, length, slice_index_or}
use Rattle.refusals.specs.Answer.{Answer, given, refused}
use Rattle.calendar.specs.Calendar.{month_start}
use Rattle.schedule.specs.declared.Sign.{Sign}
use Rattle.schedule.specs.Schedule.{Schedule, no_leap}
use Rattle.clock.specs.declared.Ending.{Ending}
use Rattle.clock.specs.declared.Ending.TheVariants.{Ordinary, Inserted, Deleted}
use Rattle.clock.specs.Days.{tai}
use Rattle.clock.specs.Question.{utc_to_uts}

-- ---- leaps and the way back

-- leap i of the list happens at the end of the day: that is the day before the leap's month starts
pub record LeapAtEnd (s : Schedule) (day i : ℕ) (sign : Sign) : Type 0 where
  pub listed : i < length s.leaps
  pub next_day : month_start (slice_index_or s.leaps i no_leap).month ≡ day + 1
  pub its_sign : (slice_index_or s.leaps i no_leap).sign ≡ sign

-- w, which is +1, -1 or 0 for the leap ending the day
abbrev pub leap_sign : Ending → ℤ
leap_sign Ordinary = pos 0
leap_sign Inserted = pos 1
leap_sign Deleted = negsuc 0

-- t has a UTS that is not above u, and no later time of the day has
pub record GreatestNotAbove (s : Schedule) (day u t : ℕ) : Type 0 where
  pub at : ℕ
  pub answered : utc_to_uts s day t ≡ given at
  pub not_above : at ≤ u
  pub greatest : (j v : ℕ) → utc_to_uts s day j ≡ given v → v ≤ u → j ≤ t

-- ---- an order of refusals

-- refused with n where P holds; where it does not, the answer is what is said next
pub data RefusedIf {A : Type 0} (n : ℕ) (P : Type 0) (Next : Answer A → Type 0) (a : Answer A) : Type 0 where
  holds : P → a ≡ refused n → RefusedIf n P Next a
  fails : (P → ⊥) → Next a → RefusedIf n P Next a

-- and last, v is given
abbrev pub Gives : {A : Type 0} → A → Answer A → Type 0
Gives v a = a ≡ given v

-- ---- what a list does not know

-- the expiry is the first of a month, and it is not
abbrev pub OnFirst : Schedule → Type 0
OnFirst s = (m : ℕ) × (month_start m ≡ s.expiry)

abbrev pub NotOnFirst : Schedule → Type 0
NotOnFirst s = (m : ℕ) → month_start m ≢ s.expiry

-- before Z, the day before the expiry; or on Z, below the cut-off or if the expiry is not the first of a month
abbrev pub Known : Schedule → ℕ → ℕ → ℕ → Type 0
Known s cutoff day t = (day + 1 < s.expiry) ⊎ ((day + 1 ≡ s.expiry) × ((t < cutoff) ⊎ NotOnFirst s))

-- on the expiry or later; or on Z from the cut-off on, if the expiry is the first of a month
abbrev pub Unknown : Schedule → ℕ → ℕ → ℕ → Type 0
Unknown s cutoff day t = (s.expiry ≤ day) ⊎ ((day + 1 ≡ s.expiry) × (cutoff ≤ t) × OnFirst s)

-- below the TAI of Z at 86,399,000,000; or of Z's end, if the expiry is not the first of a month
abbrev pub KnownTai : Schedule → ℕ → Type 0
KnownTai s x = (OnFirst s × (x < tai s (s.expiry - 1) 86_399_000_000)) ⊎ (NotOnFirst s × (x < tai s (s.expiry - 1) 86_400_000_000))

-- and from there on
abbrev pub UnknownTai : Schedule → ℕ → Type 0
UnknownTai s x = (OnFirst s × (tai s (s.expiry - 1) 86_399_000_000 ≤ x)) ⊎ (NotOnFirst s × (tai s (s.expiry - 1) 86_400_000_000 ≤ x))
