-- "Months, days and the schedule" and "In demand 3" by 01's words and numbers alone, as 10/14 amends them: which schedules are well formed, where the
-- words of one stand, and when a list extends another. Laws (proofs/InWords.antt, WordLayout.antt) say that the tests are these.
-- Assumes nothing: these are definitions.
use Rattle.std.specs.Prelude.{◌≡◌, ℕ, ◌+◌, ◌-◌, ◌*◌, ◌<◌, ◌≤◌, List, [], ◌∷◌, ◌++◌, length, slice_index, slice_index_or}
use Rattle.schedule.specs.declared.Sign.TheVariants.{Positive, Negative}
use Rattle.schedule.specs.Schedule.{Leap, Schedule, month_start, month_of, no_leap, last_leap}

-- the leap months rise by 1 to 999, from a month on
abbrev pub Rise : ℕ → List Leap → Type 0
Rise from [] = Unit {0}
Rise from (l ∷ ls) = (from < l.month) × (l.month ≤ from + 999) × Rise l.month ls

-- at most 256 leaps, whose months rise by 1 to 999 from month 0 on; an expiry later than the first day of the last leap's month (of month 0 if there
-- is none), at most 999 months after it by month number, and at most 114366
pub record WellFormed (s : Schedule) : Type 0 where
  pub few : length s.leaps ≤ 256
  pub rise : Rise 0 s.leaps
  pub after : month_start (last_leap 0 s.leaps) < s.expiry
  pub near : month_of s.expiry - last_leap 0 s.leaps ≤ 999
  pub end : s.expiry ≤ 114_366

-- every leap is in a month that starts on a day or later
abbrev pub AllFrom : ℕ → List Leap → Type 0
AllFrom day [] = Unit {0}
AllFrom day (l ∷ ls) = (day ≤ month_start l.month) × AllFrom day ls

-- the longer list has the leaps of the shorter one, then only leaps in months that start on the shorter one's expiry day or later; its expiry is no
-- earlier
pub record ExtendsBy (longer shorter : Schedule) (further : List Leap) : Type 0 where
  pub same : longer.leaps ≡ shorter.leaps ++ further
  pub from : AllFrom shorter.expiry further
  pub later : shorter.expiry ≤ longer.expiry

-- the words of a schedule in numbers: word 2 i is the month of leap i, and word 2 i + 1 its sign, 0 if it is positive and 1 if it is negative; after
-- the leaps 0 up to word 511, so that a place not in use holds month 0 and a positive sign; word 512 is the count, and word 513 the expiry day
pub record Words (s : Schedule) (words : List ℕ) : Type 0 where
  pub all : length words ≡ 514
  pub months : (i : ℕ) → i < length s.leaps → slice_index words (2 * i) ≡ (slice_index_or s.leaps i no_leap).month
  pub positive : (i : ℕ) → i < length s.leaps → (slice_index_or s.leaps i no_leap).sign ≡ Positive → slice_index words (2 * i + 1) ≡ 0
  pub negative : (i : ℕ) → i < length s.leaps → (slice_index_or s.leaps i no_leap).sign ≡ Negative → slice_index words (2 * i + 1) ≡ 1
  pub unused : (k : ℕ) → 2 * length s.leaps ≤ k → k < 512 → slice_index words k ≡ 0
  pub count : slice_index words 512 ≡ length s.leaps
  pub expiry : slice_index words 513 ≡ s.expiry
