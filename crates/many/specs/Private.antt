-- What only private functions are held to: a list prepared for many questions, and an array overwritten. No public contract and no
-- promise speaks of these.
-- Assumes nothing: these are definitions.
use Rattle.std.specs.Prelude.{true, List, [], ◌∷◌, ◌++◌, ◌≡◌, ℕ, ◌+◌, ◌*◌, ◌≤◌, ◌<◌, length, get_or, take}
use Rattle.calendar.specs.Calendar.{end_day, month_start}
use Rattle.schedule.specs.declared.Sign.TheVariants.{Positive, Negative}
use Rattle.schedule.specs.Schedule.{Schedule, no_leap, well_formed}
use Rattle.clock.specs.Known.{last_day}
use Rattle.questions.specs.Private.{of_sign}
use Rattle.many.specs.Many.{overwrite}

-- ---- a list prepared, in 1,669 words

-- what stands at a place: the day on which a stretch starts, the positive and the negative leaps by then, where to start looking in a span of 128 days,
-- and the last day
abbrev pub start_at : List ℕ → ℕ → ℕ
start_at prepared i = get_or prepared i 0

abbrev pub up_at : List ℕ → ℕ → ℕ
up_at prepared i = get_or prepared (258 + i) 0

abbrev pub down_at : List ℕ → ℕ → ℕ
down_at prepared i = get_or prepared (516 + i) 0

abbrev pub guess_at : List ℕ → ℕ → ℕ
guess_at prepared i = get_or prepared (774 + i) 0

abbrev pub last_of : List ℕ → ℕ
last_of prepared = get_or prepared 1668 0

-- a day after all that are asked about
abbrev pub far : ℕ
far = 4_294_967_295

-- the days on which the leaps take effect stand from place 1 on, and after them `far`
pub record Starts (s : Schedule) (prepared : List ℕ) : Type 0 where
  pub leaps : (i : ℕ) → i < length s.leaps → start_at prepared (i + 1) ≡ month_start (get_or s.leaps i no_leap).month
  pub beyond : (i : ℕ) → length s.leaps ≤ i → i ≤ 256 → start_at prepared (i + 1) ≡ far

-- how many of the first leaps have each sign, for each number of them
pub record Tallies (s : Schedule) (prepared : List ℕ) : Type 0 where
  pub ups : (i : ℕ) → i ≤ length s.leaps → up_at prepared i ≡ of_sign Positive (take i s.leaps)
  pub downs : (i : ℕ) → i ≤ length s.leaps → down_at prepared i ≡ of_sign Negative (take i s.leaps)

-- a well-formed schedule, prepared
pub record Prepared (s : Schedule) (prepared : List ℕ) : Type 0 where
  pub well : well_formed s ≡ true
  pub is_last : last_of prepared ≡ last_day s
  pub starting : Starts s prepared
  pub tallied : Tallies s prepared

-- any search in the starts ends: the first is day 0, the last `far`
pub record Fenced (prepared : List ℕ) : Type 0 where
  pub first : start_at prepared 0 ≡ 0
  pub end : start_at prepared 257 ≡ far

-- for each span a place that has started by its first day
pub record Guesses (prepared : List ℕ) : Type 0 where
  pub room : (i : ℕ) → i < 894 → guess_at prepared i ≤ 256
  pub begun : (i : ℕ) → i < 894 → start_at prepared (guess_at prepared i) ≤ 128 * i

-- no tally is above 256
pub record Small (prepared : List ℕ) : Type 0 where
  pub tallies : (k : ℕ) → 258 ≤ k → k < 774 → get_or prepared k 0 ≤ 256

-- any day up to the last one is found
pub record Ready (prepared : List ℕ) : Type 0 where
  pub fenced : Fenced prepared
  pub guessed : Guesses prepared
  pub inside : last_of prepared < end_day
  pub small : Small prepared

-- a day lies in the stretch at a place: it is not before its start, and before the next one's
pub record Stretch (prepared : List ℕ) (day at : ℕ) : Type 0 where
  pub room : at ≤ 256
  pub begun : start_at prepared at ≤ day
  pub not_over : day < start_at prepared (at + 1)

-- ---- while a list is prepared

-- arrays as long as each other that differ at most from one place up to another
pub record Within (from to : ℕ) (old new : List ℕ) : Type 0 where
  pub size : length new ≡ length old
  pub below : (k : ℕ) → k < from → get_or new k 0 ≡ get_or old k 0
  pub beyond : (k : ℕ) → to ≤ k → get_or new k 0 ≡ get_or old k 0

-- from one place up to another all is 0
pub record Clear (from to : ℕ) (prepared : List ℕ) : Type 0 where
  pub zero_at : (k : ℕ) → from ≤ k → k < to → get_or prepared k 0 ≡ 0

-- no stretch starts before `far` but that at place 0
pub record Empty (prepared : List ℕ) : Type 0 where
  pub none : (i : ℕ) → i ≤ 256 → start_at prepared (i + 1) ≡ far

-- ---- questions and arrays filled

-- x stands at place i
pub record At {A : Type 0} (xs : List A) (i : ℕ) (x : A) : Type 0 where
  pub below : i < length xs
  pub is : take (i + 1) xs ≡ take i xs ++ (x ∷ [])

-- whatever a call at one of the first places may return says what stands there
pub record Asks {A R : Type 0} (n : ℕ) (returns : ℕ → R → Type 0) (says : R → A) (answers : List A) : Type 0 where
  pub each : (i : ℕ) (r : R) → i < n → returns i r → At answers i (says r)

-- an array after its first elements were overwritten: it is as long as before
pub record Overwritten {A : Type 0} (new old array : List A) : Type 0 where
  pub is : array ≡ overwrite new old
  pub size : length array ≡ length old
