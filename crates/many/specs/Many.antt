-- Many questions under one list: what the arrays hold afterwards. The answers are `map ask xs`, to each element of an array, or
-- `zip_with ask xs ys`, to the two elements at each place of two arrays, up to where the shorter one ends.
-- Assumes nothing: these are definitions.
use Rattle.std.specs.Prelude.{List, ◌++◌, map, ◌≡◌, ℕ, min, length, take, drop}
use Rattle.refusals.specs.Answer.{Answer, number, or_zero}
use Rattle.clock.specs.Question.{Utc}

-- the new elements at the start, and the rest of the old as it was
unfoldable pub overwrite : {A : Type 0} → List A → List A → List A
overwrite new old = new ++ drop (length new) old

-- The first answers go into two arrays, as many as the shortest of the three lists has; the result is how many. Each answer has its number, and its value or 0,
-- in its place.
pub record HandsMany {A : Type 0} (none : A) (answers : List (Answer A)) (numbers : List ℕ) (values : List A) (result : ℕ) (numbers' : List ℕ) (values' : List A) : Type 0 where
  pub its_count : result ≡ min (length answers) (min (length numbers) (length values))
  pub its_numbers : numbers' ≡ overwrite (map number (take result answers)) numbers
  pub its_values : values' ≡ overwrite (map (or_zero none) (take result answers)) values

-- the day and the microseconds that TAI to UTC gives, 0 and 0 where it is refused
abbrev pub day_or_zero : Answer Utc → ℕ
day_or_zero answer = (or_zero (record { day = 0; micros = 0 }) answer).day

abbrev pub micros_or_zero : Answer Utc → ℕ
micros_or_zero answer = (or_zero (record { day = 0; micros = 0 }) answer).micros

-- TAI to UTC has three arrays: the numbers, the days and their microseconds
pub record HandsManyUtc (answers : List (Answer Utc)) (numbers days micros : List ℕ) (result : ℕ) (numbers' days' micros' : List ℕ) : Type 0 where
  pub its_count : result ≡ min (length answers) (min (length numbers) (min (length days) (length micros)))
  pub its_numbers : numbers' ≡ overwrite (map number (take result answers)) numbers
  pub its_days : days' ≡ overwrite (map day_or_zero (take result answers)) days
  pub its_micros : micros' ≡ overwrite (map micros_or_zero (take result answers)) micros
