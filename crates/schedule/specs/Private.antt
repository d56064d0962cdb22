-- What only private functions are held to, of this crate and of the readers. No public contract and no promise speaks of these.
-- Assumes nothing: these are definitions.
use Rattle.std.specs.Prelude.{◌≡◌, ℕ, zero, suc, ◌+◌, ◌-◌, ◌*◌, ◌<◌, ◌≤◌, Bool, true, false, ◌&&◌, List, ◌++◌, length, nat_lt, slice_index}
use Rattle.schedule.specs.Schedule.{Schedule, max_leaps}
use Rattle.schedule.specs.WordLayout.{zeroes, leap_words}

-- no month of a list is as great: half the numbers of 32 bits
abbrev pub great_month : ℕ
great_month = 2_147_483_648

-- the words that a reader fills: the leaps so far, and 0 in all that follow
pub record SoFar (s : Schedule) (count : ℕ) (words : List ℕ) : Type 0 where
  pub its_count : length s.leaps ≡ count
  pub room : count ≤ max_leaps
  pub its_words : words ≡ leap_words s.leaps ++ zeroes (514 - 2 * count)

-- the words of the places after the first `count` are all 0, or not
pub record RestClear (words : List ℕ) (count : ℕ) (clear : Bool) : Type 0 where
  pub all : clear ≡ true → (k : ℕ) → 2 * count ≤ k → k < 512 → slice_index words k ≡ 0
  pub none : clear ≡ false → ((k : ℕ) → 2 * count ≤ k → k < 512 → slice_index words k ≡ 0) → ⊥

-- the sign words of the first n leaps are 0 or 1
unfoldable pub signs_fit : List ℕ → ℕ → Bool
signs_fit words zero = true
signs_fit words (suc n) = signs_fit words n && nat_lt (slice_index words (2 * n + 1)) 2
