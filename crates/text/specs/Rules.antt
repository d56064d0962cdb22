-- "The text list" by its rules alone: which bytes are a list, and where and with which number any others are refused. No reader stands behind these
-- definitions: laws (proofs/Faults.antt) say that the reading is this.
-- Assumes nothing: these are definitions.
use Rattle.std.specs.Prelude.{ℕ, ◌+◌, ◌≤◌, ◌<◌, List, [], ◌∷◌, ◌++◌, ◌⊎◌, ◌≢◌, ◌≡◌, length}
use Rattle.ascii.specs.Decimal.{decimal}
use Rattle.schedule.specs.declared.Sign.{Sign}
use Rattle.schedule.specs.declared.Sign.TheVariants.{Positive, Negative}
use Rattle.schedule.specs.declared.Leap.{Leap}
use Rattle.schedule.specs.Schedule.{Schedule, month_start, blank_schedule}
use Rattle.schedule.specs.Answers.{Reading}

-- "0" to "9"
abbrev pub Digit : ℕ → Type 0
Digit b = (48 ≤ b) × (b ≤ 57)

abbrev pub NoDigit : ℕ → Type 0
NoDigit b = (b < 48) ⊎ (57 < b)

-- the sign is "+" or "-"
pub data IsSign : ℕ → Sign → Type 0 where
  plus : IsSign 43 Positive
  minus : IsSign 45 Negative

-- "A gap must be followed by a mark, and a sign by a gap again": which of the two is due
pub data Awaited : Type 0 where
  gap : Awaited
  mark : Awaited

-- zero or more of gap and sign, within the limits, and perhaps one more gap: the bytes, what is due after them, their months in all, and the leaps
pub data SoFar : Awaited → List ℕ → ℕ → List Leap → Type 0 where
  start : SoFar gap [] 0 []
  then_gap : {bytes : List ℕ} {months : ℕ} {leaps : List Leap} → SoFar gap bytes months leaps
      → (g : ℕ) → 1 ≤ g → g ≤ 999 → SoFar mark (bytes ++ decimal g) (months + g) leaps
  then_sign : {bytes : List ℕ} {month : ℕ} {leaps : List Leap} → SoFar mark bytes month leaps
      → month ≤ 2400 → length leaps < 256 → (b : ℕ) (sign : Sign) → IsSign b sign
      → SoFar gap (bytes ++ (b ∷ [])) month (leaps ++ (record { month = month; sign = sign } ∷ []))

-- then a gap and "?", and nothing after it: the list, and its schedule, which expires on the first day of that month
pub data IsList : List ℕ → Schedule → Type 0 where
  list : {bytes : List ℕ} {month : ℕ} {leaps : List Leap} → SoFar mark bytes month leaps → month ≤ 2400
      → IsList (bytes ++ (63 ∷ [])) (record { leaps = leaps; expiry = month_start month })

-- what is refused, with its number and its place: the first fault from the left, whatever follows it
pub data Fault : List ℕ → ℕ → ℕ → Type 0 where
  -- the input ends where a gap or a mark is due: 1, place is the length
  ends : {due : Awaited} {bytes : List ℕ} {months : ℕ} {leaps : List Leap} → SoFar due bytes months leaps → Fault bytes 1 (length bytes)
  -- another byte than may stand there: 2, place is that byte
  no_gap : {bytes : List ℕ} {months : ℕ} {leaps : List Leap} → SoFar gap bytes months leaps
      → (b : ℕ) (rest : List ℕ) → NoDigit b → Fault (bytes ++ (b ∷ rest)) 2 (length bytes)
  no_mark : {bytes : List ℕ} {month : ℕ} {leaps : List Leap} → SoFar mark bytes month leaps
      → (b : ℕ) (rest : List ℕ) → NoDigit b → b ≢ 43 → b ≢ 45 → b ≢ 63 → Fault (bytes ++ (b ∷ rest)) 2 (length bytes)
  -- a "0" where a gap starts, or a fourth digit: 3, place is that byte
  zero : {bytes : List ℕ} {months : ℕ} {leaps : List Leap} → SoFar gap bytes months leaps
      → (rest : List ℕ) → Fault (bytes ++ (48 ∷ rest)) 3 (length bytes)
  fourth_digit : {bytes : List ℕ} {months : ℕ} {leaps : List Leap} → SoFar gap bytes months leaps
      → (g : ℕ) → 100 ≤ g → g ≤ 999 → (b : ℕ) (rest : List ℕ) → Digit b → Fault (bytes ++ (decimal g ++ (b ∷ rest))) 3 (length bytes + 3)
  -- at a mark, total months over 2400: 4, place is the mark
  past_2400 : {bytes : List ℕ} {month : ℕ} {leaps : List Leap} → SoFar mark bytes month leaps → 2400 < month
      → (b : ℕ) (rest : List ℕ) → (b ≡ 43) ⊎ ((b ≡ 45) ⊎ (b ≡ 63)) → Fault (bytes ++ (b ∷ rest)) 4 (length bytes)
  -- else a sign after 256 leaps: 5, place is the mark
  leap_257 : {bytes : List ℕ} {month : ℕ} {leaps : List Leap} → SoFar mark bytes month leaps → month ≤ 2400 → 256 ≤ length leaps
      → (b : ℕ) (rest : List ℕ) → (b ≡ 43) ⊎ (b ≡ 45) → Fault (bytes ++ (b ∷ rest)) 5 (length bytes)
  -- a byte after "?": 6, place is that byte
  after_end : {bytes : List ℕ} {month : ℕ} {leaps : List Leap} → SoFar mark bytes month leaps → month ≤ 2400
      → (b : ℕ) (rest : List ℕ) → Fault (bytes ++ (63 ∷ b ∷ rest)) 6 (length bytes + 1)

-- what the rules say of bytes, with the answer that they have
pub data Ruled (bytes : List ℕ) : Reading → Type 0 where
  taken : {s : Schedule} → IsList bytes s → Ruled bytes (record { number = 0; place = 0; schedule = s })
  stopped : {number place : ℕ} → Fault bytes number place → Ruled bytes (record { number = number; place = place; schedule = blank_schedule })
