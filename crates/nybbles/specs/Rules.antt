-- "The nybble list" as the paper words it, sentence by sentence and in its own numbers: which nybbles are a list and what it means, how every other
-- is refused, and the one spelling that is written. Nothing of Codes.antt, Read.antt and Write.antt is used: that those say the same is shown
-- (`taken_exactly`, `refused_exactly`, `written_exactly`).
-- Assumes nothing: these are definitions.
use Rattle.std.specs.Prelude.{ℕ, ◌+◌, ◌*◌, ◌-◌, ◌/◌, ◌%◌, ◌≤◌, ◌<◌, ◌≡◌, List, [], ◌∷◌, ◌++◌, map, length}
use mathlib.Core.List.{flatten}
use Rattle.schedule.specs.declared.Sign.{Sign}
use Rattle.schedule.specs.declared.Sign.TheVariants.{Positive, Negative}
use Rattle.schedule.specs.declared.Leap.{Leap}
use Rattle.schedule.specs.Schedule.{Schedule, month_start}

-- bytes: each is below 256
abbrev pub AreBytes : List ℕ → Type 0
AreBytes [] = Unit {0}
AreBytes (b ∷ bs) = (b < 256) × AreBytes bs

-- "Upper half of each byte first."
abbrev pub halves : List ℕ → List ℕ
halves bytes = flatten (map (λ b. (b / 16) ∷ (b % 16) ∷ []) bytes)

-- what stands at the end of a code's months: a leap, nothing, or the expiry
pub data Says : Type 0 where
  leap : Sign → Says
  nothing : Says
  expiry : Says

-- "NP 01 is a positive leap, 10 a negative one, 00 none (the gap continues), 11 the expiry."
pub data SaysNP : ℕ → Says → Type 0 where
  np01 : SaysNP 1 (leap Positive)
  np10 : SaysNP 2 (leap Negative)
  np00 : SaysNP 0 nothing
  np11 : SaysNP 3 expiry

-- "(G + 1) months if M is 1, 6 x (G + 1) if M is 0": by M, G and the months
pub data Counts : ℕ → ℕ → ℕ → Type 0 where
  m1 : {g : ℕ} → Counts 1 g (g + 1)
  m0 : {g : ℕ} → Counts 0 g (6 * (g + 1))

-- the code that stands first in nybbles: how many nybbles it has, its months, what it says, and the nybbles after it
pub data First : List ℕ → ℕ → ℕ → Says → List ℕ → Type 0 where
  -- "A nybble below 8, of value V, is a gap of 6 x (V + 1) months with a positive leap."
  below8 : {v : ℕ} {left : List ℕ} → v < 8 → First (v ∷ left) 1 (6 * (v + 1)) (leap Positive) left
  -- "A nybble 1MNP of 8 or more takes the next nybble G."
  pair : {m np g months : ℕ} {says : Says} {left : List ℕ} → Counts m g months → SaysNP np says → First ((8 + 4 * m + np) ∷ g ∷ left) 2 months says left
  -- "If 1MNP is the last nybble, G is 4."
  lone : {m np months : ℕ} {says : Says} → Counts m 4 months → SaysNP np says → First ((8 + 4 * m + np) ∷ []) 1 months says []

-- where a list so far ends: how many nybbles it has, the months of the gap so far, the total of months, the leaps, and the nybbles left
pub record Point : Type 0 where
  pub place : ℕ
  pub gap : ℕ
  pub total : ℕ
  pub leaps : List Leap
  pub left : List ℕ

-- a list so far: codes from the start of the nybbles on that pass every check, none of them the expiry. A leap falls on the month of the total.
pub data SoFar (nybbles : List ℕ) : Point → Type 0 where
  start : SoFar nybbles (record { place = 0; gap = 0; total = 0; leaps = []; left = nybbles })
  goes_on : {p : Point} {size months : ℕ} {left : List ℕ} → SoFar nybbles p → First p.left size months nothing left
      → p.gap + months ≤ 999 → p.total + months ≤ 2400
      → SoFar nybbles (record { place = p.place + size; gap = p.gap + months; total = p.total + months; leaps = p.leaps; left = left })
  leaps_at : {p : Point} {size months : ℕ} {left : List ℕ} {sign : Sign} → SoFar nybbles p → First p.left size months (leap sign) left
      → p.gap + months ≤ 999 → p.total + months ≤ 2400 → length p.leaps < 256
      → SoFar nybbles (record {
        place = p.place + size;
        gap = 0;
        total = p.total + months;
        leaps = p.leaps ++ (record { month = p.total + months; sign = sign } ∷ []);
        left = left;
      })

-- a spelling of a schedule: a list so far, then the expiry code, which passes too, and nothing after it. The schedule has those leaps, and expires
-- on the first day of the month of the total.
pub data Spells (nybbles : List ℕ) : Schedule → Type 0 where
  ends : {p : Point} {size months : ℕ} → SoFar nybbles p → First p.left size months expiry []
      → p.gap + months ≤ 999 → p.total + months ≤ 2400
      → Spells nybbles (record { leaps = p.leaps; expiry = month_start (p.total + months) })

-- the number and the place of the refusal of every other list. "Checks at each code, in this order, place being the code's first nybble":
pub data Faulty (nybbles : List ℕ) : ℕ → ℕ → Type 0 where
  -- "gap so far over 999, 3"
  gap_over : {p : Point} {size months : ℕ} {says : Says} {left : List ℕ} → SoFar nybbles p → First p.left size months says left
      → 999 < p.gap + months
      → Faulty nybbles 3 p.place
  -- "total over 2400, 4"
  total_over : {p : Point} {size months : ℕ} {says : Says} {left : List ℕ} → SoFar nybbles p → First p.left size months says left
      → p.gap + months ≤ 999 → 2400 < p.total + months
      → Faulty nybbles 4 p.place
  -- "a leap after 256, 5"
  leap_after : {p : Point} {size months : ℕ} {left : List ℕ} {sign : Sign} → SoFar nybbles p → First p.left size months (leap sign) left
      → p.gap + months ≤ 999 → p.total + months ≤ 2400 → length p.leaps ≡ 256
      → Faulty nybbles 5 p.place
  -- "No nybble left where a code is due: 1, place is the nybble count."
  none_left : {p : Point} → SoFar nybbles p → p.left ≡ []
      → Faulty nybbles 1 (length nybbles)
  -- "A nybble after the expiry: 6, place is that nybble."
  after_expiry : {p : Point} {size months next : ℕ} {left : List ℕ} → SoFar nybbles p → First p.left size months expiry (next ∷ left)
      → p.gap + months ≤ 999 → p.total + months ≤ 2400
      → Faulty nybbles 6 (p.place + size)

-- ---- "The writer has one spelling." A code is its nybbles, one or two.

-- 1MNP and its G
abbrev pub code : ℕ → ℕ → ℕ → List ℕ
code m np g = (8 + 4 * m + np) ∷ g ∷ []

-- the codes of a number of sixes of months, and what the last of them says
pub data Sixes (says : Says) : ℕ → List (List ℕ) → Type 0 where
  -- "while more than 16 sixes remain, 0x8F"
  remain : {k : ℕ} {codes : List (List ℕ)} → 16 < k → Sixes says (k - 16) codes
      → Sixes says k ((0x8 ∷ 0xF ∷ []) ∷ codes)
  -- "A code that ends a gap with 1 to 8 sixes and a positive leap is a single nybble, also after 0x8F."
  single : {k : ℕ} → says ≡ leap Positive → 1 ≤ k → k ≤ 8
      → Sixes says k (((k - 1) ∷ []) ∷ [])
  -- "then the rest with the mark"
  rest : {k np : ℕ} → (says ≡ leap Positive → 8 < k) → 1 ≤ k → k ≤ 16 → SaysNP np says
      → Sixes says k (code 0 np (k - 1) ∷ [])

-- the codes of a gap of some months, and what stands at its end
pub data Gap (says : Says) : ℕ → List (List ℕ) → Type 0 where
  -- "Multiples of 6 months are counted in sixes"
  multiple : {k : ℕ} {codes : List (List ℕ)} → Sixes says k codes
      → Gap says (6 * k) codes
  -- "Other gaps up to 16 months are one code in months."
  short : {gap np : ℕ} → (gap % 6 ≡ 0 → ⊥) → gap ≤ 16 → SaysNP np says
      → Gap says gap (code 1 np (gap - 1) ∷ [])
  -- "Other gaps are first the whole years they hold, in sixes and all with NP 00, then the 1 to 11 months left with the mark."
  long : (years months : ℕ) {np : ℕ} {codes : List (List ℕ)} → ((12 * years + months) % 6 ≡ 0 → ⊥) → 16 < 12 * years + months
      → 1 ≤ months → months ≤ 11 → Sixes nothing (2 * years) codes → SaysNP np says
      → Gap says (12 * years + months) (codes ++ (code 1 np (months - 1) ∷ []))

-- the codes of the gaps from a month on: to each leap, and from the last one to the month of the expiry
pub data Gaps (end : ℕ) : ℕ → List Leap → List (List ℕ) → Type 0 where
  last : {from gap : ℕ} {codes : List (List ℕ)} → from + gap ≡ end → Gap expiry gap codes
      → Gaps end from [] codes
  next : {from gap : ℕ} {l : Leap} {ls : List Leap} {codes others : List (List ℕ)} → from + gap ≡ l.month → Gap (leap l.sign) gap codes
      → Gaps end l.month ls others → Gaps end from (l ∷ ls) (codes ++ others)

-- no single nybble among codes
pub data NoSingle : List (List ℕ) → Type 0 where
  none : NoSingle []
  more : {n g : ℕ} {codes : List (List ℕ)} → NoSingle codes → NoSingle ((n ∷ g ∷ []) ∷ codes)

-- "If the nybble count comes out odd, the last single nybble gets a 9 put before it."
pub data Evened (codes : List (List ℕ)) : List (List ℕ) → Type 0 where
  even : length (flatten codes) % 2 ≡ 0
      → Evened codes codes
  odd : (before : List (List ℕ)) (v : ℕ) (after : List (List ℕ)) → length (flatten codes) % 2 ≡ 1
      → codes ≡ before ++ ((v ∷ []) ∷ after) → NoSingle after
      → Evened codes (before ++ ((9 ∷ v ∷ []) ∷ after))

-- the nybbles that are written of a schedule; its expiry is rounded down to the month that it lies in
pub data Written (s : Schedule) : List ℕ → Type 0 where
  written : {end : ℕ} {codes all : List (List ℕ)} → month_start end ≤ s.expiry → s.expiry < month_start (end + 1)
      → Gaps end 0 s.leaps codes → Evened codes all
      → Written s (flatten all)
