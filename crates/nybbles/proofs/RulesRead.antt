-- The reader takes exactly the spellings of the rules, each with its meaning, and refuses every other list with the rules' number and place.
-- Assumes nothing.
use Rattle.std.proofs.Common.{◌≡◌, ℕ, zero, suc, ◌+◌, ◌*◌, ◌/◌, ◌%◌, ◌≤◌, ◌<◌, ◌⊎◌, ◌↔◌, List, [], ◌∷◌, ◌++◌, length, drop, sym, refl, ap, ◌∙◌, inl, inr, arith, length-append, drop-drop, lt-ltb, le-ltb, le-leb}
use mathlib.Core.List.{flatten}
use native.Mathlib.Decide.{dec_lt}
use borrow.Author.Tests.{lt-leb}
use Rattle.schedule.specs.declared.Sign.{Sign}
use Rattle.schedule.specs.declared.Sign.TheVariants.{Positive}
use Rattle.schedule.specs.Schedule.{Schedule, month_start}
use Rattle.calendar.proofs.Laws.{start_from}
use Rattle.schedule.specs.Answers.{Reading, refusal}
use Rattle.nybbles.specs.declared.code.Mark.{Mark}
use Rattle.nybbles.specs.declared.code.Mark.TheVariants.{Continues, Leaps, Expires}
use Rattle.nybbles.specs.declared.code.Code.{Code}
use Rattle.nybbles.specs.Codes.{nybbles, mark_of, months_of, single, wide, codes_of}
use Rattle.nybbles.specs.Read.{State, fault, after, read_codes, start, read_nybbles}
use Rattle.nybbles.proofs.Codes.{All, none, more, codes_single, codes_wide, codes_lone}
use Rattle.nybbles.proofs.Division.{IsNybble}
use Rattle.nybbles.specs.Rules.{AreBytes, halves, Says, leap, nothing, expiry, SaysNP, np01, np10, np00, np11, Counts, m0, m1, First, below8, pair, lone, Point, SoFar, goes_on, leaps_at, Spells, ends, Faulty, gap_over, total_over, leap_after, none_left, after_expiry}
use Rattle.nybbles.specs.Rules as rules

-- the halves of bytes are their nybbles
pub same_nybbles : (bytes : List ℕ) → nybbles bytes ≡ halves bytes
unfolding nybbles flatten
same_nybbles [] = refl
same_nybbles (b ∷ bs) = rw (same_nybbles bs)

-- ---- a code by the rules is the reader's code

abbrev mark_by : Says → Mark
mark_by (leap sign) = Leaps sign
mark_by nothing = Continues
mark_by expiry = Expires

abbrev code_by : ℕ → ℕ → Says → Code
code_by size months says = record { months = months; mark = mark_by says; size = size }

np_says : {np : ℕ} {says : Says} → SaysNP np says → (np < 4) × (mark_of np ≡ mark_by says)
np_says np01 = (omega arith, refl)
np_says np10 = (omega arith, refl)
np_says np00 = (omega arith, refl)
np_says np11 = (omega arith, refl)

counts_months : {m g months : ℕ} → Counts m g months → (m < 2) × (months_of m g ≡ months)
counts_months m1 = (omega arith, refl)
counts_months m0 = (omega arith, refl)

wide_by : (m np g months : ℕ) (says : Says) (size : ℕ) → Counts m g months → SaysNP np says → wide (8 + 4 * m + np) g size ≡ code_by size months says
unfolding wide
wide_by m np g months says size c n =
    let h = counts_months c in
    let i = np_says n in
    let q : (8 + 4 * m + np) / 4 ≡ 2 + m = omega (arith, h.0, i.0) in
    let d : (8 + 4 * m + np) / 4 % 2 ≡ m = rw q (omega (arith, h.0)) in
    let e : (8 + 4 * m + np) % 4 ≡ np = omega (arith, i.0) in
    simp (d, e, h.1, i.1)

first_code : {ns left : List ℕ} {size months : ℕ} {says : Says} → First ns size months says left → codes_of ns ≡ code_by size months says ∷ codes_of left
unfolding single
first_code {left} (below8 {v} h) = codes_single v left h
first_code {left} {months} {says} (pair {m} {np} {g} c n) =
    codes_wide (8 + 4 * m + np) g left (omega arith) ∙ ap (λ (d : Code). d ∷ codes_of left) (wide_by m np g months says 2 c n)
first_code {months} {says} (lone {m} {np} c n) =
    codes_lone (8 + 4 * m + np) (omega arith) ∙ ap (λ (d : Code). d ∷ codes_of []) (wide_by m np 4 months says 1 c n)

first_length : {ns left : List ℕ} {size months : ℕ} {says : Says} → First ns size months says left → length ns ≡ size + length left
first_length (below8 h) = omega arith
first_length (pair c n) = omega arith
first_length (lone c n) = omega arith

first_some : {ns left : List ℕ} {size months : ℕ} {says : Says} → First ns size months says left → 0 < size
first_some (below8 h) = omega arith
first_some (pair c n) = omega arith
first_some (lone c n) = omega arith

first_left : {ns left : List ℕ} {size months : ℕ} {says : Says} → First ns size months says left → drop size ns ≡ left
first_left (below8 h) = refl
first_left (pair c n) = refl
first_left (lone c n) = refl

-- ---- reading a list so far

-- the nybbles left at a point are those from its place on
pub left_from : {ns : List ℕ} {p : Point} → SoFar ns p → drop p.place ns ≡ p.left
left_from rules.start = refl
left_from {ns} (goes_on {p} {size} s f g t) = sym (drop-drop size p.place ns) ∙ (ap (drop size) (left_from s) ∙ first_left f)
left_from {ns} (leaps_at {p} {size} s f g t r) = sym (drop-drop size p.place ns) ∙ (ap (drop size) (left_from s) ∙ first_left f)

-- the reader's state at a point
abbrev at : Point → State
at p = record { gap = p.gap; total = p.total; schedule = record { leaps = p.leaps; expiry = 0 } }

so_far_length : {ns : List ℕ} {p : Point} → SoFar ns p → length ns ≡ p.place + length p.left
so_far_length rules.start = omega arith
so_far_length (goes_on s f g t) = omega (arith, so_far_length s, first_length f)
so_far_length (leaps_at s f g t r) = omega (arith, so_far_length s, first_length f)

so_far_few : {ns : List ℕ} {p : Point} → SoFar ns p → length p.leaps ≤ 256
so_far_few rules.start = omega arith
so_far_few (goes_on s f g t) = so_far_few s
so_far_few (leaps_at {p} {months} {sign} s f g t r) = omega (arith, length-append p.leaps (record { month = p.total + months; sign = sign } ∷ []))

-- the reading from a point on, where the list has k nybbles
abbrev from : ℕ → Point → Reading
from k p = read_codes k p.place (at p) (codes_of p.left)

none_refused : (k : ℕ) (p : Point) → p.left ≡ [] → from k p ≡ refusal 1 p.place
unfolding read_codes codes_of
none_refused k p e = rw e

module _ (k : ℕ) (p : Point) (size months : ℕ) (says : Says) (left : List ℕ) (f : First p.left size months says left) where
  gap_refused : 999 < p.gap + months → from k p ≡ refusal 3 p.place
  unfolding read_codes fault
  gap_refused g = rw (first_code f) (simp (lt-leb (p.gap + months) 999 g))

  module _ (g : p.gap + months ≤ 999) where
    total_refused : 2400 < p.total + months → from k p ≡ refusal 4 p.place
    unfolding read_codes fault
    total_refused t = rw (first_code f) (simp (le-leb (p.gap + months) 999 g, lt-leb (p.total + months) 2400 t))

    module _ (t : p.total + months ≤ 2400) where
      continued : says ≡ nothing
          → from k p ≡ from k (record { place = p.place + size; gap = p.gap + months; total = p.total + months; leaps = p.leaps; left = left })
      unfolding read_codes fault after
      continued e = rw (first_code f, e) (simp (le-leb (p.gap + months) 999 g, le-leb (p.total + months) 2400 t))

      module _ (sign : Sign) (e : says ≡ leap sign) where
        leapt : length p.leaps < 256 → from k p ≡ from k (record {
          place = p.place + size;
          gap = 0;
          total = p.total + months;
          leaps = p.leaps ++ (record { month = p.total + months; sign = sign } ∷ []);
          left = left;
        })
        unfolding read_codes fault after
        leapt r = rw (first_code f, e) (simp (le-leb (p.gap + months) 999 g, le-leb (p.total + months) 2400 t, lt-ltb (length p.leaps) 256 r))

        leap_refused : 256 ≤ length p.leaps → from k p ≡ refusal 5 p.place
        unfolding read_codes fault
        leap_refused r = rw (first_code f, e) (simp (le-leb (p.gap + months) 999 g, le-leb (p.total + months) 2400 t, le-ltb (length p.leaps) 256 r))

      module _ (e : says ≡ expiry) where
        ended : k ≤ p.place + size → from k p ≡ record { number = 0; place = 0; schedule = record { leaps = p.leaps; expiry = month_start (p.total + months) } }
        unfolding read_codes fault after
        ended r = rw (first_code f, e) (simp (le-leb (p.gap + months) 999 g, le-leb (p.total + months) 2400 t, le-ltb (p.place + size) k r))

        after_refused : p.place + size < k → from k p ≡ refusal 6 (p.place + size)
        unfolding read_codes fault after
        after_refused r = rw (first_code f, e) (simp (le-leb (p.gap + months) 999 g, le-leb (p.total + months) 2400 t, lt-ltb (p.place + size) k r))

-- reading the whole is reading on from a point
so_far_read : {ns : List ℕ} {p : Point} (k : ℕ) → SoFar ns p → read_codes k 0 start (codes_of ns) ≡ from k p
so_far_read k rules.start = refl
so_far_read k (goes_on {p} {size} {months} {left} s f g t) = so_far_read k s ∙ continued k p size months nothing left f g t refl
so_far_read k (leaps_at {p} {size} {months} {left} {sign} s f g t r) = so_far_read k s ∙ leapt k p size months (leap sign) left f g t sign refl r

abbrev reading : List ℕ → Reading
reading ns = read_codes (length ns) 0 start (codes_of ns)

spells_read : (ns : List ℕ) {s : Schedule} → Spells ns s → reading ns ≡ record { number = 0; place = 0; schedule = s }
spells_read ns (ends {p} {size} {months} s f g t) =
    so_far_read (length ns) s ∙ ended (length ns) p size months expiry [] f g t refl (omega (arith, so_far_length s, first_length f))

faulty_read : (ns : List ℕ) {n place : ℕ} → Faulty ns n place → reading ns ≡ refusal n place
faulty_read ns (gap_over {p} {size} {months} {says} {left} s f g) = so_far_read (length ns) s ∙ gap_refused (length ns) p size months says left f g
faulty_read ns (total_over {p} {size} {months} {says} {left} s f g t) = so_far_read (length ns) s ∙ total_refused (length ns) p size months says left f g t
faulty_read ns (leap_after {p} {size} {months} {left} {sign} s f g t r) =
    so_far_read (length ns) s ∙ leap_refused (length ns) p size months (leap sign) left f g t sign refl (omega arith)
faulty_read ns (none_left {p} s e) =
    let count : p.place ≡ length ns = omega (arith, so_far_length s, ap length e) in
    so_far_read (length ns) s ∙ (none_refused (length ns) p e ∙ ap (λ (place : ℕ). refusal 1 place) count)
faulty_read ns (after_expiry {p} {size} {months} {next} {left} s f g t) =
    so_far_read (length ns) s ∙ after_refused (length ns) p size months expiry (next ∷ left) f g t refl (omega (arith, so_far_length s, first_length f))

-- ---- every list is a spelling or has a fault

-- some code stands first
record Code1 (ns : List ℕ) : Type 0 where
  size : ℕ
  months : ℕ
  says : Says
  left : List ℕ
  its : First ns size months says left

-- M and NP of a nybble from 8 to 15
m_counts : {A : Type 0} (m g : ℕ) → m < 2 → ((months : ℕ) → Counts m g months → A) → A
m_counts zero g h k = k _ m0
m_counts (suc zero) g h k = k _ m1
m_counts (suc (suc m)) g h k = absurd (omega arith)

np_some : {A : Type 0} (np : ℕ) → np < 4 → ((says : Says) → SaysNP np says → A) → A
np_some zero h k = k _ np00
np_some (suc zero) h k = k _ np01
np_some (suc (suc zero)) h k = k _ np10
np_some (suc (suc (suc zero))) h k = k _ np11
np_some (suc (suc (suc (suc np)))) h k = absurd (omega arith)

first_of : (n : ℕ) (ns : List ℕ) → n < 16 → Code1 (n ∷ ns)
first_of n ns h =
    elim (dec_lt n 8) [
      | yes l ↦ record { size = 1; months = 6 * (n + 1); says = leap Positive; left = ns; its = below8 l }
      | no l ↦
          let m : ℕ = n / 4 % 2 in
          let np : ℕ = n % 4 in
          let e : 8 + 4 * (n / 4 % 2) + n % 4 ≡ n = omega arith in
          rw (sym e) (wider (n / 4 % 2) (n % 4) (omega arith) (omega arith) ns)
    ]
  where
    wider : (m np : ℕ) → m < 2 → np < 4 → (ns : List ℕ) → Code1 ((8 + 4 * m + np) ∷ ns)
    wider m np h i [] = m_counts m 4 h (λ months c. np_some np i (λ says d. record { size = 1; months = months; says = says; left = []; its = lone c d }))
    wider m np h i (g ∷ ns) = m_counts m g h (λ months c. np_some np i (λ says d. record { size = 2; months = months; says = says; left = ns; its = pair c d }))

data Outcome (ns : List ℕ) : Type 0 where
  taken : {s : Schedule} → Spells ns s → Outcome ns
  faulty : {n p : ℕ} → Faulty ns n p → Outcome ns

all_left : {ns left : List ℕ} {size months : ℕ} {says : Says} → First ns size months says left → All IsNybble ns → All IsNybble left
all_left (below8 h) (more i a) = a
all_left (pair c n) (more i (more j a)) = a
all_left (lone c n) (more i a) = a

-- what a code makes of a list so far, where the nybbles after it are settled
module _ (ns : List ℕ) (p : Point) (s : SoFar ns p) (size months : ℕ) where
  ending : (left : List ℕ) → First p.left size months expiry left → p.gap + months ≤ 999 → p.total + months ≤ 2400 → Outcome ns
  ending [] f g t = taken (ends s f g t)
  ending (n ∷ left) f g t = faulty (after_expiry s f g t)

  module _ (left : List ℕ) (go : (next : Point) → next.left ≡ left → SoFar ns next → Outcome ns) where
    passing : (says : Says) → First p.left size months says left → p.gap + months ≤ 999 → p.total + months ≤ 2400 → Outcome ns
    passing nothing f g t = go _ refl (goes_on s f g t)
    passing (leap sign) f g t =
        elim (dec_lt (length p.leaps) 256) [ yes r ↦ go _ refl (leaps_at s f g t r) | no r ↦ faulty (leap_after s f g t (omega (arith, so_far_few s))) ]
    passing expiry f g t = ending left f g t

    step : (says : Says) → First p.left size months says left → Outcome ns
    step says f =
        elim (dec_lt 999 (p.gap + months)) [
          | yes g ↦ faulty (gap_over s f g)
          | no g' ↦
              let g : p.gap + months ≤ 999 = omega arith in
              elim (dec_lt 2400 (p.total + months)) [
                | yes t ↦ faulty (total_over s f g t)
                | no t' ↦ let t : p.total + months ≤ 2400 = omega arith in passing says f g t
              ]
        ]

settled : (most : ℕ) (ns left : List ℕ) → length left < most → All IsNybble left → (p : Point) → p.left ≡ left → SoFar ns p → Outcome ns
settled zero ns left h a p e s = absurd (omega arith)
settled (suc most) ns [] h a p e s = faulty (none_left s e)
settled (suc most) ns (n ∷ left) h (more i a) p e s =
    let c = first_of n left i in
    let few : length c.left < most = omega (arith, first_length c.its, first_some c.its) in
    step ns p s c.size c.months c.left (settled most ns c.left few (all_left c.its (more i a))) c.says (rw e c.its)

-- ---- the reader

all_halves : (bytes : List ℕ) → AreBytes bytes → All IsNybble (halves bytes)
unfolding flatten
all_halves [] a = none
all_halves (b ∷ bs) a =
    let h = a.0 in
    let x : b / 16 < 16 = omega arith in
    let y : b % 16 < 16 = omega arith in
    more x (more y (all_halves bs a.1))

spells_late : {ns : List ℕ} {s : Schedule} → Spells ns s → 0 < s.expiry
spells_late (ends {p} {months} s f g t) = omega (arith, start_from (p.total + months))

faulty_some : {ns : List ℕ} {n p : ℕ} → Faulty ns n p → 0 < n
faulty_some (gap_over s f g) = omega arith
faulty_some (total_over s f g t) = omega arith
faulty_some (leap_after s f g t r) = omega arith
faulty_some (none_left s e) = omega arith
faulty_some (after_expiry s f g t) = omega arith

module _ (bytes : List ℕ) where
  by_halves : read_nybbles bytes ≡ reading (halves bytes)
  unfolding read_nybbles
  by_halves = rw (same_nybbles bytes)

  -- every spelling of a schedule that the rules allow is read as that schedule
  pub every_spelling : (s : Schedule) → Spells (halves bytes) s → read_nybbles bytes ≡ record { number = 0; place = 0; schedule = s }
  every_spelling s p = by_halves ∙ spells_read (halves bytes) p

  -- where the rules find a fault, the answer is its number, its place and the blank schedule
  pub every_fault : (n p : ℕ) → Faulty (halves bytes) n p → read_nybbles bytes ≡ record { number = n; place = p; schedule = record { leaps = []; expiry = 0 } }
  every_fault n p f = by_halves ∙ faulty_read (halves bytes) f

  module _ (are_bytes : AreBytes bytes) where
    outcome : Outcome (halves bytes)
    outcome = settled (suc (length (halves bytes))) (halves bytes) (halves bytes) (omega arith) (all_halves bytes are_bytes) _ refl rules.start

    -- a list is read as a schedule exactly when it is a spelling of it
    pub taken_exactly : (s : Schedule) → (read_nybbles bytes ≡ record { number = 0; place = 0; schedule = s }) ↔ Spells (halves bytes) s
    taken_exactly s = (λ e. back e outcome, every_spelling s)
      where
        back : read_nybbles bytes ≡ record { number = 0; place = 0; schedule = s } → Outcome (halves bytes) → Spells (halves bytes) s
        back e (taken {s = t} p) = let same : t ≡ s = ap (λ (r : Reading). r.schedule) (sym (every_spelling t p) ∙ e) in rw same at p
        back e (faulty {n} {p} f) = let zero : n ≡ 0 = ap (λ (r : Reading). r.number) (sym (every_fault n p f) ∙ e) in absurd (omega (arith, faulty_some f))

    -- a list is refused with a number and a place exactly when the rules find that fault there
    pub refused_exactly : (n p : ℕ) → (read_nybbles bytes ≡ record { number = n; place = p; schedule = record { leaps = []; expiry = 0 } }) ↔ Faulty (halves bytes) n p
    refused_exactly n p = (λ e. back e outcome, every_fault n p)
      where
        back : read_nybbles bytes ≡ record { number = n; place = p; schedule = record { leaps = []; expiry = 0 } } → Outcome (halves bytes) → Faulty (halves bytes) n p
        back e (taken {s} q) = let none_left : s.expiry ≡ 0 = ap (λ (r : Reading). r.schedule.expiry) (sym (every_spelling s q) ∙ e) in absurd (omega (arith, spells_late q))
        back e (faulty {n = m} {p = q} f) =
            let same = sym (every_fault m q f) ∙ e in
            let x : m ≡ n = ap (λ (r : Reading). r.number) same in
            let y : q ≡ p = ap (λ (r : Reading). r.place) same in
            rw (x, y) at f

    -- and every list of bytes is one or the other
    pub taken_or_refused : Spells (halves bytes) (read_nybbles bytes).schedule ⊎ Faulty (halves bytes) (read_nybbles bytes).number (read_nybbles bytes).place
    taken_or_refused = elim outcome [ taken {s} q ↦ inl (rw (every_spelling s q) q) | faulty {n} {p} f ↦ inr (rw (every_fault n p f) f) ]
