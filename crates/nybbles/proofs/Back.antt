-- Reading back: the nybble list of a well-formed schedule is read as that schedule.
-- Assumes nothing.
use mathlib.Core.Path.{◌≡◌, refl, ap, ◌∙◌, sym}
use mathlib.Core.Bool.{true, false≢true}
use mathlib.Core.List.{List, [], ◌∷◌, ◌++◌, map, map-append, append-nil, flatten}
use Prim.Native.Nat.{ℕ, ◌+◌, ◌-◌, ◌%◌, ◌≤◌, ◌<◌}
use native.Mathlib.Omega.{arith}
use lib.Dec.{eqb}
use lib.ListN.{length, length-append, length-map}
use borrow.Author.Tests.{lt-ltb, le-ltb, le-leb, eqb-true}
use Rattle.schedule.specs.declared.Sign.{Sign}
use Rattle.schedule.specs.declared.Sign.TheVariants.{Positive, Negative}
use Rattle.schedule.specs.declared.Leap.{Leap}
use Rattle.schedule.specs.Schedule.{Schedule, month_start, blank_schedule, expiry_month, rounded_down, leaves_gap, well_formed}
use Rattle.calendar.specs.Calendar.{starts_month}
use Rattle.schedule.specs.Answers.{Reading, accepted, with_leap}
use Rattle.schedule.proofs.Cases.{by_bool}
use Rattle.schedule.proofs.Gaps.{fits_lt, fits_le, parts}
use Rattle.schedule.proofs.Rounded.{gaps_to, first_to, later_to, before_to, rounded_gaps, rounds_itself, first_leaves_gap}
use Rattle.calendar.proofs.Laws.{month_most}
use Rattle.schedule.proofs.Adds.{adds, made_again}
use Rattle.nybbles.proofs.Sound.{accepted_first}
use Rattle.nybbles.specs.declared.code.Mark.{Mark}
use Rattle.nybbles.specs.declared.code.Mark.TheVariants.{Leaps, Expires}
use Rattle.nybbles.specs.declared.code.Code.{Code}
use Rattle.nybbles.specs.Codes.{nybbles, np_expiry, mark_of, in_sixes, np_positive, codes_of, np_of}
use Rattle.nybbles.specs.Read.{State, fault, after, read_codes, read_nybbles}
use Rattle.nybbles.specs.Write.{codes_from, plain_codes, is_single, any_single, padded, evened, spelling, nybbles_of}
use Rattle.nybbles.proofs.Plain.{plain, read_plain, plain_read}
use Rattle.nybbles.proofs.Filled.{np_small}
use Rattle.nybbles.proofs.Division.{read_as, divided, spelling_all, no_nybble_lost}
use Rattle.nybbles.proofs.Meaning.{Means, last, more, single_read, pair_read, written_means}

-- codes are taken with one answer, wherever they stand
abbrev Takes : State → List Code → Reading → Type 0
Takes st cs r = (p l : ℕ) → l ≡ p + length cs → read_codes l p st (map plain cs) ≡ r

abbrev at : ℕ → ℕ → Schedule → State
at g t s = record { gap = g; total = t; schedule = s }

module _ (s : Schedule) (month : ℕ) (m : month ≤ 2400) where
  -- the codes of a gap are taken where its last code is, whatever part of the gap that has
  gap_back : (mark : Mark) (rest : List Code) (r : Reading) → ((c : Code) (g t : ℕ) → c.mark ≡ mark → g + c.months ≤ 999 → t + c.months ≡ month → Takes (at g t s) (c ∷ rest) r)
      → (g t : ℕ) {cs : List Code} {gap : ℕ} → Means mark cs gap → g + gap ≤ 999 → t + gap ≡ month → Takes (at g t s) (cs ++ rest) r
  unfolding read_codes fault after
  gap_back mark rest r final g t {gap} (last {c} e n) f q p l h = final c g t e (omega arith) (omega arith) p l h
  gap_back mark rest r final g t {gap} (more {c} {rest = left} e n w) f q p l h =
      simp (e, le-leb (g + c.months) 999 (omega arith), le-leb (t + c.months) 2400 (omega arith))
      (gap_back mark rest r final (g + c.months) (t + c.months) w (omega arith) (omega arith) (p + 1) l (omega arith))

  -- a leap, and the expiry
  leap_back : (k : Sign) (rest : List Code) (r : Reading) → length s.leaps < 256 → Takes (at 0 month (with_leap s month k)) rest r
      → (c : Code) (g t : ℕ) → c.mark ≡ Leaps k → g + c.months ≤ 999 → t + c.months ≡ month → Takes (at g t s) (c ∷ rest) r
  unfolding read_codes fault after
  leap_back k rest r room takes c g t e f q p l h =
      simp (e, q, le-leb (g + c.months) 999 f, le-leb month 2400 m, lt-ltb (length s.leaps) 256 room) (takes (p + 1) l (omega arith))

  end_back : (c : Code) (g t : ℕ) → c.mark ≡ Expires → g + c.months ≤ 999 → t + c.months ≡ month → Takes (at g t s) (c ∷ []) (accepted s (month_start month))
  unfolding read_codes fault after
  end_back c g t e f q p l h = simp (e, q, le-leb (g + c.months) 999 f, le-leb month 2400 m, le-ltb (p + 1) l (omega arith))

np_mark : (k : Sign) → mark_of (np_of k) ≡ Leaps k
np_mark Positive = refl
np_mark Negative = refl

-- the codes of a list of leaps and of the expiry
list_back : (ls : List Leap) (from expiry : ℕ) (s : Schedule) → gaps_to from ls expiry ≡ true → expiry ≤ 2400 → length s.leaps + length ls ≤ 256
    → Takes (at 0 from s) (map read_as (codes_from from ls expiry)) (accepted (adds s ls) (month_start expiry))
unfolding codes_from gaps_to adds
list_back [] from expiry s f h room =
    let a : from < expiry = fits_lt from expiry f in
    let b : expiry - from ≤ 999 = fits_le from expiry f in
    let w = written_means np_expiry (expiry - from) (omega arith) (omega arith) in
    rw append-nil at (gap_back s expiry h Expires [] _ (end_back s expiry h) 0 from w (omega arith) (omega arith))
list_back (l ∷ ls) from expiry s f h room =
    let m = l.month in
    let a : from < m = fits_lt from m (first_to from l ls expiry f) in
    let b : m - from ≤ 999 = fits_le from m (first_to from l ls expiry f) in
    let d : m < expiry = before_to ls m expiry (later_to from l ls expiry f) in
    let i : m ≤ 2400 = omega arith in
    let w = rw (np_mark l.sign) at (written_means (np_of l.sign) (m - from) (np_small l.sign) (omega arith)) in
    let rest = list_back ls m expiry (with_leap s m l.sign) (later_to from l ls expiry f) h (omega (arith, length-append s.leaps (l ∷ []))) in
    rw map-append
    (gap_back s m i (Leaps l.sign) _ _ (leap_back s m i l.sign (map read_as (codes_from m ls expiry)) _ (omega arith) rest) 0 from w (omega arith) (omega arith))

-- a single nybble with a 9 before it has its months and its mark
nine : (v : ℕ) → plain (read_as (9 ∷ v ∷ [])) ≡ plain (read_as (v ∷ []))
nine v = rw (single_read v, pair_read in_sixes np_positive v (omega arith) (omega arith))

nine_single : (c : List ℕ) → is_single c ≡ true → plain (read_as (9 ∷ c)) ≡ plain (read_as c)
nine_single [] b = absurd (false≢true b)
nine_single (v ∷ []) b = nine v
nine_single (n ∷ g ∷ ns) b = absurd (omega (arith, eqb-true (length (n ∷ g ∷ ns)) 1 b))

padded_plain : (cs : List (List ℕ)) → map plain (map read_as (padded cs)) ≡ map plain (map read_as cs)
unfolding padded
padded_plain [] = refl
padded_plain (c ∷ cs) =
    by_bool (any_single cs)
    (λ a. simp (a, padded_plain cs))
    (λ a. by_bool (is_single c) (λ b. simp (a, b, nine_single c b)) (λ b. simp (a, b)))

evened_plain : (cs : List (List ℕ)) → map plain (map read_as (evened cs)) ≡ map plain (map read_as cs)
unfolding evened
evened_plain cs = by_bool (eqb (length (flatten cs) % 2) 1) (λ a. simp a (padded_plain cs)) (λ a. simp a)

-- the nybble list of a well-formed schedule is read as the schedule rounded down
pub reads_back_rounded : (s : Schedule) → well_formed s ≡ true → leaves_gap s ≡ true → read_nybbles (nybbles_of s) ≡ record { number = 0; place = 0; schedule = rounded_down s }
unfolding spelling
reads_back_rounded s w g =
    let p = parts s w in
    let cs = map plain (map read_as (plain_codes s)) in
    let same : map plain (codes_of (nybbles (nybbles_of s))) ≡ cs =
    ap (λ (ms : List ℕ). map plain (codes_of ms)) (no_nybble_lost s) ∙ (ap (map plain) (divided (spelling s) (spelling_all s)) ∙ evened_plain (plain_codes s)) in
    let taken : read_plain cs ≡ accepted (adds blank_schedule s.leaps) (month_start (expiry_month s)) =
    list_back s.leaps 0 (expiry_month s) blank_schedule (rounded_gaps s w g) (month_most s.expiry) (omega (arith, p.room)) 0 (length cs) (omega (arith, length-map (map read_as (plain_codes s)) plain)) in
    let read = plain_read (nybbles_of s) in
    let alike : read_plain (map plain (codes_of (nybbles (nybbles_of s)))) ≡ accepted (adds blank_schedule s.leaps) (month_start (expiry_month s)) = ap read_plain same ∙ taken in
    read.same (read.number ∙ ap (λ (r : Reading). r.number) alike) ∙ (alike ∙ made_again (rounded_down s))

-- so every one that expires on the first of a month is read back as itself
pub reads_back : (s : Schedule) → well_formed s ≡ true → starts_month s.expiry ≡ true → read_nybbles (nybbles_of s) ≡ record { number = 0; place = 0; schedule = s }
reads_back s w m = reads_back_rounded s w (first_leaves_gap s w m) ∙ ap (λ (t : Schedule). record { number = 0; place = 0; schedule = t }) (rounds_itself s m)

-- and no other does
pub only_first : (s : Schedule) → read_nybbles (nybbles_of s) ≡ record { number = 0; place = 0; schedule = s } → starts_month s.expiry ≡ true
only_first s e = ap (λ (r : Reading). starts_month r.schedule.expiry) (sym e) ∙ accepted_first (nybbles_of s) (ap (λ (r : Reading). r.number) e)
