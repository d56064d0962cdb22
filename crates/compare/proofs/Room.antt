-- A comparison of two well-formed lists has at most 4,633 bytes: a line has at most 9, that of a list's first leap at most 8.
-- Assumes nothing.
use mathlib.Core.Path.{◌≡◌, refl, ap}
use mathlib.Core.Bool.{Bool, true, false, not, cond, ◌&&◌, ◌||◌}
use mathlib.Core.List.{List, [], ◌∷◌, ◌++◌}
use Prim.Native.Nat.{ℕ, zero, suc, ◌+◌, ◌*◌, ◌≤◌, ◌<◌}
use native.Mathlib.Nat.{zero-add}
use native.Mathlib.Omega.{arith}
use lib.Dec.{eqb, ltb}
use lib.ListN.{length, length-append}
use borrow.Author.Tests.{eqb-true, ne_eqb, ltb-true, lt-ltb}
use Rattle.ascii.specs.Ascii.{zero_byte}
use Rattle.ascii.specs.Decimal.{decimal}
use Rattle.ascii.proofs.Digits.{decimal_short}
use Rattle.ascii.specs.Lines.{newline, space_byte, between}
use Rattle.schedule.specs.declared.Leap.{Leap}
use Rattle.schedule.specs.Schedule.{Schedule, gaps_fit, well_formed}
use Rattle.schedule.specs.Extends.{extends}
use Rattle.schedule.proofs.Cases.{by_bool}
use Rattle.schedule.proofs.Gaps.{fits_le, first, parts}
use Rattle.compare.proofs.Marks.{leap_marked}
use Rattle.compare.specs.Compare.{leap_mark, mark, relation_by, compared}
use Rattle.compare.specs.Private.{line_bytes, month_bytes, months_bytes, expiry_bytes, comparison}
use Rattle.compare.proofs.Bytes.{compared_bytes}

-- the most bytes of the line of a month
wide : ℕ → ℕ
wide m = cond (ltb m 1000) 8 9

wide_most : (m : ℕ) → wide m ≤ 9
unfolding wide
wide_most m = by_bool (ltb m 1000) (λ t. rw t (omega arith)) (λ f. rw f (omega arith))

digits_most : (m : ℕ) → m < 10000 → length (decimal m) + 5 ≤ wide m
unfolding wide
digits_most m h =
    by_bool (ltb m 1000) (λ t. rw t (omega (arith, decimal_short 2 m (ltb-true m 1000 t)))) (λ f. rw f (omega (arith, decimal_short 3 m h)))

-- that of each month at which a list has a leap, over n months from month m on
weight : List Leap → ℕ → ℕ
weight ls m = cond (eqb (leap_mark ls m) zero_byte) 0 (wide m)

total : List Leap → ℕ → ℕ → ℕ
total ls m zero = 0
total ls m (suc n) = weight ls m + total ls (m + 1) n

-- ---- the lines by the weights

full_line : (m x y : ℕ) → length (line_bytes (newline ∷ []) m x y) ≡ length (decimal m) + 5
full_line m x y = length-append (decimal m) (space_byte ∷ x ∷ space_byte ∷ y ∷ newline ∷ [])

line_weight : (a b : Schedule) (m : ℕ) → m < 10000 → length (month_bytes (newline ∷ []) a b m) ≤ weight a.leaps m + weight b.leaps m
unfolding month_bytes weight
line_weight a b m h =
    rw (leap_marked a.leaps m, leap_marked b.leaps m) (go (eqb (leap_mark a.leaps m) zero_byte) (eqb (leap_mark b.leaps m) zero_byte) (eqb (mark a m) (mark b m)))
  where
    line : List ℕ
    line = line_bytes (newline ∷ []) m (mark a m) (mark b m)

    fits : length line ≤ wide m
    fits = rw (full_line m (mark a m) (mark b m)) (digits_most m h)

    go : (p q e : Bool) → length (cond ((not p || not q) && not e) line []) ≤ cond p 0 (wide m) + cond q 0 (wide m)
    go true true true = omega arith
    go true true false = omega arith
    go true false true = omega arith
    go true false false = omega (arith, fits)
    go false true true = omega arith
    go false true false = omega (arith, fits)
    go false false true = omega arith
    go false false false = omega (arith, fits)

lines_weight : (a b : Schedule) (m n : ℕ) → m + n ≤ 2401 → length (months_bytes (newline ∷ []) a b m n) ≤ total a.leaps m n + total b.leaps m n
unfolding months_bytes total
lines_weight a b m zero h = omega arith
lines_weight a b m (suc n) h =
    rw (length-append (month_bytes (newline ∷ []) a b m) (months_bytes (newline ∷ []) a b (m + 1) n))
    (omega (arith, line_weight a b m (omega arith), lines_weight a b (m + 1) n (omega arith)))

-- ---- the weights of a list's leaps

one_after : (l : Leap) (m n : ℕ) → l.month < m → total (l ∷ []) m n ≡ 0
unfolding total weight leap_mark
one_after l m zero h = refl
one_after l m (suc n) h = rw (ne_eqb l.month m (λ z. omega arith), zero-add) (one_after l (m + 1) n (omega arith))

weight_at : (l : Leap) (m : ℕ) → weight (l ∷ []) m ≤ wide m
unfolding weight
weight_at l m = by_bool (eqb (leap_mark (l ∷ []) m) zero_byte) (λ t. rw t (omega arith)) (λ f. rw f (omega arith))

weight_off : (l : Leap) (m : ℕ) → eqb l.month m ≡ false → weight (l ∷ []) m ≡ 0
unfolding weight leap_mark
weight_off l m f = rw f

one_most : (l : Leap) (m n : ℕ) → total (l ∷ []) m n ≤ wide l.month
unfolding total
one_most l m zero = omega arith
one_most l m (suc n) =
    by_bool (eqb l.month m)
    (λ t.
    let e : l.month ≡ m = eqb-true l.month m t in
    omega (arith, one_after l (m + 1) n (omega arith), weight_at l m, ap wide e))
    (λ f. omega (arith, weight_off l m f, one_most l (m + 1) n))

weight_more : (l : Leap) (ls : List Leap) (m : ℕ) → weight (l ∷ ls) m ≤ weight (l ∷ []) m + weight ls m
unfolding weight leap_mark
weight_more l ls m = by_bool (eqb l.month m) (λ t. rw t (omega arith)) (λ f. rw f (omega arith))

total_more : (l : Leap) (ls : List Leap) (m n : ℕ) → total (l ∷ ls) m n ≤ total (l ∷ []) m n + total ls m n
unfolding total
total_more l ls m zero = omega arith
total_more l ls m (suc n) = omega (arith, weight_more l ls m, total_more l ls (m + 1) n)

total_none : (m n : ℕ) → total [] m n ≡ 0
unfolding total weight leap_mark
total_none m zero = refl
total_none m (suc n) = rw zero-add (total_none (m + 1) n)

total_most : (ls : List Leap) (m n : ℕ) → total ls m n ≤ length ls * 9
total_most [] m n = omega (arith, total_none m n)
total_most (l ∷ ls) m n = omega (arith, total_more l ls m n, one_most l m n, wide_most l.month, total_most ls m n)

-- the first leap of a list is at most at month 999
first_wide : (m : ℕ) → m ≤ 999 → wide m ≡ 8
unfolding wide
first_wide m h = rw (lt-ltb m 1000 (omega arith))

list_most : (ls : List Leap) (e n : ℕ) → gaps_fit 0 ls e ≡ true → length ls ≤ 256 → total ls 0 n ≤ 2303
list_most [] e n f h = omega (arith, total_none 0 n)
list_most (l ∷ ls) e n f h =
    let early = fits_le 0 l.month (first 0 l ls e f) in
    omega (arith, total_more l ls 0 n, one_most l 0 n, first_wide l.month (omega arith), total_most ls 0 n)

-- ---- the whole

few_leaps : (s : Schedule) → well_formed s ≡ true → length s.leaps ≤ 256
few_leaps s w = (parts s w).room

expiries_most : (a b : Schedule) → well_formed a ≡ true → well_formed b ≡ true → length (expiry_bytes (newline ∷ []) a b) ≤ 16
unfolding expiry_bytes
expiries_most a b w v =
    by_bool (eqb a.expiry b.expiry) (λ t. rw t (omega arith))
    (λ f. rw (f, length-append (decimal a.expiry) (space_byte ∷ decimal b.expiry ++ (newline ∷ [])), length-append (decimal b.expiry) (newline ∷ []))
    (omega (arith, decimal_short 5 a.expiry (omega (arith, (parts a w).end)), decimal_short 5 b.expiry (omega (arith, (parts b v).end)))))

relation_most : (x y : Bool) → length (relation_by x y) ≤ 10
unfolding relation_by
relation_most true true = omega arith
relation_most true false = omega arith
relation_most false true = omega arith
relation_most false false = omega arith

bytes_most : (a b : Schedule) → well_formed a ≡ true → well_formed b ≡ true → length (comparison true a b ++ (newline ∷ [])) ≤ 4633
unfolding comparison between
bytes_most a b w v =
    simp length-append
    (omega (
      arith,
      lines_weight a b 0 2401 (omega arith),
      list_most a.leaps a.expiry 2401 (parts a w).gaps (few_leaps a w),
      list_most b.leaps b.expiry 2401 (parts b v).gaps (few_leaps b v),
      expiries_most a b w v,
      relation_most (extends a b) (extends b a),
    ))

-- a comparison has at most 4,633 bytes
pub at_most : (a b : Schedule) → well_formed a ≡ true → well_formed b ≡ true → length (compared a b) ≤ 4633
at_most a b w v = rw (compared_bytes a b) (bytes_most a b w v)
