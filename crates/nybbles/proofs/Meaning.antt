-- What the written codes of a gap mean: that gap, with its mark at the end.
-- Assumes nothing.
use mathlib.Core.Path.{◌≡◌, refl}
use mathlib.Core.Bool.{and-eq-true_iff, ◌&&◌}
use mathlib.Core.List.{List, [], ◌∷◌, ◌++◌, map, map-append, flatten}
use Prim.Native.Nat.{ℕ, zero, suc, ◌+◌, ◌*◌, ◌-◌, ◌/◌, ◌%◌, ◌≤◌, ◌<◌}
use native.Mathlib.Omega.{arith}
use lib.Dec.{ltb, leb, eqb}
use borrow.Author.Tests.{ltb-true, ltb-false, leb-true, leb-false, eqb-true, eqb-false}
use Rattle.schedule.specs.declared.Sign.TheVariants.{Positive}
use Rattle.schedule.proofs.Cases.{by_bool}
use Rattle.nybbles.specs.declared.code.Mark.{Mark}
use Rattle.nybbles.specs.declared.code.Mark.TheVariants.{Continues, Leaps}
use Rattle.nybbles.specs.declared.code.Code.{Code}
use Rattle.nybbles.specs.Codes.{np_none, np_positive, mark_of, in_sixes, in_months, bit_m, bits_np, months_of, single, wide, codes_of}
use Rattle.nybbles.specs.Write.{pair, months_code, sixes_code, sixes_in, sixes, gap_codes}
use Rattle.nybbles.proofs.Division.{read_as, divided, gap_all}

-- codes mean a gap with a mark: all but the last have NP 00, the last has the mark, and their months add up to the gap
pub data Means (mark : Mark) : List Code → ℕ → Type 0 where
  last : {c : Code} {gap : ℕ} → c.mark ≡ mark → c.months ≡ gap → Means mark (c ∷ []) gap
  more : {c : Code} {cs : List Code} {rest gap : ℕ} → c.mark ≡ Continues → c.months + rest ≡ gap → Means mark cs rest → Means mark (c ∷ cs) gap

-- what single nybbles and pairs are read as
pub single_read : (v : ℕ) → read_as (v ∷ []) ≡ record { months = 6 * (v + 1); mark = Leaps Positive; size = 1 }
unfolding read_as single
single_read v = refl

pub pair_read : (m np g : ℕ) → m < 2 → np < 4 → read_as (pair m np g) ≡ record { months = months_of m g; mark = mark_of np; size = 2 }
unfolding read_as wide
pair_read m np g h i =
    let n = 8 + 4 * m + np in
    let q : n / 4 ≡ 2 + m = omega arith in
    let d : bit_m n ≡ m = rw q (omega arith) in
    let e : bits_np n ≡ np = omega arith in
    simp (d, e)

-- one code alone, and one that goes on
one : {mark : Mark} {c : Code} {gap : ℕ} (d : Code) → d ≡ c → c.mark ≡ mark → c.months ≡ gap → Means mark (d ∷ []) gap
one d e m n = rw e (last m n)

on : {mark : Mark} {c : Code} {cs : List Code} {rest gap : ℕ} (d : Code) → d ≡ c → c.mark ≡ Continues → c.months + rest ≡ gap → Means mark cs rest → Means mark (d ∷ cs) gap
on d e m n r = rw e (more m n r)

-- codes of a gap that goes on, and those of the rest
then : {mark : Mark} {cs ds : List Code} {a b : ℕ} (gap : ℕ) → Means Continues cs a → Means mark ds b → a + b ≡ gap → Means mark (cs ++ ds) gap
then {b} gap (last {c} m n) r e =
    let q : c.months + b ≡ gap = omega arith in
    more m q r
then {b} gap (more {c} {rest} m n s) r e =
    let q : c.months + (rest + b) ≡ gap = omega arith in
    more m q (then (rest + b) s r refl)

-- the last code of a gap in sixes, 0x8F before it, and months
sixes_last : (np k : ℕ) → np < 4 → 0 < k → k ≤ 16 → Means (mark_of np) (read_as (sixes_code np k) ∷ []) (6 * k)
sixes_last np k h some l =
    by_bool (eqb np np_positive && leb k 8)
    (λ e. let w = (and-eq-true_iff (eqb np np_positive) (leb k 8)).0 e in
    let v = leb-true k 8 w.1 in
    simp e (one _ (single_read (k - 1)) (simp (eqb-true np np_positive w.0)) (omega arith)))
    (λ e. simp e (one _ (pair_read in_sixes np (k - 1) (omega arith) h) refl (omega arith)))

months_last : (np m : ℕ) → np < 4 → 0 < m → m ≤ 16 → Means (mark_of np) (read_as (months_code np m) ∷ []) m
months_last np m h some l = one _ (pair_read in_months np (m - 1) (omega arith) h) refl (omega arith)

sixes_in_mean : (most np k : ℕ) → np < 4 → 0 < k → k ≤ most → Means (mark_of np) (map read_as (sixes_in most np k)) (6 * k)
unfolding sixes_in
sixes_in_mean zero np k h some l = absurd (omega arith)
sixes_in_mean (suc most) np k h some l =
    by_bool (ltb 16 k)
    (λ b. let w = ltb-true 16 k b in
    let q : 96 + 6 * (k - 16) ≡ 6 * k = omega arith in
    simp b (on _ (pair_read in_sixes np_none 15 (omega arith) (omega arith)) refl q (sixes_in_mean most np (k - 16) h (omega arith) (omega arith))))
    (λ b. simp b (sixes_last np k h some (ltb-false 16 k b)))

sixes_mean : (np k : ℕ) → np < 4 → 0 < k → Means (mark_of np) (map read_as (sixes np k)) (6 * k)
unfolding sixes
sixes_mean np k h some = sixes_in_mean k np k h some (omega arith)

pub written_means : (np gap : ℕ) → np < 4 → 0 < gap → Means (mark_of np) (map read_as (gap_codes np gap)) gap
unfolding gap_codes
written_means np gap h some =
    by_bool (eqb (gap % 6) 0)
    (λ a. let z = eqb-true (gap % 6) 0 a in
    let e : 6 * (gap / 6) ≡ gap = omega arith in
    simp a (rw e at (sixes_mean np (gap / 6) h (omega arith))))
    (λ a. let z = eqb-false (gap % 6) 0 a in
    by_bool (leb gap 16)
    (λ b. simp (a, b) (months_last np gap h some (leb-true gap 16 b)))
    (λ b. let large = leb-false gap 16 b in
    simp (a, b, map-append) (then gap (sixes_mean np_none (gap / 12 * 2) (omega arith) (omega arith)) (months_last np (gap % 12) h (omega arith) (omega arith)) (omega arith))))

-- the codes of a gap mean that gap: all but the last have NP 00, the last has the mark, and their months add up to the gap
pub gap_means : (np gap : ℕ) → np < 4 → 0 < gap → Means (mark_of np) (codes_of (flatten (gap_codes np gap))) gap
gap_means np gap h some = rw (divided (gap_codes np gap) (gap_all np gap h)) (written_means np gap h some)
