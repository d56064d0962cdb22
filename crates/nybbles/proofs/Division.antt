-- Written codes as nybbles: they are divided again as they were written, and packing them loses no nybble.
-- Assumes nothing.
use mathlib.Core.Path.{◌≡◌, refl, sym, ap, ◌∙◌}
use mathlib.Core.Bool.{true, false, cond, false≢true, and-eq-true_iff, ◌&&◌}
use mathlib.Core.List.{List, [], ◌∷◌, ◌++◌, map, flatten}
use Prim.Native.Nat.{ℕ, zero, suc, ◌+◌, ◌*◌, ◌-◌, ◌/◌, ◌%◌, ◌≤◌, ◌<◌}
use native.Mathlib.Omega.{arith}
use lib.Dec.{ltb, leb, eqb}
use lib.ListN.{length, length-append}
use borrow.Author.Tests.{ltb-false, leb-true, eqb-true, eqb-false}
use Rattle.schedule.specs.declared.Leap.{Leap}
use Rattle.schedule.specs.Schedule.{Schedule, expiry_month}
use Rattle.schedule.proofs.Cases.{by_bool, by_cond}
use Rattle.nybbles.specs.declared.code.Code.{Code}
use Rattle.nybbles.specs.Codes.{nybbles, single, wide, codes_of, np_positive, np_expiry, np_of}
use Rattle.nybbles.specs.Write.{sixes_code, sixes_in, sixes, gap_codes, codes_from, plain_codes, is_single, any_single, padded, evened, pack, spelling, nybbles_of}
use Rattle.nybbles.proofs.Codes.{All, none, more, codes_single, codes_wide}
use Rattle.nybbles.proofs.Filled.{np_small}

-- a written code: a nybble below 8, or one from 8 on and the next
pub data IsCode : List ℕ → Type 0 where
  short : {v : ℕ} → v < 8 → IsCode (v ∷ [])
  long : {n g : ℕ} → 8 ≤ n → n < 16 → g < 16 → IsCode (n ∷ g ∷ [])

all_append : {A : Type 0} {P : A → Type 0} {xs ys : List A} → All P xs → All P ys → All P (xs ++ ys)
all_append none b = b
all_append (more h a) b = more h (all_append a b)

sixes_code_lem : (np k : ℕ) → np < 4 → k ≤ 16 → IsCode (sixes_code np k)
sixes_code_lem np k h l =
    by_cond IsCode (eqb np np_positive && leb k 8)
    (λ e. let w = leb-true k 8 ((and-eq-true_iff (eqb np np_positive) (leb k 8)).0 e).1 in short (omega arith))
    (λ e. long (omega arith) (omega arith) (omega arith))

sixes_all : (most np k : ℕ) → np < 4 → All IsCode (sixes_in most np k)
unfolding sixes_in
sixes_all zero np k h = none
sixes_all (suc most) np k h =
    by_cond (All IsCode) (ltb 16 k)
    (λ b. more (long (omega arith) (omega arith) (omega arith)) (sixes_all most np (k - 16) h))
    (λ b. more (sixes_code_lem np k h (ltb-false 16 k b)) none)

pub gap_all : (np gap : ℕ) → np < 4 → All IsCode (gap_codes np gap)
unfolding gap_codes sixes
gap_all np gap h =
    by_cond (All IsCode) (eqb (gap % 6) 0)
    (λ a. sixes_all (gap / 6) np (gap / 6) h)
    (λ a. by_cond (All IsCode) (leb gap 16)
    (λ b. let w = leb-true gap 16 b in more (long (omega arith) (omega arith) (omega arith)) none)
    (λ b. all_append (sixes_all (gap / 12 * 2) 0 (gap / 12 * 2) (omega arith)) (more (long (omega arith) (omega arith) (omega arith)) none)))

pub list_all : (ls : List Leap) (from expiry : ℕ) → All IsCode (codes_from from ls expiry)
unfolding codes_from
list_all [] from expiry = gap_all np_expiry (expiry - from) (omega arith)
list_all (l ∷ ls) from expiry = all_append (gap_all (np_of l.sign) (l.month - from) (np_small l.sign)) (list_all ls l.month expiry)

padded_all : (cs : List (List ℕ)) → All IsCode cs → All IsCode (padded cs)
unfolding padded
padded_all [] a = a
padded_all (c ∷ cs) (more h a) =
    by_cond (All IsCode) (any_single cs)
    (λ e. more h (padded_all cs a))
    (λ e. more (nine h) a)
  where
    nine : {c : List ℕ} → IsCode c → IsCode (cond (is_single c) (9 ∷ c) c)
    nine (short {v} l) = long {n = 9} {g = v} (omega arith) (omega arith) (omega arith)
    nine (long l m i) = long l m i

-- the written codes of a schedule
pub spelling_all : (s : Schedule) → All IsCode (spelling s)
unfolding spelling evened
spelling_all s =
    let a = list_all s.leaps 0 (expiry_month s) in
    by_cond (All IsCode) (eqb (length (flatten (plain_codes s)) % 2) 1) (λ e. padded_all (plain_codes s) a) (λ e. a)

-- what a written code is read as; there is none without a nybble
unfoldable pub read_as : List ℕ → Code
read_as [] = single 0
read_as (v ∷ []) = single v
read_as (n ∷ g ∷ ns) = wide n g 2

-- written codes are divided again as they were written
pub divided : (cs : List (List ℕ)) → All IsCode cs → codes_of (flatten cs) ≡ map read_as cs
unfolding flatten read_as codes_of
divided [] a = refl
divided (c ∷ cs) (more (short {v} h) a) = codes_single v (flatten cs) h ∙ ap (λ (ds : List Code). single v ∷ ds) (divided cs a)
divided (c ∷ cs) (more (long {n} {g} h l i) a) = codes_wide n g (flatten cs) h ∙ ap (λ (ds : List Code). wide n g 2 ∷ ds) (divided cs a)

-- nybbles are below 16
abbrev pub IsNybble : ℕ → Type 0
IsNybble n = n < 16

pub flat_all : (cs : List (List ℕ)) → All IsCode cs → All IsNybble (flatten cs)
unfolding flatten
flat_all [] a = none
flat_all (c ∷ cs) (more (short {v} h) a) = let i : v < 16 = omega arith in more i (flat_all cs a)
flat_all (c ∷ cs) (more (long h l i) a) = more l (more i (flat_all cs a))

-- bytes hold the nybbles that were packed
pub unpacked : (ns : List ℕ) → length ns % 2 ≡ 0 → All IsNybble ns → nybbles (pack ns) ≡ ns
unfolding nybbles pack
unpacked [] e a = refl
unpacked (m ∷ []) e a = absurd (omega arith)
unpacked (m ∷ n ∷ ns) e (more h (more l a)) =
    let x : (m * 16 + n) / 16 ≡ m = omega arith in
    let y : (m * 16 + n) % 16 ≡ n = omega arith in
    rw (x, y, unpacked ns (omega arith) a)

-- a 9 before the last single nybble is one nybble more, and where there is none the count is even
pub none_single : (cs : List (List ℕ)) → All IsCode cs → any_single cs ≡ false → length (flatten cs) ≡ 2 * length cs
unfolding any_single flatten
none_single [] a e = refl
none_single (c ∷ cs) (more (short h) a) e = absurd (false≢true (sym e))
none_single (c ∷ cs) (more (long h l i) a) e = let i = none_single cs a e in omega arith

pub padded_more : (cs : List (List ℕ)) → any_single cs ≡ true → length (flatten (padded cs)) ≡ length (flatten cs) + 1
unfolding any_single flatten padded
padded_more [] e = absurd (false≢true e)
padded_more (c ∷ cs) e =
    by_bool (any_single cs)
    (λ a. let i : length (flatten (padded cs)) ≡ length (flatten cs) + 1 = padded_more cs a in
    simp (a, length-append) (omega arith))
    (λ a. by_bool (is_single c)
    (λ b. simp (a, b, length-append) (omega arith))
    (λ b. absurd (false≢true (simp (a, b) at e))))

pub evened_even : (cs : List (List ℕ)) → All IsCode cs → length (flatten (evened cs)) % 2 ≡ 0
unfolding evened
evened_even cs all =
    by_bool (eqb (length (flatten cs) % 2) 1)
    (λ a. let odd = eqb-true (length (flatten cs) % 2) 1 a in
    by_bool (any_single cs)
    (λ b. let e : length (flatten (padded cs)) ≡ length (flatten cs) + 1 = padded_more cs b in simp a (omega arith))
    (λ b. let e : length (flatten cs) ≡ 2 * length cs = none_single cs all b in absurd (omega arith)))
    (λ a. let even = eqb-false (length (flatten cs) % 2) 1 a in simp a (omega arith))

pub length_pack : (ns : List ℕ) → length (pack ns) ≡ length ns / 2
unfolding pack
length_pack [] = refl
length_pack (a ∷ []) = refl
length_pack (a ∷ b ∷ ns) = let i = length_pack ns in omega arith

-- the nybble count is even: two nybbles a byte
pub spelling_even : (s : Schedule) → length (flatten (spelling s)) % 2 ≡ 0
unfolding spelling
spelling_even s = evened_even (plain_codes s) (list_all s.leaps 0 (expiry_month s))

pub nybble_count : (s : Schedule) → length (flatten (spelling s)) ≡ 2 * length (nybbles_of s)
unfolding nybbles_of
nybble_count s = let e = spelling_even s in let l = length_pack (flatten (spelling s)) in omega arith

-- the nybbles of a schedule's list are those of its codes: none is lost
pub no_nybble_lost : (s : Schedule) → nybbles (nybbles_of s) ≡ flatten (spelling s)
unfolding nybbles_of
no_nybble_lost s = unpacked (flatten (spelling s)) (spelling_even s) (flat_all (spelling s) (spelling_all s))
