-- The written codes of sixes and of a gap, by the steps in which they are stored, and how many there are.
-- Assumes nothing.
use mathlib.Core.Path.{◌≡◌, sym, ap, ◌∙◌}
use mathlib.Core.Bool.{true}
use mathlib.Core.List.{List, [], ◌∷◌, ◌++◌, append_assoc}
use Prim.Native.Nat.{ℕ, zero, suc, ◌+◌, ◌*◌, ◌-◌, ◌/◌, ◌%◌, ◌≤◌, ◌<◌}
use native.Mathlib.Omega.{arith}
use lib.Dec.{ltb, leb, eqb}
use lib.ListN.{length, length-append}
use borrow.Author.Tests.{ltb-true, ltb-false, lt-ltb, le-ltb, leb-true, leb-false, le-leb, lt-leb, eqb-true, eqb-false, eq-eqb, ne_eqb}
use Rattle.schedule.specs.declared.Leap.{Leap}
use Rattle.schedule.proofs.Cases.{by_bool}
use Rattle.schedule.proofs.Gaps.{fits_lt}
use Rattle.schedule.proofs.Rounded.{gaps_to, first_to, later_to}
use Rattle.nybbles.specs.Codes.{np_none, np_of}
use Rattle.nybbles.specs.Write.{months_code, sixes_code, sixteen, sixes_in, sixes, years, gap_codes, codes_from}

-- as many codes as there are sixes are enough, and more change nothing
enough : (most other np k : ℕ) → 0 < k → k ≤ most → k ≤ other → sixes_in most np k ≡ sixes_in other np k
unfolding sixes_in
enough zero other np k s h i = absurd (omega arith)
enough (suc most) zero np k s h i = absurd (omega arith)
enough (suc most) (suc other) np k s h i =
    by_bool (ltb 16 k)
    (λ b. let l = ltb-true 16 k b in simp b (ap (λ (cs : List (List ℕ)). sixteen ∷ cs) (enough most other np (k - 16) (omega arith) (omega arith) (omega arith))))
    (λ b. simp b)

-- more than 16 sixes are 0x8F and then 16 less, and at most 16 are one code with the mark
pub sixes_more : (np k : ℕ) → 16 < k → sixes np k ≡ sixteen ∷ sixes np (k - 16)
unfolding sixes sixes_in
sixes_more np zero h = absurd (omega arith)
sixes_more np (suc k) h = simp (lt-ltb 16 (suc k) h) (ap (λ (cs : List (List ℕ)). sixteen ∷ cs) (enough k (suc k - 16) np (suc k - 16) (omega arith) (omega arith) (omega arith)))

pub sixes_last : (np k : ℕ) → 0 < k → k ≤ 16 → sixes np k ≡ sixes_code np k ∷ []
unfolding sixes sixes_in
sixes_last np zero s h = absurd (omega arith)
sixes_last np (suc k) s h = simp (le-ltb 16 (suc k) h)

sixes_in_length : (most np k : ℕ) → 0 < k → k ≤ most → length (sixes_in most np k) ≡ (k - 1) / 16 + 1
unfolding sixes_in
sixes_in_length zero np k s h = absurd (omega arith)
sixes_in_length (suc most) np k s h =
    by_bool (ltb 16 k)
    (λ b. let l = ltb-true 16 k b in
    let i = sixes_in_length most np (k - 16) (omega arith) (omega arith) in
    simp b (omega arith))
    (λ b. let l = ltb-false 16 k b in simp b (omega arith))

pub sixes_length : (np k : ℕ) → 0 < k → length (sixes np k) ≡ (k - 1) / 16 + 1
unfolding sixes
sixes_length np k s = sixes_in_length k np k s (omega arith)

-- what holds in the loop of `push_sixes`: the sixes left, after the codes so far, make the whole
pub record Sixes (before codes : List (List ℕ)) (np k left : ℕ) : Type 0 where
  pub some : 0 < left
  pub whole : codes ++ sixes np left ≡ before ++ sixes np k

module _ (before codes : List (List ℕ)) (np k left : ℕ) (s : Sixes before codes np k left) where
  pub sixes_inside : length before + length (sixes np k) ≤ 390 → length codes < 390
  sixes_inside h = omega (arith, simp length-append at (ap length s.whole), sixes_length np left s.some)

  pub sixes_step : 16 < left → Sixes before (codes ++ (sixteen ∷ [])) np k (left - 16)
  sixes_step h = record { some = omega arith; whole = rw append_assoc (ap (λ (cs : List (List ℕ)). codes ++ cs) (sym (sixes_more np left h)) ∙ s.whole) }

  pub sixes_end : left ≤ 16 → codes ++ (sixes_code np left ∷ []) ≡ before ++ sixes np k
  sixes_end h = ap (λ (cs : List (List ℕ)). codes ++ cs) (sym (sixes_last np left s.some h)) ∙ s.whole

-- the three kinds of gap
pub gap_sixes : (np gap : ℕ) → gap % 6 ≡ 0 → gap_codes np gap ≡ sixes np (gap / 6)
unfolding gap_codes
gap_sixes np gap h = simp (eq-eqb _ _ h)

module _ (np gap : ℕ) (h : gap % 6 ≡ 0 → ⊥) where
  pub gap_months : gap ≤ 16 → gap_codes np gap ≡ months_code np gap ∷ []
  unfolding gap_codes
  gap_months l = simp (ne_eqb _ _ h, le-leb gap 16 l)

  module _ (l : 16 < gap) where
    pub gap_years : gap_codes np gap ≡ years np gap
    unfolding gap_codes
    gap_years = simp (ne_eqb _ _ h, lt-leb gap 16 l)

    -- the codes of the years and the last one, put one after the other
    pub years_put : (before years all : List (List ℕ)) → years ≡ before ++ sixes np_none (gap / 12 * 2) → all ≡ years ++ (months_code np (gap % 12) ∷ [])
        → all ≡ before ++ gap_codes np gap
    years_put before years all e f = f ∙ rw (e, gap_years) (append_assoc before _ _)

    pub years_length : length (gap_codes np gap) ≡ length (sixes np_none (gap / 12 * 2)) + 1
    years_length = ap length gap_years ∙ simp length-append

-- no gap has more codes than months
gap_short : (np gap : ℕ) → 0 < gap → length (gap_codes np gap) ≤ gap
gap_short np gap some =
    by_bool (eqb (gap % 6) 0)
    (λ a. let z = eqb-true (gap % 6) 0 a in omega (arith, ap length (gap_sixes np gap z), sixes_length np (gap / 6) (omega arith)))
    (λ a. let z = eqb-false (gap % 6) 0 a in
    by_bool (leb gap 16)
    (λ b. omega (arith, ap length (gap_months np gap z (leb-true _ _ b))))
    (λ b. let l = leb-false gap 16 b in omega (arith, years_length np gap z l, sixes_length np_none (gap / 12 * 2) (omega arith))))

-- nor a list
pub list_short : (ls : List Leap) (from expiry : ℕ) → gaps_to from ls expiry ≡ true → from + length (codes_from from ls expiry) ≤ expiry
unfolding codes_from gaps_to
list_short [] from expiry f =
    let a : from < expiry = fits_lt from expiry f in
    let b = gap_short 3 (expiry - from) (omega arith) in omega arith
list_short (l ∷ ls) from expiry f =
    let m = l.month in
    let a : from < m = fits_lt from m (first_to from l ls expiry f) in
    let b = gap_short (np_of l.sign) (m - from) (omega arith) in
    let i = list_short ls m expiry (later_to from l ls expiry f) in
    simp length-append (omega arith)

-- the codes of a gap: one, and one more for each 16 months at most
gap_few : (np gap : ℕ) → 0 < gap → 16 * length (gap_codes np gap) ≤ 15 + gap
gap_few np gap some =
    by_bool (eqb (gap % 6) 0)
    (λ a. let z = eqb-true (gap % 6) 0 a in omega (arith, ap length (gap_sixes np gap z), sixes_length np (gap / 6) (omega arith)))
    (λ a. let z = eqb-false (gap % 6) 0 a in
    by_bool (leb gap 16)
    (λ b. omega (arith, ap length (gap_months np gap z (leb-true _ _ b))))
    (λ b. let l = leb-false gap 16 b in omega (arith, years_length np gap z l, sixes_length 0 (gap / 12 * 2) (omega arith))))

pub list_few : (ls : List Leap) (from end : ℕ) → gaps_to from ls end ≡ true → from + 16 * length (codes_from from ls end) ≤ 15 * (length ls + 1) + end
unfolding codes_from gaps_to
list_few [] from end f =
    let a : from < end = fits_lt from end f in
    let b = gap_few 3 (end - from) (omega arith) in omega arith
list_few (l ∷ ls) from end f =
    let m = l.month in
    let a : from < m = fits_lt from m (first_to from l ls end f) in
    let b = gap_few (np_of l.sign) (m - from) (omega arith) in
    let i = list_few ls m end (later_to from l ls end f) in
    simp length-append (omega arith)
