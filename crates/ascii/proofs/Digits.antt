-- The digits of a number mean it, and are read back as it; and what each byte makes of the reading of a number.
-- Assumes nothing.
use mathlib.Core.Path.{◌≡◌, refl, sym, ap, ◌∙◌}
use mathlib.Core.Bool.{true, false, cond, ◌&&◌, and-eq-true_iff}
use mathlib.Core.List.{List, [], ◌∷◌, ◌++◌, append_assoc}
use Prim.Native.Nat.{ℕ, zero, suc, ◌+◌, ◌-◌, ◌*◌, ◌/◌, ◌%◌, ◌^◌, ◌≤◌, ◌<◌}
use native.Mathlib.Nat.{pow-suc, mul_assoc, mul_comm, mul-le-mul_left, mul-le-mul_right}
use native.Mathlib.Omega.{arith}
use lib.Dec.{ltb, leb}
use lib.ListN.{length, get_or, drop, length-append, drop_of_length-le}
use borrow.Author.Tests.{ltb-true, ltb-false, lt-ltb, le-ltb, leb-true, le-leb, lt-leb}
use Rattle.ascii.specs.Ascii.{within}
use Rattle.std.specs.Prelude.{Option, Some, None}
use Rattle.ascii.specs.Decimal.{digit, digits_in, decimal, pair, is_digit, all_digits, value_after, max_number, number_of}
use Rattle.ascii.proofs.Cases.{by_bool}
use Rattle.ascii.proofs.Lists.{uncons}

-- any bound above the number is enough
enough : (j k n : ℕ) → n < j → n < k → digits_in j n ≡ digits_in k n
unfolding digits_in
enough zero k n h g = absurd (omega arith)
enough (suc j) zero n h g = absurd (omega arith)
enough (suc j) (suc k) n h g =
    by_bool (ltb n 10) (λ a. simp a)
    (λ a. let b : 10 ≤ n = ltb-false n 10 a in
    let e : digits_in j (n / 10) ≡ digits_in k (n / 10) = enough j k (n / 10) (omega arith) (omega arith) in
    simp (a, e))

-- a number of one digit, and of more
pub small : (n : ℕ) → n < 10 → decimal n ≡ digit n ∷ []
unfolding decimal digits_in
small n h = simp (lt-ltb n 10 h)

pub large : (n : ℕ) → 10 ≤ n → decimal n ≡ decimal (n / 10) ++ (digit (n % 10) ∷ [])
unfolding decimal digits_in
large n h =
    let e : digits_in n (n / 10) ≡ digits_in (suc (n / 10)) (n / 10) = enough n (suc (n / 10)) (n / 10) (omega arith) (omega arith) in
    simp (le-ltb n 10 h, e)

-- a number of two digits, and of more, by its last two digits
pub two_digits : (n : ℕ) → 10 ≤ n → n < 100 → decimal n ≡ pair n
two_digits n h g =
    let last : n / 10 ≡ n / 10 % 10 = omega arith in
    large n h ∙ rw (small (n / 10) (omega arith), ← last)

pub more_digits : (n : ℕ) → 100 ≤ n → decimal n ≡ decimal (n / 100) ++ pair n
more_digits n h =
    let tenths : n / 10 / 10 ≡ n / 100 = omega arith in
    large n (omega arith)
    ∙ rw (large (n / 10) (omega arith), tenths) (append_assoc (decimal (n / 100)) (digit (n / 10 % 10) ∷ []) (digit (n % 10) ∷ []))

-- a number below a power of ten has no more digits than that
pub decimal_short : (k n : ℕ) → n < 10 ^ suc k → length (decimal n) ≤ suc k
decimal_short zero n h = omega (arith, ap length (small n h))
decimal_short (suc k) n h =
    by_bool (ltb n 10) (λ a. omega (arith, ap length (small n (ltb-true n 10 a))))
    (λ a. let tenth : length (decimal (n / 10)) ≤ suc k = decimal_short k (n / 10) (omega (arith, pow-suc 10 (suc k))) in
    omega (arith, ap length (large n (ltb-false n 10 a)), length-append (decimal (n / 10)) (digit (n % 10) ∷ [])))

-- ---- the reading of a number

-- what is read from bytes after the digits of n
unfoldable pub number_after : ℕ → List ℕ → Option ℕ
number_after n bytes = cond (all_digits bytes && leb (value_after n bytes) max_number) (Some (value_after n bytes)) None

pub empty : (field : List ℕ) → length field ≡ 0 → number_of field ≡ None
unfolding number_of
empty [] h = refl
empty (b ∷ bs) h = absurd (omega arith)

pub begins : (field : List ℕ) → (length field ≡ 0 → ⊥) → number_of field ≡ number_after 0 field
unfolding number_of number_after
begins [] h = absurd (h refl)
begins (b ∷ bs) h = refl

-- digits after a number make no less of it
grows : (bytes : List ℕ) (n : ℕ) → n ≤ value_after n bytes
unfolding value_after
grows [] n = omega arith
grows (b ∷ bs) n = omega (arith, grows bs (n * 10 + (b - 48)))

module _ (bytes : List ℕ) (i n : ℕ) where
  pub done : length bytes ≤ i → n ≤ max_number → number_after n (drop i bytes) ≡ Some n
  unfolding number_after all_digits value_after
  done h f = rw (drop_of_length-le bytes h) (simp (le-leb n max_number f))

  module _ (h : i < length bytes) where
    pub no_digit : is_digit (get_or bytes i 0) ≡ false → number_after n (drop i bytes) ≡ None
    unfolding number_after all_digits
    no_digit d = rw (uncons bytes i h) (simp d)

    module _ (d : is_digit (get_or bytes i 0) ≡ true) (v : ℕ) (e : v ≡ get_or bytes i 0 - 48) where
      pub more : number_after n (drop i bytes) ≡ number_after (n * 10 + v) (drop (i + 1) bytes)
      unfolding number_after all_digits value_after
      more = rw (e, uncons bytes i h) (simp d)

      pub too_large : max_number < n * 10 + v → number_after n (drop i bytes) ≡ None
      unfolding number_after
      too_large l =
          let rest = drop (i + 1) bytes in
          more
          ∙ by_bool (all_digits rest) (λ a. simp (a, lt-leb (value_after (n * 10 + v) rest) max_number (omega (arith, grows rest (n * 10 + v))))) (λ a. simp a)

-- ---- the digits of a number are read back as the number

value_append : (xs ys : List ℕ) (n : ℕ) → value_after n (xs ++ ys) ≡ value_after (value_after n xs) ys
unfolding value_after
value_append [] ys n = refl
value_append (x ∷ xs) ys n = value_append xs ys (n * 10 + (x - 48))

digits_append : (xs : List ℕ) (d : ℕ) → all_digits xs ≡ true → is_digit d ≡ true → all_digits (xs ++ (d ∷ [])) ≡ true
unfolding all_digits
digits_append [] d a b = simp b
digits_append (x ∷ xs) d a b =
    let e = (and-eq-true_iff (is_digit x) (all_digits xs)).0 a in
    simp (e.0, digits_append xs d e.1 b)

digit_is : (d : ℕ) → d < 10 → is_digit (digit d) ≡ true
unfolding within
digit_is d h = simp (le-leb 48 (48 + d) (omega arith), le-leb (48 + d) 57 (omega arith))

-- the digits mean the number
value_back : (k n : ℕ) → n < k → value_after 0 (digits_in k n) ≡ n
unfolding digits_in value_after
value_back zero n h = absurd (omega arith)
value_back (suc k) n h =
    by_bool (ltb n 10) (λ a. simp a (omega arith))
    (λ a. let b : 10 ≤ n = ltb-false n 10 a in
    let t : value_after 0 (digits_in k (n / 10)) ≡ n / 10 = value_back k (n / 10) (omega arith) in
    simp a (value_append (digits_in k (n / 10)) (digit (n % 10) ∷ []) 0 ∙ omega (arith, t)))

all_digits_lem : (k n : ℕ) → n < k → all_digits (digits_in k n) ≡ true
unfolding digits_in all_digits
all_digits_lem zero n h = absurd (omega arith)
all_digits_lem (suc k) n h =
    by_bool (ltb n 10) (λ a. simp (a, digit_is n (ltb-true n 10 a)))
    (λ a. let b : 10 ≤ n = ltb-false n 10 a in
    simp a (digits_append (digits_in k (n / 10)) (digit (n % 10)) (all_digits_lem k (n / 10) (omega arith)) (digit_is (n % 10) (omega arith))))

pub value_of : (n : ℕ) → value_after 0 (decimal n) ≡ n
unfolding decimal
value_of n = value_back (suc n) n (omega arith)

pub are_digits : (n : ℕ) → all_digits (decimal n) ≡ true
unfolding decimal
are_digits n = all_digits_lem (suc n) n (omega arith)

pub some_digit : (n : ℕ) → length (decimal n) ≡ 0 → ⊥
some_digit n =
    by_bool (ltb n 10) (λ a z. omega (arith, ap length (small n (ltb-true n 10 a))))
    (λ a z. omega (arith, ap length (large n (ltb-false n 10 a)), length-append (decimal (n / 10)) (digit (n % 10) ∷ [])))

-- a number up to 2^64 - 1 is read back from its digits
pub decimal_back : (n : ℕ) → n ≤ max_number → number_of (decimal n) ≡ Some n
unfolding number_after
decimal_back n h = begins (decimal n) (some_digit n) ∙ simp (are_digits n, value_of n, le-leb n max_number h)

-- ---- as many digits, no larger a number

some_tens : (k : ℕ) → 1 ≤ 10 ^ k
some_tens zero = omega arith
some_tens (suc k) = omega (arith, some_tens k, pow-suc 10 k)

-- digits after those of n, at most k of them, mean less than n + 1 followed by k zeros
value_below : (k : ℕ) (xs : List ℕ) (n : ℕ) → length xs ≤ k → all_digits xs ≡ true → value_after n xs < (n + 1) * 10 ^ k
unfolding value_after all_digits within
value_below k [] n h d = omega (arith, mul-le-mul_left (n + 1) (some_tens k))
value_below zero (x ∷ xs) n h d = absurd (omega arith)
value_below (suc k) (x ∷ xs) n h d =
    let e = (and-eq-true_iff (is_digit x) (all_digits xs)).0 d in
    let nine : x ≤ 57 = leb-true x 57 ((and-eq-true_iff (leb 48 x) (leb x 57)).0 e.0).1 in
    let m = n * 10 + (x - 48) in
    let less : (m + 1) * 10 ^ k ≤ (n + 1) * 10 * 10 ^ k = mul-le-mul_right (10 ^ k) (omega arith) in
    let tens : (n + 1) * 10 * 10 ^ k ≡ (n + 1) * 10 ^ suc k = mul_assoc (n + 1) 10 (10 ^ k) ∙ ap (λ (y : ℕ). (n + 1) * y) (mul_comm 10 (10 ^ k) ∙ sym (pow-suc 10 k)) in
    omega (arith, value_below k xs m (omega arith) e.1, less, tens)

-- a field of 1 to 18 digits, leading zeros or not, gives its number; and one of at most 18 bytes that gives a number is such digits
pub few_digits : (field : List ℕ) → 1 ≤ length field → length field ≤ 18 → all_digits field ≡ true → number_of field ≡ Some (value_after 0 field)
unfolding number_after
few_digits field h g d =
    begins field (λ z. absurd (omega arith)) ∙ simp (d, le-leb (value_after 0 field) max_number (omega (arith, value_below 18 field 0 g d)))

pub given_digits : (field : List ℕ) (n : ℕ) → number_of field ≡ Some n → (1 ≤ length field) × (all_digits field ≡ true) × (value_after 0 field ≡ n)
unfolding number_of
given_digits [] n = λ e. absurd (never e)
  where
    never : None ≡ Some n → ⊥
    never e = let z : ◌≡◌ {A = ℕ} 0 1 = cc in omega arith
given_digits (b ∷ bs) n =
    by_bool (all_digits (b ∷ bs) && leb (value_after 0 (b ∷ bs)) max_number)
    (λ a. simp a (λ e. (omega arith, ((and-eq-true_iff (all_digits (b ∷ bs)) (leb (value_after 0 (b ∷ bs)) max_number)).0 a).0, same_number e)))
    (λ a. simp a (λ e. absurd (never e)))
  where
    never : None ≡ Some n → ⊥
    never e = let z : ◌≡◌ {A = ℕ} 0 1 = cc in omega arith

    same_number : Some (value_after 0 (b ∷ bs)) ≡ Some n → value_after 0 (b ∷ bs) ≡ n
    same_number e = cc
