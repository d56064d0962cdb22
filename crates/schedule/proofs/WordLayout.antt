-- The words of a schedule, place by place, and the schedule that words mean.
-- Assumes nothing.
use Rattle.std.proofs.Common.{◌≡◌, ℕ, zero, suc, ◌+◌, ◌-◌, ◌*◌, ◌/◌, ◌%◌, ◌<◌, ◌≤◌, true, eqb, ◌↔◌, List, [], ◌∷◌, ◌++◌, length, get_or, take, drop, sym, refl, ap, ◌∙◌, subst, le_of_suc-le-suc, not-suc-le-zero, arith, length-append, length-take, get_or-drop, get_or-take, get_or-append-add, ext_get_or, eq-eqb, eqb-true}
use mathlib.Core.Bool.{and-eq-true_iff}
use native.Mathlib.Decide.{dec_lt}
use lib.ListN.{length-replicate}
use Rattle.schedule.specs.declared.Sign.{Sign}
use Rattle.schedule.specs.declared.Sign.TheVariants.{Positive, Negative}
use Rattle.schedule.specs.Schedule.{Leap, Schedule, month_start, end_day, no_leap, gaps_fit, well_formed}
use Rattle.schedule.specs.WordLayout.{count_word, month_word, sign_word, sign_of, leap_by, leap_at, leaps_in, laid_out, same_words, word_of_sign, leap_words, zeroes, words_of}
use Rattle.schedule.specs.Rules.{Words}
use Rattle.calendar.proofs.Laws.{start_last, start_lt}
use Rattle.schedule.proofs.Gaps.{later, before_end, parts}

-- a month that starts within the calendar
pub within : (m : ℕ) → month_start m ≤ end_day → m ≤ 2400
within m h = elim (dec_lt 2400 m) [ yes l ↦ absurd (omega (arith, start_last, start_lt l)) | no l ↦ omega arith ]

used_month : (ls : List Leap) (from expiry : ℕ) → gaps_fit from ls expiry ≡ true → expiry ≤ end_day → (i : ℕ) → (get_or ls i no_leap).month ≤ 2400
used_month [] from expiry f e i = omega arith
used_month (l ∷ ls) from expiry f e zero = within l.month (omega (arith, before_end ls l.month expiry (later from l ls expiry f)))
used_month (l ∷ ls) from expiry f e (suc i) = used_month ls l.month expiry (later from l ls expiry f) e i

-- every month of a well-formed schedule is at most 2400
pub small_month : (s : Schedule) → well_formed s ≡ true → (i : ℕ) → (get_or s.leaps i no_leap).month ≤ 2400
small_month s w i = used_month s.leaps 0 s.expiry (parts s w).gaps (parts s w).end i

-- ---- lists of words

pub past_end : (xs : List ℕ) (i : ℕ) → length xs ≤ i → get_or xs i 0 ≡ 0
past_end [] i h = refl
past_end (x ∷ xs) zero h = absurd (omega arith)
past_end (x ∷ xs) (suc i) h = past_end xs i (le_of_suc-le-suc h)

pub past_leaps : (ls : List Leap) (i : ℕ) → length ls ≤ i → get_or ls i no_leap ≡ no_leap
past_leaps [] i h = refl
past_leaps (x ∷ xs) zero h = absurd (omega arith)
past_leaps (x ∷ xs) (suc i) h = past_leaps xs i (le_of_suc-le-suc h)

among_zeroes : (n : ℕ) (rest : List ℕ) (i : ℕ) → i < n → get_or (zeroes n ++ rest) i 0 ≡ 0
among_zeroes zero rest i h = absurd (not-suc-le-zero h)
among_zeroes (suc n) rest zero h = refl
among_zeroes (suc n) rest (suc i) h = among_zeroes n rest i (le_of_suc-le-suc h)

after_zeroes : (n : ℕ) (rest : List ℕ) (k i : ℕ) → i ≡ n + k → get_or (zeroes n ++ rest) i 0 ≡ get_or rest k 0
after_zeroes n rest k i e =
    let l : length (zeroes n) + k ≡ i = omega (arith, length-replicate {A = ℕ} n 0) in
    ap (λ (j : ℕ). get_or (zeroes n ++ rest) j 0) (sym l) ∙ get_or-append-add (zeroes n) rest k 0

-- the same words, one by one
pub same_each : (n : ℕ) (xs ys : List ℕ) → same_words n xs ys ≡ true → (i : ℕ) → i < n → get_or xs i 0 ≡ get_or ys i 0
unfolding same_words
same_each zero xs ys e i h = absurd (not-suc-le-zero h)
same_each (suc n) xs ys e i h =
    let both = (and-eq-true_iff (eqb (get_or xs n 0) (get_or ys n 0)) (same_words n xs ys)).0 e in
    elim (dec_lt i n) [
      | yes l ↦ same_each n xs ys both.1 i l
      | no l ↦ let z : i ≡ n = omega arith in rw z (eqb-true (get_or xs n 0) (get_or ys n 0) both.0)
    ]

pub each_same : (n : ℕ) (xs ys : List ℕ) → ((i : ℕ) → i < n → get_or xs i 0 ≡ get_or ys i 0) → same_words n xs ys ≡ true
unfolding same_words
each_same zero xs ys f = refl
each_same (suc n) xs ys f = simp (eq-eqb (get_or xs n 0) (get_or ys n 0) (f n (omega arith)), each_same n xs ys (λ i h. f i (omega arith)))

-- ---- the words of a schedule, place by place

pub sign_back : (g : Sign) → sign_of (word_of_sign g) ≡ g
sign_back Positive = refl
sign_back Negative = refl

sign_small : (g : Sign) → word_of_sign g < 2
sign_small Positive = omega arith
sign_small Negative = omega arith

pub words_length : (ls : List Leap) → length (leap_words ls) ≡ 2 * length ls
unfolding leap_words
words_length [] = refl
words_length (l ∷ ls) = omega (arith, words_length ls)

-- the words of leap i, whatever follows the leaps
module _ (rest : List ℕ) where
  month_there : (ls : List Leap) (i : ℕ) → i < length ls → get_or (leap_words ls ++ rest) (2 * i) 0 ≡ (get_or ls i no_leap).month
  unfolding leap_words
  month_there [] i h = absurd (not-suc-le-zero h)
  month_there (l ∷ ls) zero h = refl
  month_there (l ∷ ls) (suc i) h =
      let k : 2 * suc i ≡ suc (suc (2 * i)) = omega arith in
      rw k (month_there ls i (le_of_suc-le-suc h))

  sign_there : (ls : List Leap) (i : ℕ) → i < length ls → get_or (leap_words ls ++ rest) (2 * i + 1) 0 ≡ word_of_sign (get_or ls i no_leap).sign
  unfolding leap_words
  sign_there [] i h = absurd (not-suc-le-zero h)
  sign_there (l ∷ ls) zero h = refl
  sign_there (l ∷ ls) (suc i) h =
      let k : 2 * suc i + 1 ≡ suc (suc (2 * i + 1)) = omega arith in
      rw k (sign_there ls i (le_of_suc-le-suc h))

  after_leaps : (ls : List Leap) (k n : ℕ) → n ≡ 2 * length ls + k → get_or (leap_words ls ++ rest) n 0 ≡ get_or rest k 0
  after_leaps ls k n e =
      let l : length (leap_words ls) + k ≡ n = omega (arith, words_length ls) in
      ap (λ (j : ℕ). get_or (leap_words ls ++ rest) j 0) (sym l) ∙ get_or-append-add (leap_words ls) rest k 0

module _ (s : Schedule) (room : length s.leaps ≤ 256) where
  pub month_of_words : (i : ℕ) → i < length s.leaps → get_or (words_of s) (2 * i) 0 ≡ (get_or s.leaps i no_leap).month
  unfolding words_of
  month_of_words i h = month_there _ s.leaps i h

  pub sign_of_words : (i : ℕ) → i < length s.leaps → get_or (words_of s) (2 * i + 1) 0 ≡ word_of_sign (get_or s.leaps i no_leap).sign
  unfolding words_of
  sign_of_words i h = sign_there _ s.leaps i h

  pub unused_words : (k : ℕ) → 2 * length s.leaps ≤ k → k < 512 → get_or (words_of s) k 0 ≡ 0
  unfolding words_of
  unused_words k a b =
      after_leaps _ s.leaps (k - 2 * length s.leaps) k (omega arith)
      ∙ among_zeroes (512 - 2 * length s.leaps) (length s.leaps ∷ s.expiry ∷ []) (k - 2 * length s.leaps) (omega arith)

  last_words : (k j : ℕ) → k ≡ 512 + j → get_or (words_of s) k 0 ≡ get_or (length s.leaps ∷ s.expiry ∷ []) j 0
  unfolding words_of
  last_words k j e =
      after_leaps _ s.leaps (512 - 2 * length s.leaps + j) k (omega arith)
      ∙ after_zeroes (512 - 2 * length s.leaps) (length s.leaps ∷ s.expiry ∷ []) j (512 - 2 * length s.leaps + j) refl

  pub count_of_words : get_or (words_of s) 512 0 ≡ length s.leaps
  count_of_words = last_words 512 0 (omega arith)

  pub expiry_of_words : get_or (words_of s) 513 0 ≡ s.expiry
  expiry_of_words = last_words 513 1 (omega arith)

  pub all_words : length (words_of s) ≡ 514
  unfolding words_of
  all_words =
      let e : List ℕ = length s.leaps ∷ s.expiry ∷ [] in
      omega (
        arith,
        length-append (leap_words s.leaps) (zeroes (512 - 2 * length s.leaps) ++ e),
        length-append (zeroes (512 - 2 * length s.leaps)) e,
        words_length s.leaps,
        length-replicate {A = ℕ} (512 - 2 * length s.leaps) 0,
      )

-- the words of a schedule stand as the paper has them, in its numbers
pub in_words : (s : Schedule) → length s.leaps ≤ 256 → Words s (words_of s)
in_words s room =
    record {
      all = all_words s room;
      months = month_of_words s room;
      positive = λ i h e. sign_of_words s room i h ∙ ap word_of_sign e;
      negative = λ i h e. sign_of_words s room i h ∙ ap word_of_sign e;
      unused = unused_words s room;
      count = count_of_words s room;
      expiry = expiry_of_words s room;
    }

-- and no other words do
module _ (s : Schedule) (room : length s.leaps ≤ 256) (words : List ℕ) (w : Words s words) where
  month_only : (k i : ℕ) → k ≡ 2 * i → i < length s.leaps → get_or words k 0 ≡ get_or (words_of s) k 0
  month_only k i e h = rw e (w.months i h ∙ sym (month_of_words s room i h))

  sign_said : (i : ℕ) → i < length s.leaps → (g : Sign) → (get_or s.leaps i no_leap).sign ≡ g → get_or words (2 * i + 1) 0 ≡ word_of_sign g
  sign_said i h Positive e = w.positive i h e
  sign_said i h Negative e = w.negative i h e

  sign_only : (k i : ℕ) → k ≡ 2 * i + 1 → i < length s.leaps → get_or words k 0 ≡ get_or (words_of s) k 0
  sign_only k i e h = rw e (sign_said i h (get_or s.leaps i no_leap).sign refl ∙ sym (sign_of_words s room i h))

  each_only : (k : ℕ) → k < 514 → get_or words k 0 ≡ get_or (words_of s) k 0
  each_only k h =
      elim (dec_lt k (2 * length s.leaps)) [
        | yes l ↦
            elim (dec_lt (k % 2) 1) [
              | yes even ↦ month_only k (k / 2) (omega arith) (omega arith)
              | no odd ↦ sign_only k (k / 2) (omega arith) (omega arith)
            ]
        | no l ↦
            elim (dec_lt k 512) [
              | yes a ↦ w.unused k (omega arith) a ∙ sym (unused_words s room k (omega arith) a)
              | no a ↦
                  elim (dec_lt k 513) [
                    | yes b ↦ let e : k ≡ 512 = omega arith in rw e (w.count ∙ sym (count_of_words s room))
                    | no b ↦ let e : k ≡ 513 = omega arith in rw e (w.expiry ∙ sym (expiry_of_words s room))
                  ]
            ]
      ]

  words_only : words ≡ words_of s
  words_only = ext_get_or 0 words (words_of s) (w.all ∙ sym (all_words s room)) (λ k h. each_only k (omega (arith, w.all)))

-- so words are those of a schedule exactly where they stand like that
pub words_exactly : (s : Schedule) → length s.leaps ≤ 256 → (words : List ℕ) → Words s words ↔ (words ≡ words_of s)
words_exactly s room words = (λ w. words_only s room words w, λ e. subst (λ (ws : List ℕ). Words s ws) (sym e) (in_words s room))

-- ---- the leaps that words lay out

pub leaps_length : (n : ℕ) (ws : List ℕ) → length (leaps_in n ws) ≡ n
unfolding leaps_in
leaps_length zero ws = refl
leaps_length (suc n) ws = ap suc (leaps_length n (drop 2 ws))

leap_there : (n : ℕ) (ws : List ℕ) (i : ℕ) → i < n → get_or (leaps_in n ws) i no_leap ≡ leap_by (get_or ws (2 * i) 0) (get_or ws (2 * i + 1) 0)
unfolding leaps_in
leap_there zero ws i h = absurd (not-suc-le-zero h)
leap_there (suc n) ws zero h = refl
leap_there (suc n) ws (suc i) h =
    let a : 2 + 2 * i ≡ 2 * suc i = omega arith in
    let b : 2 + (2 * i + 1) ≡ 2 * suc i + 1 = omega arith in
    leap_there n (drop 2 ws) i (le_of_suc-le-suc h) ∙ rw (get_or-drop 2 ws (2 * i) 0, get_or-drop 2 ws (2 * i + 1) 0, a, b)

module _ (words : List ℕ) where
  -- the words of a place are words of the list
  pub month_in_place : (i : ℕ) → i < 256 → month_word words i ≡ get_or words (2 * i) 0
  month_in_place i h = get_or-take 512 words (2 * i) 0 (omega arith)

  pub sign_in_place : (i : ℕ) → i < 256 → sign_word words i ≡ get_or words (2 * i + 1) 0
  sign_in_place i h = get_or-take 512 words (2 * i + 1) 0 (omega arith)

  -- past the places they are 0
  pub month_past : (i : ℕ) → 256 ≤ i → month_word words i ≡ 0
  month_past i h = past_end (take 512 words) (2 * i) (omega (arith, length-take 512 words))

  pub sign_past : (i : ℕ) → 256 ≤ i → sign_word words i ≡ 0
  sign_past i h = past_end (take 512 words) (2 * i + 1) (omega (arith, length-take 512 words))

  pub laid_length : length (laid_out words).leaps ≡ count_word words
  laid_length = leaps_length (count_word words) (take 512 words)

  pub laid_leap : (i : ℕ) → i < count_word words → get_or (laid_out words).leaps i no_leap ≡ leap_at words i
  laid_leap i h = leap_there (count_word words) (take 512 words) i h
