-- The words that a reader fills: at the start, with one leap more, with the count and the expiry at the end, and where the reading is refused.
-- Assumes nothing.
use Rattle.std.proofs.Common.{◌≡◌, ℕ, zero, suc, ◌+◌, ◌-◌, ◌*◌, ◌<◌, List, [], ◌∷◌, ◌++◌, Ok, Err, length, set, sym, refl, ap, ◌∙◌, append_assoc, arith, length-append}
use lib.ListN.{length-replicate}
use lib.Seq.{set_at}
use Rattle.refusals.specs.declared.Refusal.{Refusal}
use Rattle.refusals.specs.Refusals.{number_of}
use Rattle.schedule.specs.declared.Sign.{Sign}
use Rattle.schedule.specs.Schedule.{Leap, Schedule, blank_schedule}
use Rattle.schedule.specs.WordLayout.{word_of_sign, leap_words, zeroes, words_of}
use Rattle.schedule.specs.Answers.{refusal, accepted, with_leap, ReadsInto, HandsReading}
use Rattle.schedule.specs.Private.{SoFar}
use Rattle.schedule.proofs.WordLayout.{words_length}

-- the words of leaps in two parts
words_append : (xs ys : List Leap) → leap_words (xs ++ ys) ≡ leap_words xs ++ leap_words ys
unfolding leap_words
words_append [] ys = refl
words_append (x ∷ xs) ys = ap (λ (ws : List ℕ). x.month ∷ word_of_sign x.sign ∷ ws) (words_append xs ys)

-- zeroes in two parts
zeroes_add : (m n : ℕ) → zeroes (m + n) ≡ zeroes m ++ zeroes n
zeroes_add zero n = let z : 0 + n ≡ n = omega arith in rw z
zeroes_add (suc m) n = let z : suc m + n ≡ suc (m + n) = omega arith in rw z (ap (λ (ws : List ℕ). 0 ∷ ws) (zeroes_add m n))

-- two words after some others
store_two : (xs ys : List ℕ) (i a b x y : ℕ) → length xs ≡ i → set (set (xs ++ (x ∷ y ∷ ys)) i a) (i + 1) b ≡ xs ++ (a ∷ b ∷ ys)
store_two xs ys i a b x y e =
    let l : length (xs ++ (a ∷ [])) ≡ i + 1 = omega (arith, length-append xs (a ∷ [])) in
    ap (λ (ws : List ℕ). set ws (i + 1) b) (set_at xs x (y ∷ ys) a i e ∙ sym (append_assoc xs (a ∷ []) (y ∷ ys)))
    ∙ (set_at (xs ++ (a ∷ [])) y ys b (i + 1) l ∙ append_assoc xs (a ∷ []) (b ∷ ys))

-- nothing is read yet
pub so_far_blank : SoFar blank_schedule 0 (zeroes 514)
unfolding leap_words
so_far_blank = record { its_count = refl; room = omega arith; its_words = refl }

module _ (s : Schedule) (n : ℕ) (words : List ℕ) (k : SoFar s n words) where
  long : length (leap_words s.leaps) ≡ 2 * n
  long = words_length s.leaps ∙ ap (λ (c : ℕ). 2 * c) k.its_count

  -- one leap more is its month and its sign, stored at its place
  pub so_far_leap : n < 256 → (m : ℕ) (g : Sign) (w : ℕ) → w ≡ word_of_sign g → SoFar (with_leap s m g) (n + 1) (set (set words (2 * n) m) (2 * n + 1) w)
  unfolding leap_words
  so_far_leap h m g w e =
      let rest : List ℕ = zeroes (514 - 2 * (n + 1)) in
      let two : 514 - 2 * n ≡ suc (suc (514 - 2 * (n + 1))) = omega arith in
      let start : words ≡ leap_words s.leaps ++ (0 ∷ 0 ∷ rest) = k.its_words ∙ ap (λ (c : ℕ). leap_words s.leaps ++ zeroes c) two in
      record {
        its_count = omega (arith, k.its_count, length-append s.leaps (record { month = m; sign = g } ∷ []));
        room = omega arith;
        its_words = ap (λ (ws : List ℕ). set (set ws (2 * n) m) (2 * n + 1) w) start
            ∙ (store_two (leap_words s.leaps) rest (2 * n) m w 0 0 long
            ∙ (ap (λ (v : ℕ). leap_words s.leaps ++ (m ∷ v ∷ rest)) e
            ∙ (sym (append_assoc (leap_words s.leaps) (m ∷ word_of_sign g ∷ []) rest)
            ∙ ap (λ (ws : List ℕ). ws ++ rest) (sym (words_append s.leaps (record { month = m; sign = g } ∷ []))))));
      }

  -- a list that is taken is the count and the expiry, stored after the leaps
  pub so_far_end : (e : ℕ) → ReadsInto (accepted s e) (Ok tt) (set (set words 512 n) 513 e)
  unfolding words_of
  so_far_end e =
      let spare : ℕ = 512 - 2 * length s.leaps in
      let two : 514 - 2 * n ≡ spare + 2 = omega (arith, k.its_count, k.room) in
      let start : words ≡ (leap_words s.leaps ++ zeroes spare) ++ (0 ∷ 0 ∷ [])
      = k.its_words ∙ (ap (λ (c : ℕ). leap_words s.leaps ++ zeroes c) two ∙ (ap (λ (ws : List ℕ). leap_words s.leaps ++ ws) (zeroes_add spare 2) ∙ sym (append_assoc (leap_words s.leaps) (zeroes spare) (0 ∷ 0 ∷ [])))) in
      let far : length (leap_words s.leaps ++ zeroes spare) ≡ 512 = omega (arith, length-append (leap_words s.leaps) (zeroes spare), length-replicate {A = ℕ} spare 0, long, k.its_count, k.room) in
      record {
        its_number = refl;
        its_words = ap (λ (ws : List ℕ). set (set ws 512 n) 513 e) start
            ∙ (store_two (leap_words s.leaps ++ zeroes spare) [] 512 n e 0 0 far
            ∙ (append_assoc (leap_words s.leaps) (zeroes spare) (n ∷ e ∷ [])
            ∙ ap (λ (c : ℕ). leap_words s.leaps ++ (zeroes spare ++ (c ∷ e ∷ []))) (sym k.its_count)));
        its_place = refl;
      }

-- a refusal hands over 514 words 0: those of the blank schedule
pub so_far_refused : (r : Refusal) (place : ℕ) → ReadsInto (refusal (number_of r) place) (Err (record { refusal = r; place = place })) (zeroes 514)
unfolding words_of leap_words
so_far_refused r place = record { its_number = refl; its_words = refl; its_place = refl }

-- the same of a refusal by its number, where number and place are handed over
pub so_far_refusal : (number place : ℕ) → HandsReading (refusal number place) number (zeroes 514) place
unfolding words_of leap_words
so_far_refusal number place = record { its_number = refl; its_words = refl; its_place = refl }
