-- The schedule that words mean: that of a list leap by leap, and that of the words of a schedule.
-- Assumes nothing.
use Rattle.std.proofs.Common.{◌≡◌, ℕ, zero, suc, ◌+◌, ◌*◌, ◌/◌, ◌%◌, ◌<◌, ◌≤◌, Bool, true, false, ◌&&◌, eqb, ltb, ◌↔◌, List, length, get_or, sym, refl, ap, ◌∙◌, true≢false, not-suc-le-zero, arith, ext_get_or, ltb-true, lt-ltb, eqb-true}
use mathlib.Core.Bool.{and-eq-true_iff}
use native.Mathlib.Decide.{dec_lt}
use borrow.Author.Tests.{eqb-false}
use Rattle.schedule.specs.declared.Sign.{Sign}
use Rattle.schedule.specs.declared.Sign.TheVariants.{Positive, Negative}
use Rattle.schedule.specs.Schedule.{Leap, Schedule, end_day, no_leap, blank_schedule, gaps_fit, well_formed}
use Rattle.schedule.specs.WordLayout.{count_word, expiry_word, sign_of, leap_at, laid_out, same_words, meant, word_of_sign, words_of}
use Rattle.schedule.specs.Answers.{Reading, HandsReading}
use Rattle.schedule.specs.Private.{signs_fit, RestClear}
use Rattle.schedule.proofs.Cases.{by_bool}
use Rattle.schedule.proofs.Gaps.{before_end, parts, well_by, blank_refused}
use Rattle.schedule.proofs.Sound.{Formed}
use Rattle.schedule.proofs.WordLayout.{past_end, past_leaps, same_each, each_same, sign_back, month_of_words, sign_of_words, unused_words, count_of_words, expiry_of_words, all_words, month_in_place, sign_in_place, month_past, sign_past, laid_length, laid_leap}

-- a word that a sign has, 0 or 1, is the word of the sign that it means
word_back : (n : ℕ) → n < 2 → word_of_sign (sign_of n) ≡ n
word_back zero h = refl
word_back (suc zero) h = refl
word_back (suc (suc n)) h = absurd (omega arith)

sign_small : (g : Sign) → word_of_sign g < 2
sign_small Positive = omega arith
sign_small Negative = omega arith

leap_path : {m n : ℕ} {g h : Sign} → m ≡ n → g ≡ h → ◌≡◌ {A = Leap} (record { month = m; sign = g }) (record { month = n; sign = h })
leap_path p q = λ i. record { month = p i; sign = q i }

-- the words of a schedule from its places, the words after them and the parity of a place
module _ (words : List ℕ) where
  is_laid : same_words 514 words (words_of (laid_out words)) ≡ true → meant words ≡ laid_out words
  unfolding meant
  is_laid e = rw e

  is_blank : same_words 514 words (words_of (laid_out words)) ≡ false → meant words ≡ blank_schedule
  unfolding meant
  is_blank e = rw e

  module _ (w : well_formed (meant words) ≡ true) where
    -- a list is laid out in its words, and they are its words
    same : same_words 514 words (words_of (laid_out words)) ≡ true
    same = by_bool (same_words 514 words (words_of (laid_out words))) (λ t. t) (λ f. absurd (true≢false (sym w ∙ (ap well_formed (is_blank f) ∙ blank_refused))))

    pub meant_laid : meant words ≡ laid_out words
    meant_laid = is_laid same

    laid_well : well_formed (laid_out words) ≡ true
    laid_well = sym (ap well_formed meant_laid) ∙ w

    laid_room : length (laid_out words).leaps ≤ 256
    laid_room = (parts (laid_out words) laid_well).room

    -- it has as many leaps as the count says, and at most 256
    pub count_is : length (meant words).leaps ≡ count_word words
    count_is = ap (λ (s : Schedule). length s.leaps) meant_laid ∙ laid_length words

    pub count_room : count_word words ≤ 256
    count_room = omega (arith, laid_room, laid_length words)

    pub expiry_is : (meant words).expiry ≡ expiry_word words
    expiry_is = ap (λ (s : Schedule). s.expiry) meant_laid

    -- no word is missing: the last one, the expiry, is greater than 0
    pub all_there : 514 ≤ length words
    all_there =
        elim (dec_lt (length words) 514) [
          | yes l ↦
              absurd (omega (arith, expiry_is, past_end words 513 (omega arith), before_end (meant words).leaps 0 (meant words).expiry (parts (meant words) w).gaps))
          | no l ↦ omega arith
        ]

    each : (k : ℕ) → k < 514 → get_or words k 0 ≡ get_or (words_of (laid_out words)) k 0
    each k h = same_each 514 words (words_of (laid_out words)) same k h

    -- the words of the places that are not in use are 0
    pub unused_zero : (k : ℕ) → 2 * count_word words ≤ k → k < 512 → get_or words k 0 ≡ 0
    unused_zero k a b = each k (omega arith) ∙ unused_words (laid_out words) laid_room k (omega (arith, laid_length words)) b

    -- the words of a leap
    pub month_word_lem : (i : ℕ) → i < count_word words → get_or words (2 * i) 0 ≡ (get_or (meant words).leaps i no_leap).month
    month_word_lem i h =
        each (2 * i) (omega (arith, count_room))
        ∙ (month_of_words (laid_out words) laid_room i (omega (arith, laid_length words)) ∙ ap (λ (s : Schedule). (get_or s.leaps i no_leap).month) (sym meant_laid))

    pub sign_word : (i : ℕ) → i < count_word words → get_or words (2 * i + 1) 0 ≡ word_of_sign (get_or (meant words).leaps i no_leap).sign
    sign_word i h =
        each (2 * i + 1) (omega (arith, count_room))
        ∙ (sign_of_words (laid_out words) laid_room i (omega (arith, laid_length words)) ∙ ap (λ (s : Schedule). word_of_sign (get_or s.leaps i no_leap).sign) (sym meant_laid))

    -- a sign word is 0 or 1
    pub sign_fits : (i : ℕ) → i < count_word words → get_or words (2 * i + 1) 0 < 2
    sign_fits i h = omega (arith, sign_word i h, sign_small (get_or (meant words).leaps i no_leap).sign)

    -- every place holds its leap, those not in use month 0 and a positive sign
    pub leap_at_lem : (i : ℕ) → get_or (meant words).leaps i no_leap ≡ leap_at words i
    leap_at_lem i =
        elim (dec_lt i (count_word words)) [
          | yes l ↦ ap (λ (s : Schedule). get_or s.leaps i no_leap) meant_laid ∙ laid_leap words i l
          | no l ↦
              past_leaps (meant words).leaps i (omega (arith, count_is))
              ∙ (elim (dec_lt i 256) [
                | yes h ↦
                    leap_path (sym (month_in_place words i h ∙ unused_zero (2 * i) (omega arith) (omega arith)))
                    (sym (ap sign_of (sign_in_place words i h ∙ unused_zero (2 * i + 1) (omega arith) (omega arith))))
                | no h ↦
                    leap_path (sym (month_past words i (omega arith))) (sym (ap sign_of (sign_past words i (omega arith))))
              ])
        ]

  -- ---- what the check of words looks at

  signs_of : (n : ℕ) → ((i : ℕ) → i < n → get_or words (2 * i + 1) 0 < 2) → signs_fit words n ≡ true
  unfolding signs_fit
  signs_of zero f = refl
  signs_of (suc n) f = simp (signs_of n (λ i h. f i (omega arith)), lt-ltb (get_or words (2 * n + 1) 0) 2 (f n (omega arith)))

  of_signs : (n : ℕ) → signs_fit words n ≡ true → (i : ℕ) → i < n → get_or words (2 * i + 1) 0 < 2
  unfolding signs_fit
  of_signs zero e i h = absurd (not-suc-le-zero h)
  of_signs (suc n) e i h =
      let both = (and-eq-true_iff (signs_fit words n) (ltb (get_or words (2 * n + 1) 0) 2)).0 e in
      elim (dec_lt i n) [
        | yes l ↦ of_signs n both.0 i l
        | no l ↦ let z : i ≡ n = omega arith in rw z (ltb-true (get_or words (2 * n + 1) 0) 2 both.1)
      ]

  module _ (room : count_word words ≤ 256) where
    laid_few : length (laid_out words).leaps ≤ 256
    laid_few = omega (arith, laid_length words)

    -- words with sign words of 0 and 1 and clear places after the leaps are those of the schedule laid out
    module _ (signs : signs_fit words (count_word words) ≡ true) (clear : (k : ℕ) → 2 * count_word words ≤ k → k < 512 → get_or words k 0 ≡ 0) where
      in_use : (k : ℕ) → k < 2 * count_word words → get_or words k 0 ≡ get_or (words_of (laid_out words)) k 0
      in_use k h =
          let i = k / 2 in
          let small : i < count_word words = omega arith in
          let there = laid_leap words i small in
          elim (dec_lt (k % 2) 1) [
            | yes l ↦
                let z : k ≡ 2 * i = omega arith in
                rw z (sym (month_of_words (laid_out words) laid_few i (omega (arith, laid_length words)) ∙ (ap (λ (x : Leap). x.month) there ∙ month_in_place words i (omega arith))))
            | no l ↦
                let z : k ≡ 2 * i + 1 = omega arith in
                rw z (sym (sign_of_words (laid_out words) laid_few i (omega (arith, laid_length words))
                ∙ (ap (λ (x : Leap). word_of_sign x.sign) there
                ∙ (ap (λ (n : ℕ). word_of_sign (sign_of n)) (sign_in_place words i (omega arith)) ∙ word_back (get_or words (2 * i + 1) 0) (of_signs (count_word words) signs i small)))))
          ]

      same_at : (k : ℕ) → k < 514 → get_or words k 0 ≡ get_or (words_of (laid_out words)) k 0
      same_at k h =
          elim (dec_lt k (2 * count_word words)) [
            | yes l ↦ in_use k l
            | no l ↦
                elim (dec_lt k 512) [
                  | yes m ↦ clear k (omega arith) m ∙ sym (unused_words (laid_out words) laid_few k (omega (arith, laid_length words)) m)
                  | no m ↦
                      elim (dec_lt k 513) [
                        | yes n ↦ let z : k ≡ 512 = omega arith in rw z (sym (count_of_words (laid_out words) laid_few ∙ laid_length words))
                        | no n ↦ let z : k ≡ 513 = omega arith in rw z (sym (expiry_of_words (laid_out words) laid_few))
                      ]
                ]
          ]

      pub means_laid : meant words ≡ laid_out words
      means_laid = is_laid (each_same 514 words (words_of (laid_out words)) same_at)

    -- the leaps in use of a list fit
    leaps_fit : well_formed (meant words) ≡ true → (signs_fit words (count_word words) && gaps_fit 0 (laid_out words).leaps (expiry_word words)) ≡ true
    leaps_fit w = simp (signs_of (count_word words) (sign_fits w), (parts (laid_out words) (laid_well w)).gaps)

    -- words with few leaps and an early expiry are a list exactly when the leaps in use fit and the rest is clear
    module _ (fit : Bool) (e : fit ≡ (signs_fit words (count_word words) && gaps_fit 0 (laid_out words).leaps (expiry_word words))) where
      pub unfit : fit ≡ false → well_formed (meant words) ≡ false
      unfit f = by_bool (well_formed (meant words)) (λ w. absurd (true≢false (sym (leaps_fit w) ∙ (sym e ∙ f)))) (λ n. n)

      pub list_by : fit ≡ true → expiry_word words ≤ end_day → (rest : Bool) → RestClear words (count_word words) rest → rest ≡ well_formed (meant words)
      list_by t early true r =
          let fits = (and-eq-true_iff (signs_fit words (count_word words)) (gaps_fit 0 (laid_out words).leaps (expiry_word words))).0 (sym e ∙ t) in
          let is = means_laid fits.0 (r.all refl) in
          sym (ap well_formed is ∙ (well_by (laid_out words) laid_few early ∙ fits.1))
      list_by t early false r = by_bool (well_formed (meant words)) (λ w. absurd (r.none refl (unused_zero w))) (λ n. sym n)

  -- too many leaps, or an expiry past the calendar
  pub too_many : 256 < count_word words → well_formed (meant words) ≡ false
  too_many h = by_bool (well_formed (meant words)) (λ w. absurd (omega (arith, count_room w))) (λ f. f)

  pub too_late : end_day < expiry_word words → well_formed (meant words) ≡ false
  too_late h = by_bool (well_formed (meant words)) (λ w. absurd (omega (arith, (parts (meant words) w).end, expiry_is w))) (λ f. f)

-- ---- the words of a schedule mean it

module _ (s : Schedule) (room : length s.leaps ≤ 256) where
  count_same : count_word (words_of s) ≡ length s.leaps
  count_same = count_of_words s room

  leap_same : (i : ℕ) → i < length (laid_out (words_of s)).leaps → get_or (laid_out (words_of s)).leaps i no_leap ≡ get_or s.leaps i no_leap
  leap_same i h =
      let j : i < length s.leaps = omega (arith, laid_length (words_of s), count_same) in
      laid_leap (words_of s) i (omega (arith, count_same))
      ∙ leap_path (month_in_place (words_of s) i (omega arith) ∙ month_of_words s room i j)
      (ap sign_of (sign_in_place (words_of s) i (omega arith) ∙ sign_of_words s room i j) ∙ sign_back (get_or s.leaps i no_leap).sign)

  laid_same : laid_out (words_of s) ≡ s
  laid_same =
      let leaps : (laid_out (words_of s)).leaps ≡ s.leaps = ext_get_or no_leap (laid_out (words_of s)).leaps s.leaps (omega (arith, laid_length (words_of s), count_same)) leap_same in
      λ i. record { leaps = leaps i; expiry = expiry_of_words s room i }

  -- the words of a schedule with at most 256 leaps mean it
  pub words_mean : meant (words_of s) ≡ s
  words_mean = is_laid (words_of s) (each_same 514 (words_of s) (words_of (laid_out (words_of s))) (λ i h. ap (λ (t : Schedule). get_or (words_of t) i 0) (sym laid_same))) ∙ laid_same

-- those of a well-formed schedule do
pub words_stand : (s : Schedule) → well_formed s ≡ true → meant (words_of s) ≡ s
words_stand s w = words_mean s (parts s w).room

-- and those of the blank one
pub blank_stands : meant (words_of blank_schedule) ≡ blank_schedule
blank_stands = words_mean blank_schedule (omega arith)

-- 514 words are refused with 11 exactly when they are not the words of a well-formed schedule
pub refused_words : (words : List ℕ) → length words ≡ 514 → (well_formed (meant words) ≡ true) ↔ ((s : Schedule) × (well_formed s ≡ true) × (words ≡ words_of s))
refused_words words full = (
  λ w.
      let laid = laid_well words w in
      (laid_out words, laid, ext_get_or 0 words (words_of (laid_out words)) (full ∙ sym (all_words (laid_out words) (laid_room words w))) (λ i h. each words w i (omega arith))),
  λ x. ap (λ (ws : List ℕ). well_formed (meant ws)) x.2 ∙ (ap well_formed (words_stand x.0 x.1) ∙ x.1),
)

-- the words that a reader hands over mean the reading's schedule, refused or not
pub hands_meant : (r : Reading) → Formed r → (n p : ℕ) (words : List ℕ) → HandsReading r n words p → meant words ≡ r.schedule
hands_meant r f n p words h =
    ap meant h.its_words
    ∙ by_bool (eqb r.number 0) (λ t. words_stand r.schedule (f.formed (eqb-true r.number 0 t)))
    (λ t. let b = f.blank (eqb-false r.number 0 t) in rw b blank_stands)
