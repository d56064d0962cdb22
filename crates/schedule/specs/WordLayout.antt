-- A list in code: the 514 words of the C struct leap_schedule. The month and the sign of each leap in turn in 256 places, then the count, then the
-- expiry day.
-- Assumes nothing: these are definitions.
use Rattle.std.specs.Prelude.{ℕ, zero, suc, ◌+◌, ◌-◌, ◌*◌, Bool, true, cond, ◌&&◌, List, [], ◌∷◌, ◌++◌, length, take, drop, replicate, ◌==◌, slice_index}
use Rattle.schedule.specs.declared.Sign.{Sign}
use Rattle.schedule.specs.declared.Sign.TheVariants.{Positive, Negative}
use Rattle.schedule.specs.Schedule.{Leap, Schedule, blank_schedule}

-- ---- the words of a schedule

-- a positive sign is word 0 and a negative one word 1
abbrev pub word_of_sign : Sign → ℕ
word_of_sign Positive = 0
word_of_sign Negative = 1

-- the words of leaps
unfoldable pub leap_words : List Leap → List ℕ
leap_words [] = []
leap_words (l ∷ ls) = l.month ∷ word_of_sign l.sign ∷ leap_words ls

abbrev pub zeroes : ℕ → List ℕ
zeroes n = replicate n 0

-- the words of a schedule: unused places hold month 0 and a positive sign
unfoldable pub words_of : Schedule → List ℕ
words_of s = leap_words s.leaps ++ (zeroes (512 - 2 * length s.leaps) ++ (length s.leaps ∷ s.expiry ∷ []))

-- ---- the schedule of words

-- the words after the places: the count and the expiry day
abbrev pub count_word : List ℕ → ℕ
count_word words = slice_index words 512

abbrev pub expiry_word : List ℕ → ℕ
expiry_word words = slice_index words 513

-- the words of place i; past the 256 places they count as 0
abbrev pub month_word : List ℕ → ℕ → ℕ
month_word words i = slice_index (take 512 words) (2 * i)

abbrev pub sign_word : List ℕ → ℕ → ℕ
sign_word words i = slice_index (take 512 words) (2 * i + 1)

abbrev pub sign_of : ℕ → Sign
sign_of word = cond (word == 0) Positive Negative

-- the leap of a month word and a sign word
abbrev pub leap_by : ℕ → ℕ → Leap
leap_by month sign = record { month = month; sign = sign_of sign }

abbrev pub leap_at : List ℕ → ℕ → Leap
leap_at words i = leap_by (month_word words i) (sign_word words i)

-- the first n leaps of words, two words each
unfoldable pub leaps_in : ℕ → List ℕ → List Leap
leaps_in zero words = []
leaps_in (suc n) words = leap_by (slice_index words 0) (slice_index words 1) ∷ leaps_in n (drop 2 words)

-- as many leaps as the count says, and the expiry, whatever stands there
abbrev pub laid_out : List ℕ → Schedule
laid_out words = record { leaps = leaps_in (count_word words) (take 512 words); expiry = expiry_word words }

-- the first n words of two lists are the same
unfoldable pub same_words : ℕ → List ℕ → List ℕ → Bool
same_words zero xs ys = true
same_words (suc n) xs ys = slice_index xs n == slice_index ys n && same_words n xs ys

-- the schedule that words mean: the one that they lay out, if they are its words. Other words (a sign word of 2, a place not in use that is not
-- clear) mean what the blank schedule means, which isn't well formed. So words are refused with 11 exactly when they are not the words of a
-- well-formed schedule (`refused_words`).
unfoldable pub meant : List ℕ → Schedule
meant words = cond (same_words 514 words (words_of (laid_out words))) (laid_out words) blank_schedule
