-- The rules of 01, as request 10/14 amends them, and its three demands, in 01's order. Above each theorem stands a line of plain words; the theorem
-- says the same of the definitions, in 01's own numbers, and the law that it cites proves it. The contract of every public function says that what it
-- hands over is what one of these definitions says (docs/PROMISES.md names each), and the section on demand 1 says what is handed over.
-- Assumes nothing.
use mathlib.Core.Logic.{◌⊎◌, ◌≢◌, ◌↔◌}
use mathlib.Core.Bool.{true, false, not, cond, ◌&&◌, ◌||◌}
use mathlib.Core.Path.{◌≡◌, refl, sym, ap, ◌∙◌}
use mathlib.Core.List.{List, [], ◌∷◌, ◌++◌}
use Prim.Native.Nat.{ℕ, ◌+◌, ◌*◌, ◌-◌, ◌/◌, ◌%◌, ◌≤◌, ◌<◌}
use lib.Dec.{eqb, ltb}
use lib.IntN.{ℤ, pos, ◌+ℤ◌, ◌-ℤ◌, ◌*ℤ◌}
use lib.ListN.{length, get_or, drop, replicate}
use borrow.Author.Tests.{le-leb, lt-leb}
use Rattle.refusals.specs.declared.Refusal.{Refusal}
use Rattle.refusals.proofs.Numbers as refusals
use Rattle.refusals.specs.Refusals.{number_of, ends_early, not_allowed, bad_gap, past_last_month, too_many_leaps, after_end, output_short, before1972, no_instant, not_known, not_well_formed, no_gap}
use Rattle.refusals.specs.Answer.{Answer, given, refused, number, or_zero}
use Rattle.calendar.specs.Calendar.{is_leap_year, month_lengths, days_in_month, month_start, month_of, starts_month}
use Rattle.calendar.proofs.Laws as calendar
use Rattle.calendar.proofs.Gregorian as gregorian
use Rattle.schedule.specs.declared.Sign.TheVariants.{Positive, Negative}
use Rattle.schedule.specs.declared.Leap.{Leap}
use Rattle.schedule.specs.Schedule.{Schedule, blank_schedule, last_leap, rounded_down, leaves_gap, well_formed}
use Rattle.schedule.specs.Rules.{WellFormed, Words, ExtendsBy}
use Rattle.schedule.specs.WordLayout.{leap_words, words_of, meant}
use Rattle.schedule.specs.Answers.{Reading, HandsReading, fitted, writing, written}
use Rattle.schedule.specs.Extends.{Extends}
use Rattle.schedule.proofs.Gaps as gaps
use Rattle.schedule.proofs.InWords as schedule
use Rattle.schedule.proofs.WordLayout as words
use Rattle.schedule.proofs.Meant as meanings
use Rattle.schedule.proofs.Extension as extension
use Rattle.ascii.specs.Decimal.{decimal}
use Rattle.ascii.proofs.Digits as digits
use Rattle.text.specs.Read.{read_text}
use Rattle.text.specs.Write.{text_of}
use Rattle.text.specs.Rules as text_rules
use Rattle.text.proofs.Faults as text_read
use Rattle.text.proofs.Back as text_back
use Rattle.text.proofs.Sound as text_sound
use Rattle.text.proofs.Spelling as text_spelling
use Rattle.text.proofs.Longest as text_room
use Rattle.nybbles.specs.Read.{read_nybbles}
use Rattle.nybbles.specs.Write.{nybbles_of}
use Rattle.nybbles.specs.Rules as nybble_rules
use Rattle.nybbles.proofs.RulesRead as nybble_read
use Rattle.nybbles.proofs.RulesWrite as nybble_written
use Rattle.nybbles.proofs.Back as nybble_back
use Rattle.nybbles.proofs.Sound as nybble_sound
use Rattle.nybbles.proofs.Room as nybble_room
use Rattle.nybbles.proofs.Places as nybble_numbers
use Rattle.clock.specs.declared.Ending.{Ending}
use Rattle.clock.specs.Days.{ending, day_length, dtai, tai}
use Rattle.clock.specs.Rules.{leap_sign, LeapAtEnd, GreatestNotAbove, RefusedIf, Gives, Known, Unknown, KnownTai, UnknownTai}
use Rattle.clock.specs.Smoothed.{uts, utc_of}
use Rattle.clock.specs.Document002.{algorithm}
use Rattle.clock.specs.Question.{Utc, day_of, Question, Value, dtai_on, utc_to_tai, tai_to_utc, utc_to_uts, uts_to_utc, ask}
use Rattle.clock.specs.Lists.{Kept, Parted}
use Rattle.clock.specs.Answers.{HandsValue, HandsUtc}
use Rattle.clock.proofs.Numbers as handed
use Rattle.clock.proofs.Exact as exact
use Rattle.clock.proofs.Lengths as lengths
use Rattle.clock.proofs.Uts as uts_laws
use Rattle.clock.proofs.Rise as rise
use Rattle.clock.proofs.Back as back
use Rattle.clock.proofs.Instant as instant
use Rattle.clock.proofs.InOrder as in_order
use Rattle.clock.proofs.Agree as agree
use Rattle.clock.proofs.Differ as differ
use Rattle.leap.specs.Calls.{HandsWriting}

-- ---- Months, days and the schedule

-- month 0 starts on MJD 41317, and month 2400 on MJD 114366
pub month_0 : month_start 0 ≡ 41_317
month_0 = calendar.start_zero

pub month_2400 : month_start 2400 ≡ 114_366
month_2400 = calendar.start_last

-- each month starts when the one before it ends; month m lies in the year 1972 + m / 12
pub next_month : (m : ℕ) → month_start (m + 1) ≡ month_start m + days_in_month m
next_month m = calendar.start_next m

pub days_of_a_month : (m : ℕ)
    → days_in_month m ≡ get_or (31 ∷ cond (is_leap_year (1972 + m / 12)) 29 28 ∷ 31 ∷ 30 ∷ 31 ∷ 30 ∷ 31 ∷ 31 ∷ 30 ∷ 31 ∷ 30 ∷ 31 ∷ []) (m % 12) 0
unfolding days_in_month month_lengths
days_of_a_month m = refl

-- the Gregorian rule; the year 2100 is not a leap year
pub leap_year : (y : ℕ) → is_leap_year y ≡ (eqb (y % 4) 0 && (not (eqb (y % 100) 0) || eqb (y % 400) 0))
unfolding is_leap_year
leap_year y = refl

pub no_leap_2100 : is_leap_year 2100 ≡ false
no_leap_2100 = gregorian.no_leap_2100

-- a schedule is well formed exactly when it has at most 256 leaps, whose months rise by 1 to 999 from month 0 on, and its expiry day is later than the
-- first day of the last leap's month (of month 0 if there is none), at most 999 months after it by month number, and at most 114366
pub well_formed_lem : (s : Schedule) → (well_formed s ≡ true) ↔ WellFormed s
well_formed_lem s = schedule.well_formed_exactly s

-- handed in as 514 words, it is well formed exactly when they are the words of a well-formed schedule: word 2 i is the month of leap i and word 2 i + 1
-- its sign, 0 or 1; unused places hold month 0 and a positive sign, 0 and 0; word 512 is the count and word 513 the expiry day
pub in_words : (words : List ℕ) → length words ≡ 514 → (well_formed (meant words) ≡ true) ↔ ((s : Schedule) × (well_formed s ≡ true) × (words ≡ words_of s))
in_words words h = meanings.refused_words words h

pub the_words : (s : Schedule) → length s.leaps ≤ 256 → Words s (words_of s)
the_words s h = words.in_words s h

-- and those words mean that schedule
pub words_mean : (s : Schedule) → well_formed s ≡ true → meant (words_of s) ≡ s
words_mean s w = meanings.words_stand s w

-- words that claim more than 256 leaps are not well formed
pub more_than_256 : (words : List ℕ) → 256 < get_or words 512 0 → well_formed (meant words) ≡ false
more_than_256 words h = meanings.too_many words h

-- the blank schedule has no leaps and expiry 0, and is not well formed
pub blank : (blank_schedule.leaps ≡ []) × (blank_schedule.expiry ≡ 0) × (well_formed blank_schedule ≡ false)
blank = (refl, refl, gaps.blank_refused)

-- DTAI is 10 on MJD 41317
pub dtai_10 : (s : Schedule) → well_formed s ≡ true → dtai s 41_317 ≡ pos 10
dtai_10 s w = exact.ten_in_1972 s w

-- a leap at month m happens at the end of the day before month m starts: that day is 86,401 s long before a positive leap, after which DTAI is 1 more,
-- and 86,399 s before a negative one, after which it is 1 less; any other day is 86,400 s long, and DTAI stays
module _ (s : Schedule) (w : well_formed s ≡ true) (mjd : ℕ) where
  pub positive_leap : (i : ℕ) → LeapAtEnd s mjd i Positive → (day_length (ending s mjd) ≡ 86_401_000_000) × (dtai s (mjd + 1) ≡ dtai s mjd +ℤ pos 1)
  positive_leap i l = lengths.day_before_positive s w mjd i l

  pub negative_leap : (i : ℕ) → LeapAtEnd s mjd i Negative → (day_length (ending s mjd) ≡ 86_399_000_000) × (dtai s (mjd + 1) ≡ dtai s mjd -ℤ pos 1)
  negative_leap i l = lengths.day_before_negative s w mjd i l

  pub no_leap_lem : ((i : ℕ) → i < length s.leaps → month_start (get_or s.leaps i (record { month = 0; sign = Positive })).month ≢ mjd + 1)
      → (day_length (ending s mjd) ≡ 86_400_000_000) × (dtai s (mjd + 1) ≡ dtai s mjd)
  no_leap_lem n = lengths.usual_day s w mjd n

-- ---- The text list

-- a gap is in decimal with no leading zero: one digit below 10, and from there on the digits of its tenth part and then the last one
pub one_digit : (n : ℕ) → n < 10 → decimal n ≡ (48 + n) ∷ []
one_digit n h = digits.small n h

pub more_digits : (n : ℕ) → 10 ≤ n → decimal n ≡ decimal (n / 10) ++ ((48 + n % 10) ∷ [])
more_digits n h = digits.large n h

-- a text is taken exactly when it is a list by the rules, and then with its schedule, number 0 and place 0
pub text_taken : (bytes : List ℕ) (s : Schedule) → (read_text bytes ≡ record { number = 0; place = 0; schedule = s }) ↔ text_rules.IsList bytes s
text_taken bytes s = text_read.taken_exactly bytes s

-- it is refused with a number at a place exactly when the first fault from the left is that one, whatever follows, and then with the blank schedule
pub text_refused : (bytes : List ℕ) (number place : ℕ) → 0 < number
    → (read_text bytes ≡ record { number = number; place = place; schedule = blank_schedule }) ↔ text_rules.Fault bytes number place
text_refused bytes number place h = text_read.refused_exactly bytes number place h

-- every text is one or the other
pub text_either : (bytes : List ℕ) → text_rules.Ruled bytes (read_text bytes)
text_either bytes = text_read.by_the_rules bytes

-- the text that is written of a schedule, and no other bytes, is a list of it, rounded down to a first of a month
pub text_written : (s : Schedule) → well_formed s ≡ true → leaves_gap s ≡ true → (bytes : List ℕ) → (bytes ≡ text_of s) ↔ text_rules.IsList bytes (rounded_down s)
text_written s w g bytes =
    let read = text_back.reads_back_rounded s w g in (
      λ e. (text_read.taken_exactly bytes (rounded_down s)).0 (rw e read),
      λ l.
          let same = text_read.list_taken l in
          text_spelling.no_other bytes (text_of s) (ap (λ (r : Reading). r.number) same) (ap (λ (r : Reading). r.number) read)
          (ap (λ (r : Reading). r.schedule) (same ∙ sym read)),
    )

-- a list has one spelling: the bytes accepted are the writer's
pub text_one_spelling : (bytes : List ℕ) → (read_text bytes).number ≡ 0 → text_of (read_text bytes).schedule ≡ bytes
text_one_spelling bytes e = text_spelling.one_spelling bytes e

-- LEAP_TEXT_ROOM, 752 bytes, holds every text, and one needs all of it
pub text_room_752 : (s : Schedule) → well_formed s ≡ true → length (text_of s) ≤ 752
text_room_752 s w = text_room.at_most_752 s w

pub text_752 : (s : Schedule) × (well_formed s ≡ true) × (length (text_of s) ≡ 752)
text_752 = text_room.needs_752

-- ---- The nybble list

-- every spelling that the rules allow is taken, the preferred one or not, with the schedule that it means; and nothing else is taken
pub nybbles_taken : (bytes : List ℕ) → nybble_rules.AreBytes bytes → (s : Schedule)
    → (read_nybbles bytes ≡ record { number = 0; place = 0; schedule = s }) ↔ nybble_rules.Spells (nybble_rules.halves bytes) s
nybbles_taken bytes b s = nybble_read.taken_exactly bytes b s

-- a list is refused with a number at a place exactly when the rules find that fault there first, and then with the blank schedule
pub nybbles_refused : (bytes : List ℕ) → nybble_rules.AreBytes bytes → (number place : ℕ)
    → (read_nybbles bytes ≡ record { number = number; place = place; schedule = blank_schedule }) ↔ nybble_rules.Faulty (nybble_rules.halves bytes) number place
nybbles_refused bytes b n p = nybble_read.refused_exactly bytes b n p

-- every list is one or the other
pub nybbles_either : (bytes : List ℕ) → nybble_rules.AreBytes bytes
    → nybble_rules.Spells (nybble_rules.halves bytes) (read_nybbles bytes).schedule
    ⊎ nybble_rules.Faulty (nybble_rules.halves bytes) (read_nybbles bytes).number (read_nybbles bytes).place
nybbles_either bytes b = nybble_read.taken_or_refused bytes b

-- refusal 2 is not given
pub nybbles_not_2 : (bytes : List ℕ) → (read_nybbles bytes).number ≢ 2
nybbles_not_2 bytes = nybble_numbers.two_not_given bytes

-- the writer has one spelling, which is that of the rules
pub nybbles_written : (s : Schedule) → well_formed s ≡ true → leaves_gap s ≡ true → (bytes : List ℕ)
    → (bytes ≡ nybbles_of s) ↔ nybble_rules.Written s (nybble_rules.halves bytes)
nybbles_written s w g bytes = nybble_written.written_exactly s w g bytes

-- LEAP_NYBBLES_ROOM, 390 bytes, holds every list, and one needs all of it
pub nybbles_room_390 : (s : Schedule) → well_formed s ≡ true → leaves_gap s ≡ true → length (nybbles_of s) ≤ 390
nybbles_room_390 s w g = nybble_room.at_most_390 s w g

pub nybbles_390 : (s : Schedule) × (well_formed s ≡ true) × (leaves_gap s ≡ true) × (length (nybbles_of s) ≡ 390)
nybbles_390 = (nybble_room.longest, nybble_room.longest_well, nybble_room.longest_leaves_gap, nybble_room.longest_390)

-- ---- Times

-- TAI is 86,400,000,000 x (MJD - 41317) + UTC microseconds + 1,000,000 x DTAI
pub tai_rule : (s : Schedule) (mjd t : ℕ) → well_formed s ≡ true → 41_317 ≤ mjd
    → pos (tai s mjd t) ≡ pos 86_400_000_000 *ℤ (pos mjd -ℤ pos 41_317) +ℤ pos t +ℤ pos 1_000_000 *ℤ dtai s mjd
tai_rule s mjd t w h = exact.tai_exact s mjd t w h

-- w is +1, -1 or 0 for the leap ending the day, and R = L - t: if R < 1,000,000,000, UTS is 1000 x t - w x (1,000,000,000 - R), else 1000 x t
pub uts_rule : (w : Ending) (t : ℕ) → t < day_length w
    → pos (uts w t) ≡ cond (ltb (day_length w - t) 1_000_000_000) (pos (1000 * t) -ℤ leap_sign w *ℤ pos (1_000_000_000 - (day_length w - t))) (pos (1000 * t))
uts_rule w t h = exact.uts_exact w t h

-- this one rule agrees with both branches of document 002
pub document_002 : (w : Ending) (t : ℕ) → t < day_length w → uts w t ≡ algorithm w t
document_002 w t h = uts_laws.both_branches w t h

-- UTS stays less than one second from UTC of the same day
pub within_one_second : (s : Schedule) (mjd t u : ℕ) → utc_to_uts s mjd t ≡ given u → (u < 1000 * t + 1_000_000_000) × (1000 * t < u + 1_000_000_000)
within_one_second s mjd t u h = rise.within_one_second s mjd t u h

-- UTS to UTC gives the greatest t of that day whose UTS is not above the one given
pub greatest : (s : Schedule) (mjd u t : ℕ) → uts_to_utc s mjd u ≡ given t → GreatestNotAbove s mjd u t
greatest s mjd u t h = back.greatest_not_above s mjd u t h

-- TAI to UTC gives the one instant whose TAI it is
pub one_instant : (s : Schedule) (x : ℕ) (u : Utc) → (tai_to_utc s x ≡ given u) ↔ (utc_to_tai s u.day u.micros ≡ given x)
one_instant s x u = instant.tai_inverse s x u

-- Z is the last day before the expiry. DTAI is given through Z
pub dtai_given : (s : Schedule) (mjd : ℕ) → ((d : ℤ) × (dtai_on s mjd ≡ given d)) ↔ ((well_formed s ≡ true) × (41_317 ≤ mjd) × (mjd < s.expiry))
dtai_given s mjd = in_order.dtai_given s mjd

-- TAI on Z below 86,399,000,000 microseconds, UTS on Z below 85,399,000,000 microseconds, coming back below 85,399,000,000,000 nanoseconds; if the expiry
-- is not the first of a month, all of Z (`Known`)
pub tai_given : (s : Schedule) (mjd t : ℕ) → ((x : ℕ) × (utc_to_tai s mjd t ≡ given x))
    ↔ ((well_formed s ≡ true) × (41_317 ≤ mjd) × (t < day_length (ending s mjd)) × Known s 86_399_000_000 mjd t)
tai_given s mjd t = in_order.utc_to_tai_given s mjd t

pub uts_given : (s : Schedule) (mjd t : ℕ) → ((u : ℕ) × (utc_to_uts s mjd t ≡ given u))
    ↔ ((well_formed s ≡ true) × (41_317 ≤ mjd) × (t < day_length (ending s mjd)) × Known s 85_399_000_000 mjd t)
uts_given s mjd t = in_order.utc_to_uts_given s mjd t

pub utc_of_uts_given : (s : Schedule) (mjd u : ℕ) → ((t : ℕ) × (uts_to_utc s mjd u ≡ given t))
    ↔ ((well_formed s ≡ true) × (41_317 ≤ mjd) × (u < 86_400_000_000_000) × Known s 85_399_000_000_000 mjd u)
utc_of_uts_given s mjd u = in_order.uts_to_utc_given s mjd u

-- TAI to UTC is given below the TAI of Z at 86,399,000,000, or of its end (`KnownTai`)
pub utc_of_tai_given : (s : Schedule) (x : ℕ) → ((u : Utc) × (tai_to_utc s x ≡ given u)) ↔ ((well_formed s ≡ true) × (10_000_000 ≤ x) × KnownTai s x)
utc_of_tai_given s x = in_order.tai_to_utc_given s x

-- ---- The numbers

-- each name has its number
pub the_numbers : ends_early ∷ not_allowed ∷ bad_gap ∷ past_last_month ∷ too_many_leaps ∷ after_end ∷ output_short ∷ before1972 ∷ no_instant ∷ not_known ∷ not_well_formed ∷ no_gap ∷ []
    ≡ 1 ∷ 2 ∷ 3 ∷ 4 ∷ 5 ∷ 6 ∷ 7 ∷ 8 ∷ 9 ∷ 10 ∷ 11 ∷ 17 ∷ []
the_numbers = refl

-- and a refusal is no other than the one with its number
pub refusal_by_number : (r s : Refusal) → number_of r ≡ number_of s → r ≡ s
refusal_by_number r s e = refusals.one_number r s e

-- a refused reader returns the blank schedule
pub text_blank : (bytes : List ℕ) → (read_text bytes).number ≢ 0 → (read_text bytes).schedule ≡ blank_schedule
text_blank bytes h = text_sound.refused_blank bytes h

pub nybbles_blank : (bytes : List ℕ) → (read_nybbles bytes).number ≢ 0 → (read_nybbles bytes).schedule ≡ blank_schedule
nybbles_blank bytes h = nybble_sound.refused_blank bytes h

-- writers refuse with 11, then with 17 exactly where the expiry lies in the last leap's month (in month 0 if there is none), then with 7 where the output
-- is shorter than the list; refusing, they return the number and 0 bytes and change nothing
module _ (s : Schedule) (bytes out : List ℕ) where
  pub writer_11 : well_formed s ≡ false → (writing s bytes (length out) ≡ refused 11) × (or_zero 0 (writing s bytes (length out)) ≡ 0) × (written s bytes out ≡ out)
  unfolding written
  writer_11 e = (rw e, rw e, rw e)

  pub writer_17 : well_formed s ≡ true → leaves_gap s ≡ false → (writing s bytes (length out) ≡ refused 17) × (or_zero 0 (writing s bytes (length out)) ≡ 0) × (written s bytes out ≡ out)
  unfolding written
  writer_17 w g = (rw (w, g), rw (w, g), rw (w, g))

  pub writer_7 : well_formed s ≡ true → leaves_gap s ≡ true → length out < length bytes
      → (writing s bytes (length out) ≡ refused 7) × (or_zero 0 (writing s bytes (length out)) ≡ 0) × (written s bytes out ≡ out)
  unfolding written fitted
  writer_7 w g h = let short = lt-leb (length bytes) (length out) h in (rw (w, g, short), rw (w, g, short), rw (w, g, short))

  -- accepting, they return number 0 and the byte count, and bytes beyond it keep what they held
  pub writer_0 : well_formed s ≡ true → leaves_gap s ≡ true → length bytes ≤ length out
      → (writing s bytes (length out) ≡ given (length bytes)) × (number (writing s bytes (length out)) ≡ 0) × (written s bytes out ≡ bytes ++ drop (length bytes) out)
  unfolding written fitted
  writer_0 w g h = let room = le-leb (length bytes) (length out) h in (rw (w, g, room), rw (w, g, room), rw (w, g, room))

pub no_gap_left : (s : Schedule) → well_formed s ≡ true → (leaves_gap s ≡ false) ↔ (month_of s.expiry ≡ last_leap 0 s.leaps)
no_gap_left s w = schedule.no_gap_exactly s w

-- for a date: 11, 8, 10
pub date_order : (s : Schedule) (mjd : ℕ)
    → RefusedIf 11 (well_formed s ≡ false)
    (RefusedIf 8 (mjd < 41_317)
    (RefusedIf 10 (s.expiry ≤ mjd)
    (Gives (dtai s mjd)))) (dtai_on s mjd)
date_order s mjd = in_order.dtai_order s mjd

-- UTC instants: 11, 8, then 9 if t is 86,401,000,000 or more, 10, then 9 if t is the day's length or more
pub utc_order : (s : Schedule) (mjd t : ℕ)
    → RefusedIf 11 (well_formed s ≡ false)
    (RefusedIf 8 (mjd < 41_317)
    (RefusedIf 9 (86_401_000_000 ≤ t)
    (RefusedIf 10 (Unknown s 86_399_000_000 mjd t)
    (RefusedIf 9 (day_length (ending s mjd) ≤ t)
    (Gives (tai s mjd t)))))) (utc_to_tai s mjd t)
utc_order s mjd t = in_order.utc_to_tai_order s mjd t

pub utc_smoothed_order : (s : Schedule) (mjd t : ℕ)
    → RefusedIf 11 (well_formed s ≡ false)
    (RefusedIf 8 (mjd < 41_317)
    (RefusedIf 9 (86_401_000_000 ≤ t)
    (RefusedIf 10 (Unknown s 85_399_000_000 mjd t)
    (RefusedIf 9 (day_length (ending s mjd) ≤ t)
    (Gives (uts (ending s mjd) t)))))) (utc_to_uts s mjd t)
utc_smoothed_order s mjd t = in_order.utc_to_uts_order s mjd t

-- UTS instants: 11, 8, 9 (86,400,000,000,000 or more), 10
pub uts_order : (s : Schedule) (mjd u : ℕ)
    → RefusedIf 11 (well_formed s ≡ false)
    (RefusedIf 8 (mjd < 41_317)
    (RefusedIf 9 (86_400_000_000_000 ≤ u)
    (RefusedIf 10 (Unknown s 85_399_000_000_000 mjd u)
    (Gives (utc_of (ending s mjd) u))))) (uts_to_utc s mjd u)
uts_order s mjd u = in_order.uts_to_utc_order s mjd u

-- TAI: 11, 8, 10
pub tai_order : (s : Schedule) (x : ℕ)
    → RefusedIf 11 (well_formed s ≡ false)
    (RefusedIf 8 (x < 10_000_000)
    (RefusedIf 10 (UnknownTai s x)
    (Gives (record { day = day_of s x; micros = x - tai s (day_of s x) 0 })))) (tai_to_utc s x)
tai_order s x = in_order.tai_to_utc_order s x

-- no question has a number above 11, nor one below 8 but 0
pub no_other_number : (s : Schedule) (q : Question) → (number (ask s q) ≡ 0) ⊎ ((8 ≤ number (ask s q)) × (number (ask s q) ≤ 11))
no_other_number s q = in_order.no_other_number s q

-- ---- Demand 1: any bytes, schedule or time may be given, and each call ends with an answer or a numbered refusal

-- (No public function has a precondition, and each is proved to end. The theorems above say of any bytes, schedule and time which it is.)
-- an answer carries number 0, and a refusal its own
pub number_0 : {A : Type 0} (a : Answer A) (v : A) → a ≡ given v → number a ≡ 0
number_0 a v e = ap number e

pub its_number : {A : Type 0} (a : Answer A) (n : ℕ) → a ≡ refused n → number a ≡ n
its_number a n e = ap number e

-- a question hands over 0 and the value, or the refusal's number and 0
pub value_given : (v n x : ℕ) → HandsValue 0 (given v) n x → (n ≡ 0) × (x ≡ v)
value_given v n x h = (h.its_number, h.its_value)

pub value_refused : (k n x : ℕ) → HandsValue 0 (refused k) n x → (n ≡ k) × (x ≡ 0)
value_refused k n x h = (h.its_number, h.its_value)

pub dtai_handed : (v : ℤ) (n : ℕ) (x : ℤ) → HandsValue (pos 0) (given v) n x → (n ≡ 0) × (x ≡ v)
dtai_handed v n x h = (h.its_number, h.its_value)

pub dtai_refused : (k n : ℕ) (x : ℤ) → HandsValue (pos 0) (refused k) n x → (n ≡ k) × (x ≡ pos 0)
dtai_refused k n x h = (h.its_number, h.its_value)

-- TAI to UTC hands over the day and the microseconds, or 0 and 0
pub utc_given : (mjd micros n d m : ℕ) → HandsUtc (given (record { day = mjd; micros = micros })) n d m → (n ≡ 0) × (d ≡ mjd) × (m ≡ micros)
utc_given mjd micros n d m h = handed.utc_given mjd micros n d m h

pub utc_refused : (k n d m : ℕ) → HandsUtc (refused k) n d m → (n ≡ k) × (d ≡ 0) × (m ≡ 0)
utc_refused k n d m h = handed.utc_refused k n d m h

-- a reader hands over its number, its place and the words of its schedule; those of the blank schedule are 514 zeros
pub reading_handed : (r : Reading) (n p : ℕ) (words : List ℕ) → HandsReading r n words p → (n ≡ r.number) × (words ≡ words_of r.schedule) × (p ≡ r.place)
reading_handed r n p words h = (h.its_number, h.its_words, h.its_place)

pub blank_words : words_of blank_schedule ≡ replicate 514 0
unfolding words_of leap_words
blank_words = refl

-- a writer hands over its number, its count of bytes and the output as it leaves it
pub writing_handed : (s : Schedule) (list before : List ℕ) (n count : ℕ) (after : List ℕ) → HandsWriting s list before n count after
    → (n ≡ number (writing s list (length before))) × (count ≡ or_zero 0 (writing s list (length before))) × (after ≡ written s list before)
writing_handed s list before n count after h = (h.its_number, h.its_count, h.its_bytes)

-- ---- Demand 2: every schedule within the limits reads back as itself, and smoothed time strictly rises

-- every well-formed schedule that expires on the first of a month, in either format
pub text_reads_back : (s : Schedule) → well_formed s ≡ true → starts_month s.expiry ≡ true → read_text (text_of s) ≡ record { number = 0; place = 0; schedule = s }
text_reads_back s w m = text_back.reads_back s w m

pub nybbles_read_back : (s : Schedule) → well_formed s ≡ true → starts_month s.expiry ≡ true → read_nybbles (nybbles_of s) ≡ record { number = 0; place = 0; schedule = s }
nybbles_read_back s w m = nybble_back.reads_back s w m

-- any other, where it can be written, as itself rounded down to the latest first of a month that is not after its expiry
pub text_reads_rounded : (s : Schedule) → well_formed s ≡ true → leaves_gap s ≡ true → read_text (text_of s) ≡ record { number = 0; place = 0; schedule = rounded_down s }
text_reads_rounded s w g = text_back.reads_back_rounded s w g

pub nybbles_read_rounded : (s : Schedule) → well_formed s ≡ true → leaves_gap s ≡ true → read_nybbles (nybbles_of s) ≡ record { number = 0; place = 0; schedule = rounded_down s }
nybbles_read_rounded s w g = nybble_back.reads_back_rounded s w g

pub rounded_down_lem : (s : Schedule) → well_formed s ≡ true → ((rounded_down s).leaps ≡ s.leaps) × ((rounded_down s).expiry ≤ s.expiry) × (starts_month (rounded_down s).expiry ≡ true)
    × ((m : ℕ) → month_start m ≤ s.expiry → month_start m ≤ (rounded_down s).expiry)
rounded_down_lem s w = let r = schedule.rounded_is_last s w in (refl, r.0, r.1, r.2)

-- of two instants with a UTS under one list the later has the greater, over days of 86,400 s
pub strictly_rises : (s : Schedule) (c a d b x y : ℕ) → utc_to_uts s c a ≡ given x → utc_to_uts s d b ≡ given y → (c < d) ⊎ ((c ≡ d) × (a < b))
    → 86_400_000_000_000 * c + x < 86_400_000_000_000 * d + y
strictly_rises s c a d b x y p q l = rise.strictly_rises s c a d b x y p q l

-- ---- Demand 3

-- a list extends another exactly when it has its leaps, then only leaps in months that start on the shorter one's expiry day or later, and expires no
-- earlier
pub extends : (longer shorter : Schedule) → well_formed longer ≡ true → well_formed shorter ≡ true
    → Extends longer shorter ↔ ((further : List Leap) × ExtendsBy longer shorter further)
extends l s w v = schedule.extends_exactly l s w v

-- equal lists extend each other
pub extends_itself : (s : Schedule) → well_formed s ≡ true → Extends s s
extends_itself s w = extension.extends_itself s w

-- every answer under the shorter list is unchanged under the longer, for each of the five questions; refusals 8 and 9 stay; 10 stays or becomes an
-- answer or 9 (`Kept`)
pub longer_keeps : (longer shorter : Schedule) → Extends longer shorter → well_formed longer ≡ true → well_formed shorter ≡ true → (q : Question) → Kept longer shorter q
longer_keeps l s x w v q = agree.keeps l s x w v q

-- two lists never contradict each other exactly when one extends the other
pub never_contradict : (s s' : Schedule) → well_formed s ≡ true → well_formed s' ≡ true
    → ((q : Question) (v v' : Value q) → ask s q ≡ given v → ask s' q ≡ given v' → v ≡ v') ↔ (Extends s' s ⊎ Extends s s')
never_contradict s s' w w' = differ.agree_iff_extends s s' w w'

-- where neither extends the other, some date has a DTAI given under both, and the two differ
pub two_offsets : (s s' : Schedule) → well_formed s ≡ true → well_formed s' ≡ true → ¬ Extends s' s → ¬ Extends s s' → Parted s s'
two_offsets s s' w w' p q = differ.parted s s' w w' p q
