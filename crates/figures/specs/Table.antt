-- P1 to P12 of the scope paper as one table, shown of the definitions under one claim.
-- Assumes nothing.
use Rattle.std.specs.Prelude.{ℕ, ◌≡◌, refl, List, [], ◌∷◌}
use Rattle.calendar.specs.Calendar.{is_leap_year, month_lengths, days_in_month, month_start}
use Rattle.schedule.specs.declared.Sign.TheVariants.{Positive}
use Rattle.schedule.specs.Schedule.{blank_schedule, gaps_fit}
use Rattle.schedule.specs.Answers.{Reading, refusal, accepted, with_leap}
use Rattle.text.specs.Read.{read_from, read_text}
use Rattle.nybbles.specs.Codes.{nybbles, single, wide, codes_of}
use Rattle.nybbles.specs.Read.{fault, after, read_codes, read_nybbles}
use Rattle.clock.specs.Known.{known_to}
use Rattle.clock.specs.Smoothed.{uts}
use Rattle.refusals.specs.Answer.{Answer, given, refused}
use Rattle.clock.specs.Question.{utc_to_uts}

-- a row: a text or nybbles with what reading them answers; or a list's text, a day and microseconds of it, with their UTS
pub data Row : Type 0 where
  text : List ℕ → Reading → Row
  nybble : List ℕ → Reading → Row
  smooth : List ℕ → ℕ → ℕ → Answer ℕ → Row

-- what a row says
abbrev pub Says : Row → Type 0
Says (text bytes r) = read_text bytes ≡ r
Says (nybble bytes r) = read_nybbles bytes ≡ r
Says (smooth list day t u) = utc_to_uts (read_text list).schedule day t ≡ u

abbrev pub SayAll : List Row → Type 0
SayAll [] = Unit {0}
SayAll (r ∷ rs) = Says r × SayAll rs

-- `6+5?`, and list N, `6-5?`
abbrev pub plus : List ℕ
plus = 54 ∷ 43 ∷ 53 ∷ 63 ∷ []

abbrev pub list_n : List ℕ
list_n = 54 ∷ 45 ∷ 53 ∷ 63 ∷ []

abbrev pub table : List Row
table =
    -- P1 `5?`: no leap, expiry on the first day of month 5, 1 June 1972
    text (53 ∷ 63 ∷ []) (accepted blank_schedule 41469)
    -- P2 empty text: 1 at 0
    ∷ text [] (refusal 1 0)
    -- P3 `06+5?`: 3 at 0
    ∷ text (48 ∷ 54 ∷ 43 ∷ 53 ∷ 63 ∷ []) (refusal 3 0)
    -- P4 `1000?`: 3 at 3
    ∷ text (49 ∷ 48 ∷ 48 ∷ 48 ∷ 63 ∷ []) (refusal 3 3)
    -- P5 `999?` is taken: expiry on 1 April 2055
    ∷ text (57 ∷ 57 ∷ 57 ∷ 63 ∷ []) (accepted blank_schedule 71723)
    -- P6 `5?` and a newline: 6 at 2
    ∷ text (53 ∷ 63 ∷ 10 ∷ []) (refusal 6 2)
    -- P7 nybbles F4: expiry on the first day of month 5
    ∷ nybble (0xF4 ∷ []) (accepted blank_schedule 41469)
    -- P8 nybbles 0F: leap at 6, expiry on the first day of month 11, 1 December 1972
    ∷ nybble (0x0F ∷ []) (accepted (with_leap blank_schedule 6 Positive) 41652)
    -- P9 nybbles 9D: 1 at 2
    ∷ nybble (0x9D ∷ []) (refusal 1 2)
    -- P10 `6+5?`, MJD 41498, t 86,400,000,000: UTS 86,399,001,000,000
    ∷ smooth plus 41_498 86_400_000_000 (given 86_399_001_000_000)
    -- P11 same day, t 85,401,000,000: UTS 85,401,000,000,000; at 85,402,000,000: 85,401,999,000,000
    ∷ smooth plus 41_498 85_401_000_000 (given 85_401_000_000_000)
    ∷ smooth plus 41_498 85_402_000_000 (given 85_401_999_000_000)
    -- P12 list N, MJD 41498, t 86,398,000,000: UTS 86,398,999,000,000; t 86,399,000,000: 9
    ∷ smooth list_n 41_498 86_398_000_000 (given 86_398_999_000_000)
    ∷ smooth list_n 41_498 86_399_000_000 (refused 9)
    ∷ []

-- every row of the table holds of the definitions
pub p1_to_p12 : SayAll table
unfolding read_from read_text nybbles single wide codes_of fault after read_codes read_nybbles is_leap_year month_lengths days_in_month month_start gaps_fit known_to uts
p1_to_p12 = (refl, (refl, (refl, (refl, (refl, (refl, (refl, (refl, (refl, (refl, (refl, (refl, (refl, (refl, tt))))))))))))))
