-- What the values of the clock's answers stand for, and what is handed over of an answer.
-- Assumes nothing: these are definitions.
use Rattle.std.specs.Prelude.{◌≡◌, ℕ}
use Rattle.refusals.specs.Answer.{Answer, or_zero, number as number_of}
use Rattle.clock.specs.Question.{Utc}
use Rattle.clock.specs.declared.TaiMicros.{TaiMicros}
use Rattle.clock.specs.declared.UtcMicros.{UtcMicros}
use Rattle.clock.specs.declared.UtsNanos.{UtsNanos}
use Rattle.clock.specs.declared.UtcInstant.{UtcInstant}

-- A DTAI stands for itself.

-- the microseconds that a TAI counts
abbrev pub tai_count : TaiMicros → ℕ
tai_count x = x.0

-- the microseconds that a UTC counts
abbrev pub utc_count : UtcMicros → ℕ
utc_count t = t.0

-- the nanoseconds that a UTS counts
abbrev pub uts_count : UtsNanos → ℕ
uts_count u = u.0

-- the day and the microseconds of an instant
abbrev pub instant : UtcInstant → Utc
instant i = record { day = i.day; micros = i.micros.0 }

-- ---- what is handed over of an answer

-- a question hands over its number, and the value asked for or 0
pub record HandsValue {A : Type 0} (zero : A) (answer : Answer A) (number : ℕ) (value : A) : Type 0 where
  pub its_number : number ≡ number_of answer
  pub its_value : value ≡ or_zero zero answer

-- TAI to UTC hands over two: the day and its microseconds, or 0 and 0
pub record HandsUtc (answer : Answer Utc) (number day micros : ℕ) : Type 0 where
  pub its_number : number ≡ number_of answer
  pub its_day : day ≡ (or_zero (record { day = 0; micros = 0 }) answer).day
  pub its_micros : micros ≡ (or_zero (record { day = 0; micros = 0 }) answer).micros
