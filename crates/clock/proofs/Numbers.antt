-- What is handed over of an answer, given or refused: its number, and its value or 0 for every value.
-- Assumes nothing.
use Rattle.std.proofs.Common.{◌≡◌, ℕ, refl}
use Rattle.std.specs.Prelude.{Ok, Err}
use lib.IntN.{ℤ, pos}
use Rattle.refusals.specs.declared.Refusal.{Refusal}
use Rattle.refusals.specs.Refusals.{number_of}
use Rattle.refusals.specs.Answer.{given, refused, answer_by, number, or_zero}
use Rattle.clock.specs.Question.{Utc}
use Rattle.clock.specs.Answers.{tai_count, utc_count, uts_count, instant, HandsUtc}

-- a call's result with a value carries number 0 and what the value stands for; a refusal carries its number, and zero for the value
abbrev pub Told : {A B : Type 0} → (A → B) → B → Type 0
Told {A} value zero =
    ((v : A) → (number (answer_by value (Ok v)) ≡ 0) × (or_zero zero (answer_by value (Ok v)) ≡ value v))
    × ((r : Refusal) → (number (answer_by value (Err r)) ≡ number_of r) × (or_zero zero (answer_by value (Err r)) ≡ zero))

told : {A B : Type 0} (value : A → B) (zero : B) → Told value zero
told value zero = ((λ v. (refl, refl)), (λ r. (refl, refl)))

-- so does each question's
pub dtai_told : Told (λ (z : ℤ). z) (pos 0)
dtai_told = told (λ (z : ℤ). z) (pos 0)

pub tai_told : Told tai_count 0
tai_told = told tai_count 0

pub utc_told : Told instant (record { day = 0; micros = 0 })
utc_told = told instant (record { day = 0; micros = 0 })

pub uts_told : Told uts_count 0
uts_told = told uts_count 0

pub micros_told : Told utc_count 0
micros_told = told utc_count 0

-- of an instant given the day and its microseconds are handed over, each in its place; of one refused the number, 0 and 0
pub utc_given : (day micros n d m : ℕ) → HandsUtc (given (record { day = day; micros = micros })) n d m → (n ≡ 0) × (d ≡ day) × (m ≡ micros)
utc_given day micros n d m h = (h.its_number, h.its_day, h.its_micros)

pub utc_refused : (number n d m : ℕ) → HandsUtc (refused number) n d m → (n ≡ number) × (d ≡ 0) × (m ≡ 0)
utc_refused number n d m h = (h.its_number, h.its_day, h.its_micros)
