-- "In demand 3": what a longer list keeps, when two lists agree, and when they are parted.
-- A list is a well-formed schedule; `Extends` stands in the crate schedule.
-- Assumes nothing: these are definitions.
use Rattle.std.specs.Prelude.{◌⊎◌, ◌≢◌, ◌≡◌, ℕ, ℤ}
use Rattle.refusals.specs.Refusals.{before1972, no_instant, not_known}
use Rattle.schedule.specs.Schedule.{Schedule}
use Rattle.refusals.specs.Answer.{Answer, given, refused}
use Rattle.clock.specs.Question.{Question, ask_dtai, Value, ask}

-- what refusal 10 may become: itself, 9 or an answer
abbrev pub Open : {A : Type 0} → Answer A → Type 0
Open {A} a = (a ≡ refused not_known) ⊎ ((a ≡ refused no_instant) ⊎ ((v : A) × (a ≡ given v)))

-- the longer list keeps what the shorter one says to a question: every answer, and refusals 8 and 9; refusal 10 stays or becomes an answer or 9
pub record Kept (longer shorter : Schedule) (q : Question) : Type 0 where
  pub answer : (v : Value q) → ask shorter q ≡ given v → ask longer q ≡ given v
  pub refusal_8 : ask shorter q ≡ refused before1972 → ask longer q ≡ refused before1972
  pub refusal_9 : ask shorter q ≡ refused no_instant → ask longer q ≡ refused no_instant
  pub refusal_10 : ask shorter q ≡ refused not_known → Open (ask longer q)

-- two lists never contradict each other: no question gets two different answers
abbrev pub Agreed : Schedule → Schedule → Type 0
Agreed s s' = (q : Question) (v v' : Value q) → ask s q ≡ given v → ask s' q ≡ given v' → v ≡ v'

-- a date has a DTAI given under both lists, and the two differ
pub record Parted (s s' : Schedule) : Type 0 where
  pub day : ℕ
  pub dtai₁ : ℤ
  pub dtai₂ : ℤ
  pub first : ask s (ask_dtai day) ≡ given dtai₁
  pub second : ask s' (ask_dtai day) ≡ given dtai₂
  pub differ : dtai₁ ≢ dtai₂
