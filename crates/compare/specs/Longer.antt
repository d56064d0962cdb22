-- Which of two lists is the longer, and what is handed back of it.
-- Assumes nothing: these are definitions.
use Rattle.std.specs.Prelude.{ℕ, ◌≡◌, cond, List, []}
use Rattle.std.specs.Borrow.{Bor}
use Rattle.refusals.specs.Answer.{Answer, given, refused}
use Rattle.refusals.specs.Refusals.{contradiction}
use Rattle.schedule.specs.Schedule.{Schedule}
use Rattle.schedule.specs.Answers.{by_reading}
use Rattle.schedule.specs.Extends.{extends}
use Rattle.text.specs.Read.{read_text}
use Rattle.compare.specs.declared.longer.Chosen.{Chosen}
use Rattle.compare.specs.declared.longer.Chosen.TheVariants.{First, Second}

-- the longer of two schedules is the one that extends the other, the first if they are the same; 16 where they contradict: neither extends the other
unfoldable pub chosen_of : Schedule → Schedule → Answer Chosen
chosen_of a b = cond (extends a b) (given First) (cond (extends b a) (given Second) (refused contradiction))

-- an answer about two text lists: 01's refusals for the first list, then for the second, the number alone
abbrev pub about_both : {A : Type 0} → List ℕ → List ℕ → (ℕ → A) → (Schedule → Schedule → A) → A
about_both x y refuse f = by_reading (read_text x) (λ n place. refuse n) (λ a. by_reading (read_text y) (λ n place. refuse n) (f a))

-- the longer of two text lists, or the refusal
abbrev pub chosen : List ℕ → List ℕ → Answer Chosen
chosen x y = about_both x y refused chosen_of

-- what is handed back, with its number: the very reference that the caller lent (its address and its bytes), or the empty start of the first
abbrev pub HandsBack : Answer Chosen → Bor (List ℕ) → Bor (List ℕ) → Bor (List ℕ) → ℕ → Type 0
HandsBack (given First) a b r number = (r ≡ a) × (number ≡ 0)
HandsBack (given Second) a b r number = (r ≡ b) × (number ≡ 0)
HandsBack (refused n) a b r number = (r.ref_ptr ≡ a.ref_ptr) × (r.now ≡ []) × (number ≡ n)
