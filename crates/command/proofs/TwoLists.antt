-- No byte is LF in what is answered about two lists. Assumes nothing.
use mathlib.Core.Path.{◌≡◌, refl}
use mathlib.Core.Bool.{false}
use mathlib.Core.List.{List, [], ◌∷◌}
use Prim.Native.Nat.{ℕ}
use lib.Dec.{eqb}
use Rattle.ascii.specs.Lines.{between}
use Rattle.ascii.proofs.Unbroken.{Unbroken, empty, append, either, in_decimal, in_refusal}
use Rattle.schedule.specs.Schedule.{Schedule}
use Rattle.schedule.specs.Answers.{Reading, by_reading}
use Rattle.text.specs.Read.{read_text}
use Rattle.text.proofs.Spelling.{one_spelling}
use Rattle.compare.specs.declared.longer.Chosen.{Chosen}
use Rattle.compare.specs.declared.longer.Chosen.TheVariants.{First, Second}
use Rattle.refusals.specs.Answer.{Answer, given, refused}
use Rattle.compare.specs.Compare.{Line, lines_of, joined, comparison_of}
use Rattle.compare.specs.Longer.{chosen}
use Rattle.compare.proofs.TwoTexts.{Taken}
use Rattle.compare.proofs.Shown.{AllUnbroken, lines_unbroken}
use Rattle.answers.specs.Lists.{longer_by}
use Rattle.answers.proofs.Chosen.{first_read, second_read}
use Rattle.command.proofs.Unbroken.{in_text, in_between}

-- an answer about a list that was read, or its refusal
pub in_reading : (r : Reading) (refuse : ℕ → ℕ → List ℕ) (f : Schedule → List ℕ) → ((n place : ℕ) → Unbroken (refuse n place)) → ((s : Schedule) → Unbroken (f s))
    → Unbroken (by_reading r refuse f)
unfolding by_reading
in_reading r refuse f n u = either (eqb r.number 0) (u r.schedule) (n r.number r.place)

-- ---- where they part

in_joined : (ls : List Line) → AllUnbroken ls → Unbroken (joined (between false) ls)
unfolding joined
in_joined [] u = empty
in_joined (l ∷ []) u = u.0
in_joined (l ∷ k ∷ ks) u = append _ u.0 (append _ in_between (in_joined (k ∷ ks) u.1))

pub in_comparison : (x y : List ℕ) → Unbroken (comparison_of false x y)
in_comparison x y =
    in_reading (read_text x) _ _ (λ n place. in_decimal n)
    (λ a. in_reading (read_text y) _ _ (λ n place. in_decimal n) (λ b. in_joined (lines_of a b) (lines_unbroken a b)))

-- ---- the longer

read : (x : List ℕ) → Taken x → Unbroken x
read x t = rw (one_spelling x t) at (in_text (read_text x).schedule)

longer : (x y : List ℕ) (c : Answer Chosen) → c ≡ chosen x y → Unbroken (longer_by c x y)
unfolding longer_by
longer x y (given First) e = read x (first_read x y e)
longer x y (given Second) e = read y (second_read x y e)
longer x y (refused n) e = in_refusal n

pub in_longer : (x y : List ℕ) → Unbroken (longer_by (chosen x y) x y)
in_longer x y = longer x y (chosen x y) refl
