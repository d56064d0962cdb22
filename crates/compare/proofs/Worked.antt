-- 7/14 worked by hand, as one table under one claim: what comparing two texts answers and writes, and which of them is the longer.
-- Assumes nothing.
use mathlib.Core.Path.{◌≡◌, refl, ◌∙◌}
use mathlib.Core.Bool.{Bool, true, false, ◌&&◌}
use mathlib.Core.List.{List, [], ◌∷◌}
use Prim.Native.Nat.{ℕ}
use Prim.Native.String.{String}
use Rattle.ascii.specs.Ascii.{ascii}
use Rattle.ascii.specs.Decimal.{decimal, digits_in}
use Rattle.ascii.specs.Lines.{between}
use Rattle.calendar.specs.Calendar.{is_leap_year, month_lengths, days_in_month, month_start}
use Rattle.schedule.specs.Schedule.{is_expired}
use Rattle.refusals.specs.Answer.{Answer, given, refused}
use Rattle.schedule.specs.Answers.{by_reading, fitting, fitted}
use Rattle.schedule.specs.Extends.{below, same_leaps}
use Rattle.text.specs.Read.{read_from, read_text}
use Rattle.compare.specs.declared.longer.Chosen.{Chosen}
use Rattle.compare.specs.declared.longer.Chosen.TheVariants.{First, Second}
use Rattle.compare.specs.Longer.{chosen_of, about_both, chosen}
use Rattle.compare.specs.Compare.{has_leap, leap_mark, line_at, month_lines, expiry_lines, relation_by, in_lines, joined, compared, comparing, compared_into, comparison_of}
use Rattle.compare.proofs.Early.{all_below, early_lines, is_early, about_early}

-- a row: two texts and what an output that held other bytes then holds; two texts, a room, and the number or the count that is answered; two
-- texts and what the program answers, in lines or in one; two texts and the longer
pub data Row : Type 0 where
  writes : String → String → String → String → Row
  answers : String → String → ℕ → Answer ℕ → Row
  prints : Bool → String → String → String → Row
  longer : String → String → Answer Chosen → Row

-- what a row says
abbrev pub Says : Row → Type 0
Says (writes x y before after) = compared_into (ascii x) (ascii y) (ascii before) ≡ ascii after
Says (answers x y room a) = comparing (ascii x) (ascii y) room ≡ a
Says (prints lines x y text) = comparison_of lines (ascii x) (ascii y) ≡ ascii text
Says (longer x y c) = chosen (ascii x) (ascii y) ≡ c

abbrev pub SayAll : List Row → Type 0
SayAll [] = Unit {0}
SayAll (r ∷ rs) = Says r × SayAll rs

abbrev pub table : List Row
table =
    -- the paper's own example
    writes "6+6+5?" "6+12+5?" "........................................" "12 + 0\n18 ? +\n= 41834 42017\ncontradict\n."
    -- a leap in the month in which the other list expires, which extends it; a byte beyond the output stays
    ∷ writes "6?" "6+5?" "..................................x" "6 ? +\n= 41499 41652\nextends 2\n....x"
    ∷ writes "6+5?" "6?" ".............................." "6 + ?\n= 41652 41499\nextends 1\n"
    -- a leap where the other list knows that there is none; equal expiries have no line
    ∷ writes "11?" "6+5?" "................." "6 0 +\ncontradict\n"
    -- one month, two signs
    ∷ writes "6+5?" "6-5?" "................." "6 + -\ncontradict\n"
    ∷ writes "6-5?" "6-5?" ".......same\n" "same\n..same\n"
    -- the first list's refusal comes before the second's, and both before 7, which goes by the whole comparison
    ∷ answers "06+5?" "" 100 (refused 3)
    ∷ answers "5?" "" 0 (refused 1)
    ∷ answers "5?" "5" 0 (refused 1)
    ∷ answers "5?" "5?" 4 (refused 7)
    ∷ writes "5?" "5?" "1234" "1234"
    -- the count is that of the bytes written
    ∷ answers "5?" "5?" 5 (given 5)
    ∷ answers "6+6+5?" "6+12+5?" 39 (given 39)
    -- the program: lines with LF between them, or `; `; of a refusal the number alone
    ∷ prints true "6+6+5?" "6+12+5?" "12 + 0\n18 ? +\n= 41834 42017\ncontradict"
    ∷ prints false "6+6+5?" "6+12+5?" "12 + 0; 18 ? +; = 41834 42017; contradict"
    ∷ prints true "6?" "6+5?" "6 ? +\n= 41499 41652\nextends 2"
    ∷ prints false "6?" "6+5?" "6 ? +; = 41499 41652; extends 2"
    ∷ prints true "06+5?" "5" "3"
    ∷ prints false "5?" "5?x" "6"
    -- the longer of two, the first if they are the same, and none of two that contradict each other
    ∷ longer "6+5?" "6+5?" (given First)
    ∷ longer "6+6+5?" "6+5?" (given First)
    ∷ longer "6+5?" "6+6?" (given Second)
    ∷ longer "6+6+5?" "6+12+5?" (refused 16)
    ∷ longer "5?x" "1000?" (refused 6)
    ∷ longer "5?" "1000?" (refused 3)
    ∷ []

-- the same of a row by the first 20 months, which computes sooner
abbrev Computed : Row → Type 0
Computed (writes x y before after) =
    (is_early (ascii x) && is_early (ascii y) ≡ true) × (about_both (ascii x) (ascii y) (λ n. ascii before) (λ a b. fitted (in_lines (early_lines a b)) (ascii before)) ≡ ascii after)
Computed (answers x y room a) =
    (is_early (ascii x) && is_early (ascii y) ≡ true) × (about_both (ascii x) (ascii y) refused (λ s t. fitting (in_lines (early_lines s t)) room) ≡ a)
Computed (prints lines x y text) =
    (is_early (ascii x) && is_early (ascii y) ≡ true) × (about_both (ascii x) (ascii y) decimal (λ a b. joined (between lines) (early_lines a b)) ≡ ascii text)
Computed (longer x y c) = Says (longer x y c)

abbrev ComputedAll : List Row → Type 0
ComputedAll [] = Unit {0}
ComputedAll (r ∷ rs) = Computed r × ComputedAll rs

says : (r : Row) → Computed r → Says r
unfolding compared
says (writes x y before after) c = about_early (ascii x) (ascii y) (λ n. ascii before) (λ ls. fitted (in_lines ls) (ascii before)) c.0 ∙ c.1
says (answers x y room a) c = about_early (ascii x) (ascii y) refused (λ ls. fitting (in_lines ls) room) c.0 ∙ c.1
says (prints lines x y text) c = about_early (ascii x) (ascii y) decimal (joined (between lines)) c.0 ∙ c.1
says (longer x y z) c = c

say_all : (rs : List Row) → ComputedAll rs → SayAll rs
say_all [] c = tt
say_all (r ∷ rs) c = (says r c.0, say_all rs c.1)

computed : ComputedAll table
unfolding month_start days_in_month month_lengths is_leap_year read_text read_from by_reading fitted in_lines joined all_below early_lines month_lines line_at has_leap leap_mark is_expired expiry_lines relation_by between decimal digits_in below same_leaps chosen_of
computed = ((refl, refl), ((refl, refl), ((refl, refl), ((refl, refl), ((refl, refl), ((refl, refl), ((refl, refl), ((refl, refl), ((refl, refl), ((refl, refl), ((refl, refl), ((refl, refl), ((refl, refl), ((refl, refl), ((refl, refl), ((refl, refl), ((refl, refl), ((refl, refl), ((refl, refl), (refl, (refl, (refl, (refl, (refl, (refl, tt)))))))))))))))))))))))))

-- every row of the table holds of the definitions
pub worked : SayAll table
worked = say_all table computed
