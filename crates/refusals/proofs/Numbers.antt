-- The numbers of the refusals are the papers' own. Assumes nothing.
use mathlib.Core.Path.{◌≡◌, refl, sym, ap, ◌∙◌}
use Rattle.std.specs.Prelude.{cond, eqb}
use mathlib.Core.List.{List, [], ◌∷◌}
use Prim.Native.Nat.{ℕ}
use Rattle.refusals.specs.declared.Refusal.{Refusal}
use Rattle.refusals.specs.declared.Refusal.TheVariants.{EndsEarly, NotAllowed, BadGap, PastLastMonth, TooManyLeaps, AfterEnd, OutputShort, Before1972, NoInstant, NotKnown, NotWellFormed, Contradiction, NoGap, NoLine}
use Rattle.refusals.specs.Refusals.{number_of, ends_early, not_allowed, bad_gap, past_last_month, too_many_leaps, after_end, output_short, before1972, no_instant, not_known, not_well_formed, contradiction, no_gap, no_line}

-- every name, in the order of 01 and 02
abbrev pub names : List ℕ
names =
    ends_early ∷ not_allowed ∷ bad_gap ∷ past_last_month ∷ too_many_leaps ∷ after_end ∷ output_short ∷ before1972 ∷ no_instant ∷ not_known ∷ not_well_formed
    ∷ contradiction ∷ no_gap ∷ no_line ∷ []

-- each has its number
pub the_numbers : names ≡ 1 ∷ 2 ∷ 3 ∷ 4 ∷ 5 ∷ 6 ∷ 7 ∷ 8 ∷ 9 ∷ 10 ∷ 11 ∷ 16 ∷ 17 ∷ 20 ∷ []
the_numbers = refl

-- and so has each refusal of the code
pub their_numbers : number_of EndsEarly ∷ number_of NotAllowed ∷ number_of BadGap ∷ number_of PastLastMonth ∷ number_of TooManyLeaps ∷ number_of AfterEnd ∷ number_of OutputShort ∷ number_of Before1972
    ∷ number_of NoInstant ∷ number_of NotKnown ∷ number_of NotWellFormed ∷ number_of Contradiction ∷ number_of NoGap ∷ number_of NoLine ∷ []
    ≡ 1 ∷ 2 ∷ 3 ∷ 4 ∷ 5 ∷ 6 ∷ 7 ∷ 8 ∷ 9 ∷ 10 ∷ 11 ∷ 16 ∷ 17 ∷ 20 ∷ []
their_numbers = refl

-- the refusal of a number that has one
abbrev named : ℕ → Refusal
named n = cond (eqb n 1) EndsEarly (cond (eqb n 2) NotAllowed (cond (eqb n 3) BadGap (cond (eqb n 4) PastLastMonth (cond (eqb n 5) TooManyLeaps (cond (eqb n 6) AfterEnd (cond (eqb n 7) OutputShort (cond (eqb n 8) Before1972 (cond (eqb n 9) NoInstant (cond (eqb n 10) NotKnown (cond (eqb n 11) NotWellFormed (cond (eqb n 16) Contradiction (cond (eqb n 17) NoGap NoLine))))))))))))

named_back : (r : Refusal) → named (number_of r) ≡ r
named_back EndsEarly = refl
named_back NotAllowed = refl
named_back BadGap = refl
named_back PastLastMonth = refl
named_back TooManyLeaps = refl
named_back AfterEnd = refl
named_back OutputShort = refl
named_back Before1972 = refl
named_back NoInstant = refl
named_back NotKnown = refl
named_back NotWellFormed = refl
named_back Contradiction = refl
named_back NoGap = refl
named_back NoLine = refl

-- two refusals with one number are one: a number says which refusal it is
pub one_number : (r s : Refusal) → number_of r ≡ number_of s → r ≡ s
one_number r s e = sym (named_back r) ∙ ap named e ∙ named_back s
