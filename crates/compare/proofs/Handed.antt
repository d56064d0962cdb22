-- What a comparison writes, refused or not, and what is handed back of two texts. Assumes nothing.
use mathlib.Core.Path.{◌≡◌, refl, sym, ap, ◌∙◌}
use mathlib.Core.List.{List, [], ◌∷◌, ◌++◌}
use mathlib.Core.Bool.{Bool, true}
use mathlib.Core.Logic.{◌↔◌, ◌≢◌}
use Prim.Native.Nat.{ℕ, ◌≤◌, ◌<◌}
use native.Mathlib.Omega.{arith}
use lib.Dec.{leb}
use borrow.Author.Tests.{le-leb, lt-leb}
use lib.ListN.{length, drop}
use denote.Ref.{Bor}
use Rattle.refusals.specs.Answer.{Answer, given, refused, number}
use Rattle.schedule.specs.Answers.{fitting, fitted}
use Rattle.schedule.specs.Extends.{Extends, extends}
use Rattle.schedule.proofs.Cases.{by_bool}
use Rattle.schedule.proofs.Extension.{means, failed}
use Rattle.ascii.specs.Ascii.{ascii}
use Rattle.ascii.specs.Decimal.{decimal}
use Rattle.text.specs.Read.{read_text}
use Rattle.text.proofs.Sound.{accepted_well_formed}
use Rattle.text.proofs.Spelling.{no_other}
use Rattle.compare.specs.declared.longer.Chosen.{Chosen}
use Rattle.compare.specs.declared.longer.Chosen.TheVariants.{First, Second}
use Rattle.compare.specs.Longer.{chosen_of, chosen, HandsBack}
use Rattle.compare.specs.Compare.{relation, told, compared, comparing, compared_into, comparison_of}
use Rattle.compare.proofs.Bytes.{joined_bytes, compared_bytes}
use Rattle.compare.proofs.Meaning.{says_same}
use Rattle.compare.proofs.TwoTexts.{read_as, Taken, first_refused, second_refused, both_taken, by_texts}

-- ---- comparing

unfit : (bytes out : List ℕ) → number (fitting bytes (length out)) ≢ 0 → fitted bytes out ≡ out
unfolding fitted
unfit bytes out n = by_bool (leb (length bytes) (length out)) (λ t. absurd (n (rw t refl))) (λ f. rw f)

-- the number of a comparison: the first list's, then the second's, then 7 exactly where the output is shorter than the comparison, else 0
pub first_number : (x y : List ℕ) (room : ℕ) → (read_text x).number ≢ 0 → comparing x y room ≡ refused (read_text x).number
first_number x y room n = first_refused x y refused _ n

pub second_number : (x y : List ℕ) (room : ℕ) → Taken x → (read_text y).number ≢ 0 → comparing x y room ≡ refused (read_text y).number
second_number x y room t n = second_refused x y refused _ t n

pub enough_room : (x y : List ℕ) (room : ℕ) → Taken x → Taken y → length (compared (read_as x) (read_as y)) ≤ room
    → comparing x y room ≡ given (length (compared (read_as x) (read_as y)))
enough_room x y room t u h = both_taken x y refused _ t u ∙ rw (le-leb (length (compared (read_as x) (read_as y))) room h)

pub short_room : (x y : List ℕ) (room : ℕ) → Taken x → Taken y → room < length (compared (read_as x) (read_as y)) → comparing x y room ≡ refused 7
short_room x y room t u h = both_taken x y refused _ t u ∙ rw (lt-leb (length (compared (read_as x) (read_as y))) room h)

-- of a refusal the program prints the number in decimal
pub first_printed : (lines : Bool) (x y : List ℕ) → (read_text x).number ≢ 0 → comparison_of lines x y ≡ decimal (read_text x).number
first_printed lines x y n = first_refused x y decimal _ n

pub second_printed : (lines : Bool) (x y : List ℕ) → Taken x → (read_text y).number ≢ 0 → comparison_of lines x y ≡ decimal (read_text y).number
second_printed lines x y t n = second_refused x y decimal _ t n

-- and of two lists that are read all that is written but the last LF
pub both_printed : (x y : List ℕ) → Taken x → Taken y → comparison_of true x y ++ (10 ∷ []) ≡ compared (read_as x) (read_as y)
both_printed x y t u =
    ap (λ (bytes : List ℕ). bytes ++ (10 ∷ [])) (both_taken x y decimal _ t u ∙ joined_bytes true (read_as x) (read_as y)) ∙ sym (compared_bytes (read_as x) (read_as y))

-- two texts are the same list exactly where they are equal, since a list has one spelling
pub same_texts : (x y : List ℕ) → Taken x → Taken y → (told (relation (read_as x) (read_as y)) ≡ ascii "same") ↔ (x ≡ y)
same_texts x y t u =
    let s = says_same (read_as x) (read_as y) (accepted_well_formed x t) in
    (λ e. no_other x y t u (s.0 e), λ e. s.1 (ap read_as e))

-- a comparison that is refused, with whatever number, changes nothing of the output
pub refused_keeps : (x y out : List ℕ) → number (comparing x y (length out)) ≢ 0 → compared_into x y out ≡ out
refused_keeps x y out n =
    by_texts x y (λ k. first_refused x y _ _ k) (λ t k. second_refused x y _ _ t k)
    (λ t u. both_taken x y _ _ t u ∙ unfit (compared (read_as x) (read_as y)) out (λ z. n (ap number (both_taken x y refused _ t u) ∙ z)))

fit : (bytes out : List ℕ) → number (fitting bytes (length out)) ≡ 0 → (fitting bytes (length out) ≡ given (length bytes)) × (fitted bytes out ≡ bytes ++ drop (length bytes) out)
unfolding fitted
fit bytes out e =
    by_bool (leb (length bytes) (length out)) (λ t. (rw t refl, rw t)) (λ f. absurd (let z : 7 ≡ 0 = rw f at e in omega arith))

refused_not : (x : List ℕ) {n : ℕ} → (read_text x).number ≢ 0 → n ≡ (read_text x).number → n ≢ 0
refused_not x k e z = k (sym e ∙ z)

-- a comparison that is accepted is one of two lists that are read, has its own length as the count, and stands at the start of the output, beyond
-- which all stays
pub accepted_writes : (x y out : List ℕ) → number (comparing x y (length out)) ≡ 0
    → (Taken x × Taken y) × (comparing x y (length out) ≡ given (length (compared (read_as x) (read_as y)))) × (compared_into x y out ≡ compared (read_as x) (read_as y) ++ drop (length (compared (read_as x) (read_as y))) out)
accepted_writes x y out e =
    by_texts x y
    (λ k. absurd (refused_not x k (ap number (first_refused x y refused _ k)) e))
    (λ t k. absurd (refused_not y k (ap number (second_refused x y refused _ t k)) e))
    (λ t u.
    let both = both_taken x y refused _ t u in
    let f = fit (compared (read_as x) (read_as y)) out (sym (ap number both) ∙ e) in
    ((t, u), both ∙ f.0, both_taken x y _ _ t u ∙ f.1))

-- ---- handing back

-- what is chosen of two lists that are read
pub data Handed (x y : List ℕ) : Answer Chosen → Type 0 where
  the_first : Extends (read_as x) (read_as y) → Handed x y (given First)
  the_second : Extends (read_as y) (read_as x) → ¬ Extends (read_as x) (read_as y) → Handed x y (given Second)
  neither : ¬ Extends (read_as x) (read_as y) → ¬ Extends (read_as y) (read_as x) → Handed x y (refused 16)

chosen_by : (x y : List ℕ) → Handed x y (chosen_of (read_as x) (read_as y))
unfolding chosen_of
chosen_by x y =
    by_bool (extends (read_as x) (read_as y)) (λ t. rw t (the_first (means t)))
    (λ f.
    by_bool (extends (read_as y) (read_as x)) (λ t. rw (f, t) (the_second (means t) (failed f)))
    (λ g. rw (f, g) (neither (failed f) (failed g))))

-- of two lists that are read the first is chosen where it extends the second, else the second where it extends the first, else 16
pub chosen_extends : (x y : List ℕ) → Taken x → Taken y → Handed x y (chosen x y)
chosen_extends x y t u = rw (both_taken x y refused chosen_of t u) (chosen_by x y)

-- where one is chosen, both are read
pub both_read : (x y : List ℕ) → ((n : ℕ) → chosen x y ≢ refused n) → Taken x × Taken y
both_read x y k =
    by_texts x y (λ n. absurd (k (read_text x).number (first_refused x y refused chosen_of n)))
    (λ t n. absurd (k (read_text y).number (second_refused x y refused chosen_of t n)))
    (λ t u. (t, u))

-- what is handed back, in five cases: with 0 the first reference that was lent, where the first list extends the second; with 0 the second, where
-- only the second list extends the first; and the empty start of the first, with 16 where neither extends the other, or with the number of the list
-- that is not read, the first before the second
pub data HandedBack (a b r : Bor (List ℕ)) (n : ℕ) : Type 0 where
  first_back : Taken a.now → Taken b.now → n ≡ 0 → r ≡ a → Extends (read_as a.now) (read_as b.now) → HandedBack a b r n
  second_back : Taken a.now → Taken b.now → n ≡ 0 → r ≡ b → Extends (read_as b.now) (read_as a.now) → ¬ Extends (read_as a.now) (read_as b.now) → HandedBack a b r n
  contradicting : Taken a.now → Taken b.now → n ≡ 16 → r.ref_ptr ≡ a.ref_ptr → r.now ≡ [] → ¬ Extends (read_as a.now) (read_as b.now) → ¬ Extends (read_as b.now) (read_as a.now) → HandedBack a b r n
  first_not_read : (read_text a.now).number ≢ 0 → n ≡ (read_text a.now).number → r.ref_ptr ≡ a.ref_ptr → r.now ≡ [] → HandedBack a b r n
  second_not_read : Taken a.now → (read_text b.now).number ≢ 0 → n ≡ (read_text b.now).number → r.ref_ptr ≡ a.ref_ptr → r.now ≡ [] → HandedBack a b r n

module _ (a b r : Bor (List ℕ)) (n : ℕ) where
  by_choice : {c : Answer Chosen} → Taken a.now → Taken b.now → Handed a.now b.now c → HandsBack c a b r n → HandedBack a b r n
  by_choice t u (the_first x) h = first_back t u h.1 h.0 x
  by_choice t u (the_second x y) h = second_back t u h.1 h.0 x y
  by_choice t u (neither x y) h = contradicting t u h.2 h.0 h.1 x y

  -- what is handed back is one of these
  pub handed_back : HandsBack (chosen a.now b.now) a b r n → HandedBack a b r n
  handed_back h =
      by_texts a.now b.now
      (λ k. let g = rw (first_refused a.now b.now refused chosen_of k) at h in first_not_read k g.2 g.0 g.1)
      (λ t k. let g = rw (second_refused a.now b.now refused chosen_of t k) at h in second_not_read t k g.2 g.0 g.1)
      (λ t u. by_choice t u (chosen_extends a.now b.now t u) h)
