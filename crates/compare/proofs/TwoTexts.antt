-- What two texts answer that are read, or of which one is refused.
-- Assumes nothing.
use Rattle.std.proofs.Common.{◌≡◌, ℕ, true, eqb, List, length, Ok, Err, sym, ap, ◌∙◌, eqb-true}
use mathlib.Core.Logic.{◌≢◌}
use borrow.Author.Tests.{eqb-false}
use Rattle.refusals.specs.Answer.{given, refused}
use Rattle.refusals.proofs.Checks.{given_is}
use Rattle.schedule.specs.Schedule.{Schedule, well_formed}
use Rattle.refusals.specs.Refusals.{number_of}
use Rattle.schedule.specs.declared.ParseError.{ParseError}
use Rattle.schedule.specs.WordLayout.{meant}
use Rattle.schedule.specs.Answers.{Reading, ReadsInto, by_reading, fitting, fitted}
use Rattle.schedule.proofs.Cases.{by_bool}
use Rattle.schedule.proofs.Extension.{extends_itself, tests}
use Rattle.schedule.proofs.ByReading.{by_refused, by_taken, read_well, read_refused, read_taken}
use Rattle.text.specs.Read.{read_text}
use Rattle.text.proofs.Sound.{read_formed, accepted_well_formed}
use Rattle.compare.specs.declared.longer.Chosen.TheVariants.{First}
use Rattle.compare.specs.Longer.{chosen_of, about_both, chosen}
use Rattle.compare.specs.Compare.{compared, comparing, compared_into}
use Rattle.compare.specs.Private.{text_read, texts_read}

-- the list that a text is read as
abbrev pub read_as : List ℕ → Schedule
read_as x = (read_text x).schedule

-- a text that is read
abbrev pub Taken : List ℕ → Type 0
Taken x = (read_text x).number ≡ 0

module _ {A : Type 0} (x y : List ℕ) (refuse : ℕ → A) (f : Schedule → Schedule → A) where
  -- the first list's refusal, then the second's, the number alone
  pub first_refused : (read_text x).number ≢ 0 → about_both x y refuse f ≡ refuse (read_text x).number
  first_refused n = by_refused (read_text x) _ _ n

  pub second_refused : Taken x → (read_text y).number ≢ 0 → about_both x y refuse f ≡ refuse (read_text y).number
  second_refused t n = by_taken (read_text x) _ _ t ∙ by_refused (read_text y) _ _ n

  -- or an answer about both
  pub both_taken : Taken x → Taken y → about_both x y refuse f ≡ f (read_as x) (read_as y)
  both_taken t u = by_taken (read_text x) _ _ t ∙ by_taken (read_text y) _ _ u

-- of a list and itself the first is chosen
pub same_taken : (x : List ℕ) → Taken x → chosen x x ≡ given First
unfolding chosen_of
same_taken x t = both_taken x x refused chosen_of t t ∙ rw (tests (extends_itself (read_as x) (accepted_well_formed x t)))

-- one of two texts is refused, or both are read
pub by_texts : {A : Type 0} (x y : List ℕ) → ((read_text x).number ≢ 0 → A) → (Taken x → (read_text y).number ≢ 0 → A) → (Taken x → Taken y → A) → A
by_texts x y f g h =
    by_bool (eqb (read_text x).number 0)
    (λ t.
    let p = eqb-true (read_text x).number 0 t in
    by_bool (eqb (read_text y).number 0) (λ u. h p (eqb-true (read_text y).number 0 u)) (λ u. g p (eqb-false (read_text y).number 0 u)))
    (λ t. f (eqb-false (read_text x).number 0 t))

-- ---- as the code reads them

-- a text is refused, or it is read as the list that the words mean
module _ (x : List ℕ) {words : List ℕ} where
  pub text_refused : {e : ParseError} → ReadsInto (read_text x) (Err e) words → refused (number_of e.refusal) ≡ text_read x
  text_refused h = sym (read_refused (read_formed x) (λ n place. refused n) given h)

  pub text_taken : ReadsInto (read_text x) (Ok tt) words → given (meant words) ≡ text_read x
  text_taken h = sym (read_taken (read_formed x) (λ n place. refused n) given h)

  pub text_well : ReadsInto (read_text x) (Ok tt) words → well_formed (meant words) ≡ true
  text_well h = read_well (read_formed x) h

-- what reading answers decides each answer about what is read
module _ {A : Type 0} (r : Reading) (refuse : ℕ → A) (f : Schedule → A) where
  one_refused : {n : ℕ} → refused n ≡ by_reading r (λ k p. refused k) given → by_reading r (λ k p. refuse k) f ≡ refuse n
  unfolding by_reading
  one_refused e =
      by_bool (eqb r.number 0) (λ t. absurd (let z = simp t at e in cc)) (λ u. rw u (ap refuse (let z = simp u at e in cc)))

  one_taken : {s : Schedule} → given s ≡ by_reading r (λ k p. refused k) given → by_reading r (λ k p. refuse k) f ≡ f s
  unfolding by_reading
  one_taken e = by_bool (eqb r.number 0) (λ t. rw t (ap f (let z = simp t at e in cc))) (λ u. absurd (let z = simp u at e in cc))

-- a text is refused and so an answer about it and itself, or it is read
pub alone_refused : (x : List ℕ) {n : ℕ} → refused n ≡ text_read x → refused n ≡ chosen x x
alone_refused x e = sym (one_refused (read_text x) refused _ e)

pub alone_taken : (x : List ℕ) {s : Schedule} → given s ≡ text_read x → given First ≡ chosen x x
alone_taken x e = sym (same_taken x (by_bool (eqb (read_text x).number 0) (λ t. eqb-true (read_text x).number 0 t) (λ u. absurd (let z = e ∙ by_refused (read_text x) _ _ (eqb-false (read_text x).number 0 u) in cc))))

module _ (x y : List ℕ) where
  -- the first text is refused, or the second
  pub first_stops : {n : ℕ} → refused n ≡ text_read x → refused n ≡ texts_read x y
  first_stops e = sym (one_refused (read_text x) refused _ e)

  pub second_stops : {s : Schedule} {n : ℕ} → given s ≡ text_read x → refused n ≡ text_read y → refused n ≡ texts_read x y
  second_stops e g = sym (one_taken (read_text x) refused _ e ∙ one_refused (read_text y) refused _ g)

  -- or both are read
  pub both_stand : {s t : Schedule} → given s ≡ text_read x → given t ≡ text_read y → given (s, t) ≡ texts_read x y
  both_stand e g = sym (one_taken (read_text x) refused _ e ∙ one_taken (read_text y) refused _ g)

  module _ {A : Type 0} (refuse : ℕ → A) (f : Schedule → Schedule → A) where
    -- an answer about them is the refusal
    pub not_read : {n : ℕ} → refused n ≡ texts_read x y → about_both x y refuse f ≡ refuse n
    not_read e =
        by_texts x y
        (λ k. first_refused x y refuse f k ∙ ap refuse (let z = e ∙ first_refused x y refused _ k in cc))
        (λ t k. second_refused x y refuse f t k ∙ ap refuse (let z = e ∙ second_refused x y refused _ t k in cc))
        (λ t u. absurd (let z = e ∙ both_taken x y refused _ t u in cc))

    -- or one about the lists that they are read as
    pub read : {s t : Schedule} → given (s, t) ≡ texts_read x y → about_both x y refuse f ≡ f s t
    read e =
        by_texts x y
        (λ k. absurd (let z = e ∙ first_refused x y refused _ k in cc))
        (λ t k. absurd (let z = e ∙ second_refused x y refused _ t k in cc))
        (λ t u. both_taken x y refuse f t u ∙ ap (λ (p : Schedule × Schedule). f p.0 p.1) (sym (given_is (e ∙ both_taken x y refused _ t u))))

  -- so the longer is chosen of them, or the refusal
  pub none_chosen : {n : ℕ} → refused n ≡ texts_read x y → refused n ≡ chosen x y
  none_chosen e = sym (not_read refused chosen_of e)

  pub one_chosen : {s t : Schedule} → given (s, t) ≡ texts_read x y → chosen_of s t ≡ chosen x y
  one_chosen e = sym (read refused chosen_of e)

  -- and they are compared, or the refusal changes nothing
  module _ (out : List ℕ) where
    pub not_compared : {n : ℕ} → refused n ≡ texts_read x y → (refused n ≡ comparing x y (length out)) × (out ≡ compared_into x y out)
    not_compared e = (sym (not_read refused _ e), sym (not_read _ _ e))

    pub both_compared : {s t : Schedule} → given (s, t) ≡ texts_read x y → (fitting (compared s t) (length out) ≡ comparing x y (length out)) × (fitted (compared s t) out ≡ compared_into x y out)
    both_compared e = (sym (read refused _ e), sym (read _ _ e))
