-- The loops that answer many questions: what they keep from turn to turn, and what the calls then hand over.
-- Assumes nothing.
use mathlib.Core.Bool.{Bool, true, false}
use mathlib.Core.List.{List, map, zip_with}
use mathlib.Core.Path.{◌≡◌, refl, sym, ◌∙◌}
use Rattle.std.proofs.Common.{Result}
use Prim.Native.Nat.{ℕ, ◌+◌, ◌≤◌, ◌<◌, min}
use native.Mathlib.Omega.{arith}
use lib.ListN.{length, get_or, take, set, length-map, length-set}
use Rattle.schedule.specs.Schedule.{Schedule, well_formed}
use Rattle.schedule.specs.WordLayout.{meant}
use Rattle.refusals.specs.declared.Refusal.{Refusal}
use Rattle.refusals.specs.Answer.{Answer, given, refused, require, answer_of, answer_by, number, or_zero}
use Rattle.refusals.specs.Refusals.{not_well_formed}
use Rattle.refusals.proofs.Checks.{stop, required, given_is}
use Rattle.clock.specs.Question.{Utc, tai_to_utc}
use Rattle.clock.specs.declared.UtcInstant.{UtcInstant}
use Rattle.clock.specs.Answers.{instant}
use Rattle.many.specs.Private.{At, Asks, Overwritten}
use Rattle.many.specs.Asked.{AsksMany}
use Rattle.many.specs.declared.prepared.PreparedList.{PreparedList}
use Rattle.many.specs.Many.{day_or_zero, micros_or_zero, HandsMany, HandsManyUtc}
use Rattle.many.proofs.Overwriting.{none_written, part_written, at_one, at_two, zip_length}

-- ---- a loop that answers the first n questions, at question i: what it put in one array, a part of each answer

pub record Filled {A B R : Type 0} (part : A → B) (n : ℕ) (returns : ℕ → R → Type 0) (says : R → A) (old array : List B) (i : ℕ) : Type 0 where
  pub size : length array ≡ length old
  pub each : (answers : List A) → Asks n returns says answers → Overwritten (map part (take i answers)) old array

module _ {A B R : Type 0} {part : A → B} {n : ℕ} {returns : ℕ → R → Type 0} {says : R → A} {old : List B} where
  pub filled_none : Filled part n returns says old old 0
  filled_none = record { size = refl; each = λ answers a. none_written old }

  module _ {array : List B} {i : ℕ} (f : Filled part n returns says old array i) where
    pub filled_one : i < n → n ≤ length old → (r : R) → returns i r → (v : B) → v ≡ part (says r) → Filled part n returns says old (set array i v) (i + 1)
    filled_one h l r q v e =
        record { size = length-set array i v ∙ f.size; each = λ answers a. part_written part (a.each i r h q) (f.each answers a) (omega arith) v e }

    pub filled_all : i ≡ n → (answers : List A) → Asks n returns says answers → Overwritten (map part (take n answers)) old array
    filled_all e answers a = rw e at (f.each answers a)

-- the answers at question i
module _ {A : Type 0} where
  pub each_one : (ask : Schedule → ℕ → A) (xs : List ℕ) (i : ℕ) → i < length xs → (s : Schedule) → At (map (ask s) xs) i (ask s (get_or xs i 0))
  each_one ask xs i h s = at_one (ask s) xs i h

  pub each_two : (ask : Schedule → ℕ → ℕ → A) (xs ys : List ℕ) (i : ℕ) → i < length xs → i < length ys → (s : Schedule) → At (zip_with (ask s) xs ys) i (ask s (get_or xs i 0) (get_or ys i 0))
  each_two ask xs ys i h l s = at_two (ask s) xs ys i h l

-- ---- what is asked of a prepared list and, under words that are no list, of none

module _ {A : Type 0} {n numbers values : ℕ} {returns : PreparedList → ℕ → Result A Refusal → Type 0} where
  pub asks_one : (ask : Schedule → ℕ → Answer A) (xs : List ℕ) → ((s : Schedule) → well_formed s ≡ false → (x : ℕ) → ask s x ≡ refused not_well_formed)
      → n ≡ min (length xs) (min numbers values) → ((list : PreparedList) (i : ℕ) (r : Result A Refusal) → i < n → returns list i r → answer_of r ≡ ask (meant list.list.words.now) (get_or xs i 0))
      → AsksMany n returns (λ s. map (ask s) xs) numbers values
  asks_one ask xs none e f =
      record {
        its_count = λ s. rw (length-map xs (ask s)) e;
        given = λ list. record { each = λ i r h q. rw (f list i r h q) (each_one ask xs i (omega arith) (meant list.list.words.now)) };
        none = λ s w i h. rw (← none s w (get_or xs i 0)) (each_one ask xs i (omega arith) s);
      }

  pub asks_two : (ask : Schedule → ℕ → ℕ → Answer A) (xs ys : List ℕ) → ((s : Schedule) → well_formed s ≡ false → (x y : ℕ) → ask s x y ≡ refused not_well_formed)
      → n ≡ min (min (length xs) (length ys)) (min numbers values)
      → ((list : PreparedList) (i : ℕ) (r : Result A Refusal) → i < n → returns list i r → answer_of r ≡ ask (meant list.list.words.now) (get_or xs i 0) (get_or ys i 0))
      → AsksMany n returns (λ s. zip_with (ask s) xs ys) numbers values
  asks_two ask xs ys none e f =
      record {
        its_count = λ s. rw (zip_length (ask s) xs ys) e;
        given = λ list. record { each = λ i r h q. rw (f list i r h q) (each_two ask xs ys i (omega arith) (omega arith) (meant list.list.words.now)) };
        none = λ s w i h. rw (← none s w (get_or xs i 0) (get_or ys i 0)) (each_two ask xs ys i (omega arith) (omega arith) s);
      }

-- what is then handed over
pub hands_many : {A : Type 0} {none : A} {answers : List (Answer A)} {n : ℕ} {numbers numbers' : List ℕ} {values values' : List A}
    → n ≡ min (length answers) (min (length numbers) (length values))
    → Overwritten (map number (take n answers)) numbers numbers' × Overwritten (map (or_zero none) (take n answers)) values values'
    → HandsMany none answers numbers values n numbers' values'
hands_many e p = record { its_count = e; its_numbers = p.0.is; its_values = p.1.is }

pub hands_utcs : {answers : List (Answer Utc)} {n : ℕ} {numbers numbers' days days' micros micros' : List ℕ}
    → n ≡ min (length answers) (min (length numbers) (min (length days) (length micros)))
    → Overwritten (map number (take n answers)) numbers numbers' × Overwritten (map day_or_zero (take n answers)) days days' × Overwritten (map micros_or_zero (take n answers)) micros micros'
    → HandsManyUtc answers numbers days micros n numbers' days' micros'
hands_utcs e p = record { its_count = e; its_numbers = p.0.is; its_days = p.1.is; its_micros = p.2.is }

-- the list that was made of words, and prepared, has those words; and where none was made, they are those of no well-formed schedule
pub same_list : {A R : Type 0} {n : ℕ} {returns : ℕ → R → Type 0} {says : R → A} (answers : Schedule → List A) (prepared made words : List ℕ)
    → prepared ≡ made → given made ≡ require (well_formed (meant words)) not_well_formed (given words)
    → Asks n returns says (answers (meant prepared)) → Asks n returns says (answers (meant words))
same_list answers prepared made words p e a = rw (p ∙ sym (given_is (required (well_formed (meant words)) not_well_formed (sym e)).1)) at a

pub no_list : {A : Type 0} (v : A) (b : Bool) (n m : ℕ) → ◌≡◌ {A = Answer A} (refused n) (require b m (given v)) → (b ≡ false) × (n ≡ m)
no_list v true n m e = absurd (let z : ◌≡◌ {A = ℕ} 0 1 = cc in omega arith)
no_list v false n m e = (refl, cc)

-- TAI to UTC, for each TAI
module _ (tais : List ℕ) {n : ℕ} {returns : ℕ → Result UtcInstant Refusal → Type 0} (h : n ≤ length tais) where
  pub asks_utc : (s : Schedule) → ((i : ℕ) (r : Result UtcInstant Refusal) → i < n → returns i r → answer_by instant r ≡ tai_to_utc s (get_or tais i 0))
      → Asks n returns (λ r. answer_by instant r) (map (tai_to_utc s) tais)
  asks_utc s f = record { each = λ i r l q. rw (f i r l q) (each_one tai_to_utc tais i (omega arith) s) }

  pub refuses_utc : (s : Schedule) → well_formed s ≡ false → ((i : ℕ) (r : Result UtcInstant Refusal) → i < n → returns i r → answer_by instant r ≡ refused not_well_formed)
      → Asks n returns (λ r. answer_by instant r) (map (tai_to_utc s) tais)
  refuses_utc s w f = asks_utc s (λ i r l q. f i r l q ∙ sym (stop _ not_well_formed w))
