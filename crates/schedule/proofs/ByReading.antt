-- An answer about a list that was read, by what a reader's result says of it: its refusal, or the words that it fills.
-- Assumes nothing.
use Rattle.std.proofs.Common.{◌≡◌, ℕ, ◌<◌, true, List, Result, Ok, Err, sym, ap, ◌∙◌, arith, eq-eqb, ne_eqb}
use Rattle.refusals.specs.declared.Refusal.{Refusal}
use Rattle.refusals.specs.declared.Refusal.TheVariants.{EndsEarly, NotAllowed, BadGap, PastLastMonth, TooManyLeaps, AfterEnd, OutputShort, Before1972, NoInstant, NotKnown, NotWellFormed, Contradiction, NoGap, NoLine}
use Rattle.refusals.specs.Refusals.{number_of}
use Rattle.schedule.specs.declared.ParseError.{ParseError}
use Rattle.schedule.specs.Schedule.{Schedule, leaves_gap, well_formed}
use Rattle.schedule.specs.WordLayout.{meant}
use Rattle.schedule.specs.Answers.{Reading, HandsReading, ReadsInto, number_in, place_in, by_reading}
use Rattle.schedule.proofs.Sound.{Formed}
use Rattle.schedule.proofs.Rounded.{first_leaves_gap}
use Rattle.schedule.proofs.Meant.{hands_meant}

-- no refusal has number 0
pub has_number : (r : Refusal) → 0 < number_of r
has_number EndsEarly = omega arith
has_number NotAllowed = omega arith
has_number BadGap = omega arith
has_number PastLastMonth = omega arith
has_number TooManyLeaps = omega arith
has_number AfterEnd = omega arith
has_number OutputShort = omega arith
has_number Before1972 = omega arith
has_number NoInstant = omega arith
has_number NotKnown = omega arith
has_number NotWellFormed = omega arith
has_number Contradiction = omega arith
has_number NoGap = omega arith
has_number NoLine = omega arith

-- by the reading itself
module _ {A : Type 0} (r : Reading) (refuse : ℕ → ℕ → A) (f : Schedule → A) where
  pub by_refused : (r.number ≡ 0 → ⊥) → by_reading r refuse f ≡ refuse r.number r.place
  unfolding by_reading
  by_refused h = simp (ne_eqb r.number 0 h)

  pub by_taken : r.number ≡ 0 → by_reading r refuse f ≡ f r.schedule
  unfolding by_reading
  by_taken h = simp (eq-eqb r.number 0 h)

-- a reader's result hands the reading over: its number and its place, 0 and 0 where the list was read
pub hands : {r : Reading} {result : Result (Unit {0}) ParseError} {words : List ℕ} → ReadsInto r result words → HandsReading r (number_in result) words (place_in result)
hands h = record { its_number = h.its_number; its_words = h.its_words; its_place = h.its_place }

module _ {r : Reading} (good : Formed r) {words : List ℕ} where
  -- the words that a reader fills mean what was read
  pub read_meant : {result : Result (Unit {0}) ParseError} → ReadsInto r result words → meant words ≡ r.schedule
  read_meant {result} h = hands_meant r good (number_in result) (place_in result) words (hands h)

  -- a list that is read is well formed, and every writer takes it
  pub read_well : ReadsInto r (Ok tt) words → well_formed (meant words) ≡ true
  read_well h = ap well_formed (read_meant h) ∙ good.formed (sym h.its_number)

  pub read_leaves_gap : ReadsInto r (Ok tt) words → leaves_gap (meant words) ≡ true
  read_leaves_gap h = ap leaves_gap (read_meant h) ∙ first_leaves_gap r.schedule (good.formed (sym h.its_number)) (good.first (sym h.its_number))

  module _ {A : Type 0} (refuse : ℕ → ℕ → A) (f : Schedule → A) where
    -- the refusal of one that is not read
    pub read_refused : {e : ParseError} → ReadsInto r (Err e) words → by_reading r refuse f ≡ refuse (number_of e.refusal) e.place
    read_refused {e} h = rw (h.its_number, h.its_place) (by_refused r refuse f (λ z. absurd (omega (arith, h.its_number, has_number e.refusal))))

    -- the answer about one that is
    pub read_taken : ReadsInto r (Ok tt) words → by_reading r refuse f ≡ f (meant words)
    read_taken h = by_taken r refuse f (sym h.its_number) ∙ ap f (sym (read_meant h))
