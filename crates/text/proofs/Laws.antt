-- Laws of `read_from` at a place of a list of bytes: what it is at the end, and what each kind of byte makes of it.
-- Assumes nothing.
use mathlib.Core.Path.{◌≡◌, subst, ◌∙◌}
use mathlib.Core.Logic.{⊎_elim}
use mathlib.Core.Bool.{true, false}
use mathlib.Core.List.{List, [], ◌∷◌}
use Prim.Native.Nat.{ℕ, ◌+◌, ◌*◌, ◌≤◌, ◌<◌, min}
use native.Mathlib.Numerals.{add-one}
use native.Mathlib.Omega.{arith}
use lib.ListN.{length, get_or, drop, set, drop_of_length-le}
use lib.Arith.{lt_of_le-ne}
use lib.Seq.{drop-cons}
use lib.Dec.{eqb}
use borrow.Author.Tests.{lt-ltb, le-ltb, le-leb, lt-leb, eq-eqb, ne_eqb}
use types.Run.{OneOf}
use denote.Enum.Declared.{tag_of}
use Rattle.std.specs.Prelude.{Result, Ok, Err, Some, None}
use Rattle.refusals.specs.Refusals.{number_of}
use Rattle.schedule.specs.declared.ParseError.{ParseError}
use Rattle.schedule.specs.Schedule.{Schedule}
use Rattle.text.specs.contracts.Gap as gap
use Rattle.text.specs.declared.Cursor.{Cursor}
use Rattle.text.specs.declared.Gap.{Gap}
use Rattle.text.specs.declared.Gap.TheVariants.{Months, Ended, Misplaced, Malformed}
use Rattle.text.specs.declared.Mark.{Mark}
use Rattle.text.specs.declared.Mark.TheVariants.{Leaps, Expires}
use Rattle.schedule.specs.declared.Sign.{Sign}
use Rattle.schedule.specs.WordLayout.{word_of_sign}
use Rattle.calendar.specs.Calendar.{month_start}
use Rattle.calendar.proofs.Laws.{start_min}
use Rattle.schedule.specs.Private.{SoFar}
use Rattle.schedule.specs.Answers.{Reading, refusal, accepted, with_leap, ReadsInto}
use Rattle.schedule.proofs.SoFar.{so_far_leap, so_far_end}
use Rattle.text.specs.Bytes.{is_digit, digit_of, mark_of}
use Rattle.text.specs.Read.{stopped, may_follow, read_from}
use Rattle.text.specs.Private.{Ends, Due, Scanned}

module _ (bytes : List ℕ) (p : ℕ) where
  pub uncons : p < length bytes → drop p bytes ≡ get_or bytes p 0 ∷ drop (p + 1) bytes
  uncons h = rw (add-one, drop-cons bytes p 0)

module _ (bytes : List ℕ) (g p t : ℕ) (s : Schedule) where
  -- the input ends
  pub ends : length bytes ≤ p → read_from g p t s (drop p bytes) ≡ refusal 1 p
  unfolding read_from
  ends h = rw (drop_of_length-le bytes h)

  -- one digit more
  pub more : p < length bytes → is_digit (get_or bytes p 0) ≡ true → may_follow g (get_or bytes p 0) ≡ true
      → read_from g p t s (drop p bytes) ≡ read_from (g * 10 + digit_of (get_or bytes p 0)) (p + 1) t s (drop (p + 1) bytes)
  unfolding read_from
  more h d f = rw (uncons bytes p h) (simp (d, f))

  -- a leading zero or a fourth digit
  pub malformed : p < length bytes → is_digit (get_or bytes p 0) ≡ true → may_follow g (get_or bytes p 0) ≡ false
      → read_from g p t s (drop p bytes) ≡ refusal 3 p
  unfolding read_from
  malformed h d f = rw (uncons bytes p h) (simp (d, f))

  -- no gap where one is due
  pub misplaced : g ≡ 0 → p < length bytes → is_digit (get_or bytes p 0) ≡ false → read_from g p t s (drop p bytes) ≡ refusal 2 p
  unfolding read_from
  misplaced z h d = rw (uncons bytes p h) (simp (d, eq-eqb g 0 z))

  -- a byte where a mark is due
  module _ (due : Due bytes p g) (left : p ≡ length bytes → ⊥) where
    h : p < length bytes
    h = lt_of_le-ne due.inside left

    nonzero : eqb g 0 ≡ false
    nonzero = ne_eqb g 0 (λ e. omega (arith, due.some))

    pub unmarked : mark_of (get_or bytes p 0) ≡ None → read_from g p t s (drop p bytes) ≡ refusal 2 p
    unfolding read_from
    unmarked m = rw (uncons bytes p h) (simp (due.no_digit h, nonzero, m))

    -- a mark past month 2400
    pub late : (m : Mark) → mark_of (get_or bytes p 0) ≡ Some m → 2400 < t + g → read_from g p t s (drop p bytes) ≡ refusal 4 p
    unfolding read_from
    late Expires m l = rw (uncons bytes p h) (simp (due.no_digit h, nonzero, m, lt-leb (t + g) 2400 l))
    late (Leaps k) m l = rw (uncons bytes p h) (simp (due.no_digit h, nonzero, m, lt-leb (t + g) 2400 l))

    pub follows : mark_of (get_or bytes p 0) ≡ Some Expires → t + g ≤ 2400 → p + 1 < length bytes → read_from g p t s (drop p bytes) ≡ refusal 6 (p + 1)
    unfolding read_from
    follows m l n = rw (uncons bytes p h) (simp (due.no_digit h, nonzero, m, le-leb (t + g) 2400 l, uncons bytes (p + 1) n))

    expires : mark_of (get_or bytes p 0) ≡ Some Expires → t + g ≤ 2400 → length bytes ≤ p + 1 → read_from g p t s (drop p bytes) ≡ accepted s (month_start (t + g))
    unfolding read_from
    expires m l n = rw (uncons bytes p h) (simp (due.no_digit h, nonzero, m, le-leb (t + g) 2400 l, drop_of_length-le bytes n))

    -- a list that is taken stands in the words
    pub takes : mark_of (get_or bytes p 0) ≡ Some Expires → t + g ≤ 2400 → length bytes ≤ p + 1
        → (n : ℕ) (words : List ℕ) → SoFar s n words → (e : ℕ) → e ≡ month_start (min (t + g) 2400)
        → Ends (read_from g p t s (drop p bytes)) (Ok tt) (set (set words 512 n) 513 e)
    takes m l f n words kept e is = rw (expires m l f, is ∙ start_min l) (so_far_end s n words kept (month_start (t + g)))

    module _ (k : Sign) (m : mark_of (get_or bytes p 0) ≡ Some (Leaps k)) where
      pub leap_full : t + g ≤ 2400 → 256 ≤ length s.leaps → read_from g p t s (drop p bytes) ≡ refusal 5 p
      unfolding read_from
      leap_full l f = rw (uncons bytes p h) (simp (due.no_digit h, nonzero, m, le-leb (t + g) 2400 l, le-ltb (length s.leaps) 256 f))

      leaps : t + g ≤ 2400 → length s.leaps < 256 → read_from g p t s (drop p bytes) ≡ read_from 0 (p + 1) (t + g) (with_leap s (t + g) k) (drop (p + 1) bytes)
      unfolding read_from
      leaps l f = rw (uncons bytes p h) (simp (due.no_digit h, nonzero, m, le-leb (t + g) 2400 l, lt-ltb (length s.leaps) 256 f))

      -- a leap is stored in its place, and the reading goes on
      pub keeps : t + g ≤ 2400 → (n : ℕ) (words : List ℕ) → n < 256 → SoFar s n words → (w : ℕ) → w ≡ word_of_sign k → (r : Result (Unit {0}) ParseError) (words' : List ℕ)
          → ((s' : Schedule) → SoFar s' (n + 1) (set (set words (2 * n) (t + g)) (2 * n + 1) w) → Ends (read_from 0 (p + 1) (t + g) s' (drop (p + 1) bytes)) r words')
          → Ends (read_from g p t s (drop p bytes)) r words'
      keeps l n words f kept w e r words' on =
          rw (leaps l (omega (arith, kept.its_count))) (on (with_leap s (t + g) k) (so_far_leap s n words kept f (t + g) k w e))

-- what `scan_gap` found, where it is a gap
pub found : (bytes : List ℕ) (p : ℕ) (r : Gap) (g : ℕ) (c : Cursor) → r ≡ Months g c → Scanned bytes p r → Scanned bytes p (Months g c)
found bytes p r g c e h = subst (λ (x : Gap). Scanned bytes p x) e h

-- what `scan_gap` found, where it is no gap: the tag is not that of `Months`
pub stops : (bytes : List ℕ) (p : ℕ) (r : Gap) → OneOf (1 ∷ 2 ∷ 3 ∷ []) (tag_of gap.the_type r) → Scanned bytes p r
    → (t : ℕ) (s : Schedule) (words : List ℕ) → Ends (read_from 0 p t s (drop p bytes)) (stopped r) words
stops bytes p (Months g c) k h t s words = absurd (⊎_elim (λ e. omega arith) (λ l. ⊎_elim (λ e. omega arith) (λ e. omega arith) l) k)
stops bytes p (Ended c) k h t s words = h t s
stops bytes p (Misplaced c) k h t s words = h t s
stops bytes p (Malformed c) k h t s words = h t s

-- a reading by how it ended
module _ (reading : Reading) (words : List ℕ) where
  pub was_taken : {r : Result (Unit {0}) ParseError} {v : Unit {0}} → r ≡ Ok v → Ends reading r words → ReadsInto reading (Ok tt) words
  was_taken q h = subst (λ (x : Result (Unit {0}) ParseError). Ends reading x words) q h

  pub was_refused : {r : Result (Unit {0}) ParseError} {e : ParseError} → r ≡ Err e → Ends reading r words → {out : List ℕ} {r' : Result (Unit {0}) ParseError}
      → ReadsInto (refusal (number_of e.refusal) e.place) r' out → ReadsInto reading r' out
  was_refused {e} q h into =
      let is : reading ≡ refusal (number_of e.refusal) e.place = subst (λ (x : Result (Unit {0}) ParseError). Ends reading x words) q h in
      rw is into
