-- What a code makes of the state and of the reading, and what holds in the reader's loop.
-- Assumes nothing.
use mathlib.Core.Path.{◌≡◌, refl, sym, ap, ◌∙◌}
use mathlib.Core.Bool.{true, false}
use mathlib.Core.List.{List}
use Prim.Native.Nat.{ℕ, ◌+◌, ◌*◌, ◌≤◌, ◌<◌, min}
use native.Mathlib.Omega.{arith}
use lib.ListN.{length, drop, set, replicate, drop_of_length-le}
use lib.Dec.{leb}
use borrow.Author.Tests.{ltb-true, lt-ltb, le-ltb, leb-true, eq-eqb, ne_eqb}
use Rattle.std.specs.Prelude.{Result, Ok}
use Rattle.refusals.specs.declared.Refusal.{Refusal}
use Rattle.refusals.specs.Refusals.{number_of}
use Rattle.refusals.specs.Answer as answer
use Rattle.schedule.specs.declared.Sign.{Sign}
use Rattle.schedule.specs.Schedule.{Schedule, blank_schedule}
use Rattle.schedule.specs.WordLayout.{word_of_sign}
use Rattle.schedule.specs.Private.{SoFar}
use Rattle.calendar.specs.Calendar.{month_start}
use Rattle.calendar.proofs.Laws.{start_min}
use Rattle.schedule.specs.declared.ParseError.{ParseError}
use Rattle.schedule.specs.Answers.{Reading, refusal, accepted, ReadsInto}
use Rattle.schedule.proofs.ByReading.{has_number}
use Rattle.schedule.proofs.Cases.{by_bool}
use Rattle.schedule.proofs.SoFar.{so_far_blank, so_far_leap, so_far_end}
use Rattle.nybbles.specs.declared.code.Mark.{Mark}
use Rattle.nybbles.specs.declared.code.Mark.TheVariants.{Continues, Leaps, Expires}
use Rattle.nybbles.specs.declared.code.Code.{Code}
use Rattle.nybbles.specs.declared.progress.Progress.{Progress}
use Rattle.nybbles.specs.Codes.{nybbles, codes_of}
use Rattle.nybbles.specs.Read.{State, is_expiry, has_room, checks, fault, marked, after, at_end, read_codes, read_nybbles}
use Rattle.nybbles.specs.Private.{state_of, Passes, Moves, Next}

-- a code that has no fault
pub passes : (st : State) (c : Code) → fault st c ≡ 0 → Passes st.gap st.total (length st.schedule.leaps) c
unfolding fault
passes st c e =
    by_bool (leb (st.gap + c.months) 999)
    (λ a. by_bool (leb (st.total + c.months) 2400)
    (λ b. by_bool (has_room c.mark (length st.schedule.leaps))
    (λ d. record { gap_is_within = leb-true _ _ a; total_fits = leb-true _ _ b; room = d })
    (λ d. absurd (omega (arith, simp (a, b, d) at e))))
    (λ b. absurd (omega (arith, simp (a, b) at e))))
    (λ a. absurd (omega (arith, simp a at e)))

-- a leap that passes has a place
pub leap_room : (m : Mark) (n : ℕ) (k : Sign) → m ≡ Leaps k → has_room m n ≡ true → n < 256
leap_room m n k e h = ltb-true n 256 (rw e at h)

-- one leap more, stored in its place
pub leap_after : (p : Progress) (c : Code) (words : List ℕ) (k : Sign) (w : ℕ) → c.mark ≡ Leaps k → p.count < 256 → w ≡ word_of_sign k
    → (s : Schedule) → SoFar s p.count words
    → Moves p (record { gap = 0; total = p.total + c.months; count = p.count + 1 }) (set (set words (2 * p.count) (p.total + c.months)) (2 * p.count + 1) w) s c
unfolding after
leap_after p c words k w m h e s kept =
    record { state = rw m; kept = rw m (so_far_leap s p.count words kept h (p.total + c.months) k w e) }

-- the months after a code
marked_total : (m : Mark) (g t : ℕ) (s : Schedule) → (marked m g t s).total ≡ t
marked_total Continues g t s = refl
marked_total (Leaps k) g t s = refl
marked_total Expires g t s = refl

marked_gap : (m : Mark) (g t : ℕ) (s : Schedule) → (marked m g t s).gap ≤ g
marked_gap Continues g t s = omega arith
marked_gap (Leaps k) g t s = omega arith
marked_gap Expires g t s = omega arith

pub after_total : (st : State) (c : Code) → (after st c).total ≡ st.total + c.months
unfolding after
after_total st c = marked_total c.mark _ _ _

after_gap : (st : State) (c : Code) → (after st c).gap ≤ st.gap + c.months
unfolding after
after_gap st c = marked_gap c.mark _ _ _

not_expiry : (m : Mark) → (m ≡ Expires → ⊥) → is_expiry m ≡ false
not_expiry Continues h = refl
not_expiry (Leaps k) h = refl
not_expiry Expires h = absurd (h refl)

-- the reading from a place where a code starts
abbrev reading : List ℕ → ℕ → State → Reading
reading bytes at st = read_codes (length (nybbles bytes)) at st (codes_of (drop at (nybbles bytes)))

ended : (bytes : List ℕ) (at : ℕ) (st : State) → length (nybbles bytes) ≤ at → reading bytes at st ≡ refusal 1 at
unfolding read_codes codes_of
ended bytes at st h = rw (drop_of_length-le (nybbles bytes) h)

module _ (bytes : List ℕ) (at : ℕ) (st : State) (c : Code) (n : Next bytes at c) where
  refused : (fault st c ≡ 0 → ⊥) → reading bytes at st ≡ refusal (fault st c) at
  unfolding read_codes
  refused e = rw n.divides (simp (ne_eqb _ _ e))

  module _ (e : fault st c ≡ 0) where
    goes : is_expiry c.mark ≡ false → reading bytes at st ≡ reading bytes (at + c.size) (after st c)
    unfolding read_codes
    goes x = rw n.divides (simp (eq-eqb _ _ e, x))

    ends : is_expiry c.mark ≡ true → reading bytes at st ≡ at_end (length (nybbles bytes)) (at + c.size) (after st c)
    unfolding read_codes
    ends x = rw n.divides (simp (eq-eqb _ _ e, x))

-- what holds where the reader's loop is: the words have the schedule so far, and reading on from there gives the answer
pub record Reads (bytes words : List ℕ) (p : Progress) (at : ℕ) : Type 0 where
  pub inside : at ≤ length (nybbles bytes)
  pub short : at ≤ 2 * p.total
  pub gap_is_within : p.gap ≤ 999
  pub total_fits : p.total ≤ 2400
  pub so_far : Schedule
  pub kept : SoFar so_far p.count words
  pub same : read_nybbles bytes ≡ reading bytes at (state_of p so_far)

pub begins : (bytes : List ℕ) → Reads bytes (replicate 514 0) (record { gap = 0; total = 0; count = 0 }) 0
unfolding read_nybbles
begins bytes =
    record {
      inside = omega arith;
      short = omega arith;
      gap_is_within = omega arith;
      total_fits = omega arith;
      so_far = blank_schedule;
      kept = so_far_blank;
      same = refl;
    }

module _ (bytes words : List ℕ) (at : ℕ) (p : Progress) (h : Reads bytes words p at) where
  st : State
  st = state_of p h.so_far

  pub ends_early_lem : length (nybbles bytes) ≤ at → {r : Result (Unit {0}) ParseError} {out : List ℕ} → ReadsInto (refusal 1 at) r out → ReadsInto (read_nybbles bytes) r out
  unfolding st
  ends_early_lem l o = rw (h.same ∙ ended bytes at st l) o

  module _ (c : Code) (next : Next bytes at c) where
    -- a code that is refused
    pub refuses : (why : Refusal) → ((s : Schedule) → length s.leaps ≡ p.count → answer.refused (number_of why) ≡ checks (state_of p s) c)
        → {r : Result (Unit {0}) ParseError} {out : List ℕ} → ReadsInto (refusal (number_of why) at) r out → ReadsInto (read_nybbles bytes) r out
    unfolding st fault
    refuses why q o =
        let f : number_of why ≡ fault st c = ap answer.number (q h.so_far h.kept.its_count) in
        let is : read_nybbles bytes ≡ refusal (number_of why) at
        = h.same ∙ (refused bytes at st c next (λ z. omega (arith, has_number why)) ∙ ap (λ (n : ℕ). refusal n at) (sym f)) in
        rw is o

    -- a code that passes
    module _ (q : (s : Schedule) → length s.leaps ≡ p.count → answer.given tt ≡ checks (state_of p s) c) where
      none : fault st c ≡ 0
      unfolding st fault
      none = ap answer.number (sym (q h.so_far h.kept.its_count))

      pub passed : Passes p.gap p.total p.count c
      unfolding st
      passed = rw h.kept.its_count at (passes st c none)

      module _ (p' : Progress) (words' : List ℕ) (moves : (s : Schedule) → SoFar s p.count words → Moves p p' words' s c) where
        moved : Moves p p' words' h.so_far c
        moved = moves h.so_far h.kept

        pub reads_on : (c.mark ≡ Expires → ⊥) → Reads bytes words' p' (at + c.size)
        unfolding st
        reads_on b =
            let a = moved.state in
            let t : p'.total ≡ p.total + c.months = ap (λ (x : State). x.total) a ∙ after_total st c in
            let g : p'.gap ≡ (after st c).gap = ap (λ (x : State). x.gap) a in
            let k : (after st c).gap ≤ p.gap + c.months = after_gap st c in
            record {
              inside = next.inside;
              short = omega (arith, h.short, next.two, next.some);
              gap_is_within = omega (arith, passed.gap_is_within);
              total_fits = omega (arith, passed.total_fits);
              so_far = (after st c).schedule;
              kept = moved.kept;
              same = h.same ∙ (goes bytes at st c next none (not_expiry c.mark b) ∙ ap (reading bytes (at + c.size)) (sym a));
            }

        module _ (b : c.mark ≡ Expires) where
          last : read_nybbles bytes ≡ at_end (length (nybbles bytes)) (at + c.size) (state_of p' (after st c).schedule)
          unfolding st
          last = h.same ∙ (ends bytes at st c next none (ap is_expiry b) ∙ ap (at_end (length (nybbles bytes)) (at + c.size)) (sym moved.state))

          pub refuses_more : at + c.size < length (nybbles bytes) → {r : Result (Unit {0}) ParseError} {out : List ℕ}
              → ReadsInto (refusal 6 (at + c.size)) r out → ReadsInto (read_nybbles bytes) r out
          refuses_more l o =
              let is : read_nybbles bytes ≡ refusal 6 (at + c.size) = last ∙ simp (lt-ltb _ _ l) in
              rw is o

          pub accepts : length (nybbles bytes) ≤ at + c.size → (day : ℕ) → day ≡ month_start (min p'.total 2400)
              → ReadsInto (read_nybbles bytes) (Ok tt) (set (set words' 512 p'.count) 513 day)
          unfolding st
          accepts l day d =
              let is : read_nybbles bytes ≡ accepted (after st c).schedule (month_start p'.total) = last ∙ simp (le-ltb _ _ l) in
              let t : p'.total ≡ p.total + c.months = ap (λ (x : State). x.total) moved.state ∙ after_total st c in
              let inside : p'.total ≤ 2400 = omega (arith, passed.total_fits) in
              rw (is, d ∙ start_min inside) (so_far_end (after st c).schedule p'.count words' moved.kept (month_start p'.total))

          pub few_after : p'.count ≤ 256
          few_after = moved.kept.room
