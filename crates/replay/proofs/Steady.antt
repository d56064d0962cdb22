-- If of any two lists that a trace uses one extends the other, no question gets two different times, however stores and resets fall.
-- Assumes nothing.
use Prim.Native.Nat.{ℕ, zero, suc}
use mathlib.Core.Path.{◌≡◌, refl, sym, ap, ◌∙◌}
use mathlib.Core.Bool.{true, false≢true}
use mathlib.Core.List.{List, [], ◌∷◌}
use native.Mathlib.Omega.{arith}
use lib.Dec.{eqb}
use lib.ListN.{get_or}
use borrow.Author.Tests.{eqb-true}
use Rattle.schedule.specs.Schedule.{Schedule, well_formed, blank_schedule}
use Rattle.schedule.specs.WordLayout.{meant, words_of}
use Rattle.schedule.proofs.Gaps.{blank_refused}
use Rattle.schedule.proofs.Meant.{blank_stands, words_stand}
use Rattle.ascii.proofs.Cases.{by_bool}
use Rattle.text.specs.Read.{read_text}
use Rattle.text.proofs.Sound.{accepted_well_formed}
use Rattle.refusals.specs.Answer.{Answer, given, refused}
use Rattle.clock.specs.Question.{utc_to_uts, ask_utc_to_uts}
use Rattle.clock.specs.Known.{uts_cutoff}
use Rattle.clock.specs.Days.{ending}
use Rattle.clock.specs.Smoothed.{uts}
use Rattle.clock.proofs.Checks.{on_utc}
use Rattle.clock.proofs.Differ.{agree_iff_extends}
use Rattle.replay.specs.Trace.{Line, list, store, reset, question, other, meaning}
use Rattle.replay.specs.Replay.{State, blank_state, Reply, nothing, time, refuse, on_day, reply, read_over, next}
use Rattle.replay.specs.Times.{replies, Accepted, accepted_here, accepted_later, Used, held_current, held_stored, used_accepted, Agreeing}

-- the words of a list that was accepted stand for it
pub stands : (bytes : List ℕ) → (read_text bytes).number ≡ 0 → meant (words_of (read_text bytes).schedule) ≡ (read_text bytes).schedule
stands bytes e = words_stand (read_text bytes).schedule (accepted_well_formed bytes e)

-- ---- a time

abbrev day_in : Reply → ℕ
day_in nothing = 0
day_in (time day u) = day
day_in (refuse n) = 0

abbrev nanos_in : Reply → ℕ
nanos_in nothing = 0
nanos_in (time day u) = u
nanos_in (refuse n) = 0

abbrev is_time : Reply → ℕ
is_time nothing = 0
is_time (time day u) = 1
is_time (refuse n) = 0

-- an answer that is a time is that of the question
timed : (day d u : ℕ) (a : Answer ℕ) → on_day day a ≡ time d u → (d ≡ day) × (a ≡ given u)
timed day d u (given v) e = (sym (ap day_in e), ap given (ap nanos_in e))
timed day d u (refused n) e = absurd (omega (arith, ap is_time e))

-- ---- lists of a kind

module _ (P : Schedule → Type 0) where
  -- words that stand for a list, if for any, for one of the kind
  abbrev OfKind : List ℕ → Type 0
  OfKind words = well_formed (meant words) ≡ true → P (meant words)

  record Good (s : State) : Type 0 where
    pub current : OfKind s.current
    pub stored : OfKind s.stored

  read_good : (bytes words : List ℕ) → ((read_text bytes).number ≡ 0 → P (read_text bytes).schedule) → OfKind words → OfKind (read_over bytes words)
  read_good bytes words p k =
      by_bool (eqb (read_text bytes).number 0)
      (λ b. let e = eqb-true (read_text bytes).number 0 b in simp b (λ _. rw (stands bytes e) (p e)))
      (λ b. simp b k)

  next_good : (l : List ℕ) (s : State) → Good s → ((bytes : List ℕ) → meaning l ≡ list bytes → (read_text bytes).number ≡ 0 → P (read_text bytes).schedule)
      → (k : Line) → meaning l ≡ k → Good (next s k)
  unfolding next
  next_good l s g p (list bytes) e = record { current = read_good bytes s.current (p bytes e) g.current; stored = g.stored }
  next_good l s g p store e = record { current = g.current; stored = g.current }
  next_good l s g p reset e = record { current = g.stored; stored = g.stored }
  next_good l s g p (question day t) e = g
  next_good l s g p other e = g

  -- a time is given by a list of the kind, on the day asked for
  record GivenBy (day t d u : ℕ) : Type 0 where
    pub by : Schedule
    pub kind : P by
    pub well : well_formed by ≡ true
    pub same_day : d ≡ day
    pub gives : utc_to_uts by day t ≡ given u

  given_by : (ls : List (List ℕ)) (s : State) → Good s → ((a : Schedule) → Accepted ls a → P a) → (i day t d u : ℕ)
      → meaning (get_or ls i []) ≡ question day t → get_or (replies s ls) i nothing ≡ time d u → GivenBy day t d u
  unfolding replies reply
  given_by [] s g p i day t d u m e = absurd (omega (arith, ap is_time e))
  given_by (l ∷ ls) s g p zero day t d u m e =
      let is = timed day d u (utc_to_uts (meant s.current) day t) (rw m at e) in
      let w = (on_utc (meant s.current) uts_cutoff day t (uts (ending (meant s.current) day) t) u is.1).well in
      record { by = meant s.current; kind = g.current w; well = w; same_day = is.0; gives = is.1 }
  given_by (l ∷ ls) s g p (suc i) day t d u m e =
      given_by ls (next s (meaning l)) (next_good l s g (λ bytes m e. p (read_text bytes).schedule (accepted_here bytes m e)) (meaning l) refl)
      (λ a h. p a (accepted_later h)) i day t d u m e

-- if of any two lists that lines use, those held before them among these, one extends the other: where two of the lines ask for the same instant and
-- get times, these are on the day asked for, and equal, however stores and resets fall
pub steady : (s : State) (ls : List (List ℕ)) → Agreeing (Used s ls) → (i j day t d e u v : ℕ)
    → meaning (get_or ls i []) ≡ question day t → meaning (get_or ls j []) ≡ question day t
    → get_or (replies s ls) i nothing ≡ time d u → get_or (replies s ls) j nothing ≡ time e v
    → (d ≡ day) × (e ≡ day) × (u ≡ v)
steady s ls agree i j day t d e u v l m x y =
    let g : Good (Used s ls) s = record { current = held_current; stored = held_stored } in
    let a = given_by (Used s ls) ls s g (λ a h. used_accepted h) i day t d u l x in
    let b = given_by (Used s ls) ls s g (λ a h. used_accepted h) j day t e v m y in
    let same : u ≡ v = (agree_iff_extends a.by b.by a.well b.well).1 (agree b.by a.by b.kind a.kind) (ask_utc_to_uts day t) u v a.gives b.gives in
    (a.same_day, b.same_day, same)

blank_not : well_formed (meant (words_of blank_schedule)) ≡ true → ⊥
blank_not w = false≢true (sym blank_refused ∙ (rw blank_stands at w))

-- the same of lines from the start, where both lists are blank: only the lists accepted in them count
pub steady_from_start : (ls : List (List ℕ)) → Agreeing (Accepted ls) → (i j day t d e u v : ℕ)
    → meaning (get_or ls i []) ≡ question day t → meaning (get_or ls j []) ≡ question day t
    → get_or (replies blank_state ls) i nothing ≡ time d u → get_or (replies blank_state ls) j nothing ≡ time e v
    → (d ≡ day) × (e ≡ day) × (u ≡ v)
steady_from_start ls agree = steady blank_state ls (λ a b p q. agree a b (accepted a p) (accepted b q))
  where
    accepted : (a : Schedule) → Used blank_state ls a → Accepted ls a
    accepted a (held_current w) = absurd (blank_not w)
    accepted a (held_stored w) = absurd (blank_not w)
    accepted a (used_accepted h) = h
