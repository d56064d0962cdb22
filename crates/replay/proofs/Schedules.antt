-- The answers to a trace by the two lists themselves, not by their words: the same, and computed far sooner, since words are compared one by one to
-- see which list they mean.
-- Assumes nothing.
use Prim.Native.Nat.{ℕ}
use mathlib.Core.Path.{◌≡◌, refl}
use mathlib.Core.Bool.{cond}
use mathlib.Core.List.{List, [], ◌∷◌, ◌++◌}
use lib.Dec.{eqb}
use borrow.Author.Tests.{eqb-true}
use Rattle.ascii.proofs.Cases.{by_bool}
use Rattle.refusals.specs.Refusals.{no_line}
use Rattle.schedule.specs.Schedule.{Schedule, blank_schedule}
use Rattle.schedule.specs.WordLayout.{meant, words_of}
use Rattle.schedule.proofs.Meant.{blank_stands}
use Rattle.text.specs.Read.{read_text}
use Rattle.clock.specs.Question.{utc_to_uts}
use Rattle.stream.specs.Lines.{lines_of, rest}
use Rattle.replay.specs.Trace.{Line, list, store, reset, question, other, meaning}
use Rattle.replay.specs.Replay.{State, blank_state, Reply, nothing, refuse, on_day, numbered, reply, next}
use Rattle.replay.specs.Replay as words
use Rattle.replay.specs.Times.{replies, last_reply, replies_to}
use Rattle.replay.proofs.Steady.{stands}

-- the current list and the stored one
pub record Schedules : Type 0 where
  pub current : Schedule
  pub stored : Schedule

abbrev in_words : Schedules → State
in_words p = record { current = words_of p.current; stored = words_of p.stored }

-- what a line is answered, and the lists after it
unfoldable pub answered : Schedules → Line → Reply
answered p (list bytes) = numbered (read_text bytes).number
answered p store = nothing
answered p reset = nothing
answered p (question day t) = on_day day (utc_to_uts p.current day t)
answered p other = refuse no_line

abbrev read_over : List ℕ → Schedule → Schedule
read_over bytes s = cond (eqb (read_text bytes).number 0) (read_text bytes).schedule s

unfoldable pub then : Schedules → Line → Schedules
then p (list bytes) = record { current = read_over bytes p.current; stored = p.stored }
then p store = record { current = p.current; stored = p.current }
then p reset = record { current = p.stored; stored = p.stored }
then p (question day t) = p
then p other = p

unfoldable pub all_answered : Schedules → List (List ℕ) → List Reply
all_answered p [] = []
all_answered p (l ∷ ls) = answered p (meaning l) ∷ all_answered (then p (meaning l)) ls

-- ---- the same as by their words

-- words mean the list that they are the words of
abbrev Meant : Schedule → Type 0
Meant s = meant (words_of s) ≡ s

record BothMeant (p : Schedules) : Type 0 where
  current : Meant p.current
  stored : Meant p.stored

same_reply : (p : Schedules) → BothMeant p → (l : Line) → reply (in_words p) l ≡ answered p l
unfolding reply answered
same_reply p h (list bytes) = refl
same_reply p h store = refl
same_reply p h reset = refl
same_reply p h (question day t) = rw h.current
same_reply p h other = refl

same_over : (bytes : List ℕ) (s : Schedule) → words.read_over bytes (words_of s) ≡ words_of (read_over bytes s)
same_over bytes s = by_bool (eqb (read_text bytes).number 0) (λ e. simp e) (λ e. simp e)

same_next : (p : Schedules) (l : Line) → next (in_words p) l ≡ in_words (then p l)
unfolding next then
same_next p (list bytes) = λ i. record { current = same_over bytes p.current i; stored = words_of p.stored }
same_next p store = refl
same_next p reset = refl
same_next p (question day t) = refl
same_next p other = refl

still_meant : (p : Schedules) → BothMeant p → (l : Line) → BothMeant (then p l)
unfolding then
still_meant p h (list bytes) =
    let e : Meant (read_over bytes p.current) =
    by_bool (eqb (read_text bytes).number 0) (λ e. simp e (stands bytes (eqb-true (read_text bytes).number 0 e))) (λ e. simp e h.current) in
    record { current = e; stored = h.stored }
still_meant p h store = record { current = h.current; stored = h.current }
still_meant p h reset = record { current = h.stored; stored = h.stored }
still_meant p h (question day t) = h
still_meant p h other = h

same_replies : (ls : List (List ℕ)) (p : Schedules) → BothMeant p → replies (in_words p) ls ≡ all_answered p ls
unfolding replies all_answered
same_replies [] p h = refl
same_replies (l ∷ ls) p h =
    rw (same_reply p h (meaning l), same_next p (meaning l), same_replies ls (then p (meaning l)) (still_meant p h (meaning l)))

-- at the start
abbrev blank_lists : Schedules
blank_lists = record { current = blank_schedule; stored = blank_schedule }

-- what a trace is answered from the start
unfoldable pub answered_to : List ℕ → List Reply
answered_to trace = all_answered blank_lists (lines_of trace) ++ last_reply (rest trace)

pub same_answers : (trace : List ℕ) → replies_to blank_state trace ≡ answered_to trace
unfolding replies_to answered_to
same_answers trace = rw (same_replies (lines_of trace) blank_lists (record { current = blank_stands; stored = blank_stands }))
