-- What lines make of the two lists, in the letters of the request. Assumes nothing.
use Prim.Native.Nat.{ℕ, ◌≤◌}
use mathlib.Core.Path.{◌≡◌, refl, ap, ◌∙◌}
use mathlib.Core.Bool.{false}
use mathlib.Core.List.{List, [], ◌∷◌, ◌++◌}
use lib.Dec.{eqb}
use native.Mathlib.Omega.{arith}
use lib.ListN.{length, replicate, length-append}
use borrow.Author.Tests.{eq-eqb, ne_eqb, eqb-true}
use Rattle.ascii.specs.Ascii.{ascii}
use Rattle.ascii.specs.Lines.{newline}
use Rattle.ascii.specs.Refusal.{refusal}
use Rattle.ascii.proofs.Cases.{by_bool}
use Rattle.schedule.specs.Schedule.{well_formed}
use Rattle.schedule.specs.WordLayout.{leap_words, meant, words_of}
use Rattle.schedule.proofs.Gaps.{blank_refused}
use Rattle.schedule.proofs.Meant.{blank_stands}
use Rattle.text.specs.Read.{read_text}
use Rattle.refusals.specs.Answer.{given, refused}
use Rattle.clock.specs.Question.{utc_to_uts}
use Rattle.stream.specs.Stream.{after}
use Rattle.stream.proofs.Streams.{after_both}
use Rattle.replay.specs.Trace.{Line, list, store, reset, question, other, meaning}
use Rattle.replay.specs.Replay.{State, blank_state, nothing, time, refuse, reply, read_over, next, shown, replaying}
use Rattle.replay.proofs.Says.{Digits, Says, says_list, says_question, says_is, no_line_lem, store_letters, reset_letters, list_letters}
use Rattle.replay.proofs.Steady.{stands}

-- ---- each kind of line, from any state: what it is answered, and the state after it

-- an accepted list prints nothing and becomes the current one
pub list_accepted : (s : State) (bytes : List ℕ) → length (ascii "L " ++ bytes) ≤ 4096 → (read_text bytes).number ≡ 0
    → (reply s (meaning (ascii "L " ++ bytes)) ≡ nothing)
    × (next s (meaning (ascii "L " ++ bytes)) ≡ record { current = words_of (read_text bytes).schedule; stored = s.stored })
unfolding reply next
list_accepted s bytes h e = rw (says_is (says_list bytes h)) (simp (eq-eqb (read_text bytes).number 0 e), simp (eq-eqb (read_text bytes).number 0 e))

-- a refused list is answered by its number, and changes nothing
pub list_refused : (s : State) (bytes : List ℕ) → length (ascii "L " ++ bytes) ≤ 4096 → ((read_text bytes).number ≡ 0 → ⊥)
    → (reply s (meaning (ascii "L " ++ bytes)) ≡ refuse (read_text bytes).number) × (next s (meaning (ascii "L " ++ bytes)) ≡ s)
unfolding reply next
list_refused s bytes h n = rw (says_is (says_list bytes h)) (simp (ne_eqb (read_text bytes).number 0 n), simp (ne_eqb (read_text bytes).number 0 n))

-- `S` prints nothing and stores the current list
pub stores : (s : State) → (reply s (meaning (ascii "S")) ≡ nothing) × (next s (meaning (ascii "S")) ≡ record { current = s.current; stored = s.current })
unfolding reply next meaning
stores s = (refl, refl)

-- `Z` prints nothing and goes back to the stored list
pub resets : (s : State) → (reply s (meaning (ascii "Z")) ≡ nothing) × (next s (meaning (ascii "Z")) ≡ record { current = s.stored; stored = s.stored })
unfolding reply next meaning
resets s = (refl, refl)

module _ (s : State) (x y : List ℕ) {day t : ℕ} (d : Digits x day) (e : Digits y t) where
  abbrev asking : List ℕ
  asking = ascii "Q " ++ (x ++ (ascii " " ++ y))

  -- `Q` is answered by the current list: the day asked for and its nanoseconds, all of them, or the number; and changes nothing
  pub gives_time : {u : ℕ} → utc_to_uts (meant s.current) day t ≡ given u → (reply s (meaning asking) ≡ time day u) × (next s (meaning asking) ≡ s)
  unfolding reply next
  gives_time g = rw (says_is (says_question x y d e), g) (refl, refl)

  pub refuses_time : {n : ℕ} → utc_to_uts (meant s.current) day t ≡ refused n → (reply s (meaning asking) ≡ refuse n) × (next s (meaning asking) ≡ s)
  unfolding reply next
  refuses_time g = rw (says_is (says_question x y d e), g) (refl, refl)

-- a line of none of these kinds is answered by 20, and changes nothing
pub no_kind : (s : State) (l : List ℕ) → ((m : Line) → Says l m → ⊥) → (reply s (meaning l) ≡ refuse 20) × (next s (meaning l) ≡ s)
unfolding reply next
no_kind s l none = rw ((no_line_lem l).1 none) (refl, refl)

-- ---- a refused line

printing_list : (s : State) (bytes : List ℕ) → (shown (reply s (list bytes)) ≡ [] → ⊥) → next s (list bytes) ≡ s
unfolding reply next shown
printing_list s bytes = by_bool (eqb (read_text bytes).number 0) (λ e. simp e (λ h. absurd (h refl))) (λ e. simp e (λ h. refl))

-- a line that prints anything changes no state
pub printing_keeps : (s : State) (l : Line) → (shown (reply s l) ≡ [] → ⊥) → next s l ≡ s
unfolding reply next shown
printing_keeps s (list bytes) h = printing_list s bytes h
printing_keeps s store h = absurd (h refl)
printing_keeps s reset h = absurd (h refl)
printing_keeps s (question day t) h = refl
printing_keeps s other h = refl

-- so a line that is refused changes none
pub refused_keeps : (s : State) (l : Line) {n : ℕ} → reply s l ≡ refuse n → next s l ≡ s
unfolding shown
refused_keeps s l {n} e = printing_keeps s l (λ h. absurd (omega (arith, length-append (refusal n) (newline ∷ []), ap length (rw e at h))))

-- ---- the stored list

-- no line among them is `S`
abbrev pub NoStore : List (List ℕ) → Type 0
NoStore [] = Unit {0}
NoStore (l ∷ ls) = (l ≡ ascii "S" → ⊥) × NoStore ls

still_stored : (s : State) (l : List ℕ) → (l ≡ ascii "S" → ⊥) → (m : Line) → meaning l ≡ m → (next s m).stored ≡ s.stored
unfolding next
still_stored s l h (list bytes) e = refl
still_stored s l h store e = absurd (h (store_letters l e))
still_stored s l h reset e = refl
still_stored s l h (question day t) e = refl
still_stored s l h other e = refl

stored_kept : (ls : List (List ℕ)) (s : State) → NoStore ls → (after replaying s ls).stored ≡ s.stored
unfolding after
stored_kept [] s h = refl
stored_kept (l ∷ ls) s h = stored_kept ls (next s (meaning l)) h.1 ∙ still_stored s l h.0 (meaning l) refl

-- the list that is stored comes back with a reset, whatever lines fall between if none of them stores another
pub comes_back : (s : State) (ls : List (List ℕ)) → NoStore ls → (after replaying s (ascii "S" ∷ (ls ++ (ascii "Z" ∷ [])))).current ≡ s.current
unfolding after
comes_back s ls h =
    let t = next s (meaning (ascii "S")) in
    ap (λ (x : State). x.current) (after_both replaying ls (ascii "Z" ∷ []) t)
    ∙ ap (λ (x : State). x.current) (resets (after replaying t ls)).1
    ∙ stored_kept ls t h
    ∙ ap (λ (x : State). x.stored) (stores s).1

-- ---- the current list

-- no line among them is `Z`, or `L` with a list that is accepted
abbrev pub NoUse : List (List ℕ) → Type 0
NoUse [] = Unit {0}
NoUse (l ∷ ls) = (l ≡ ascii "Z" → ⊥) × ((bytes : List ℕ) → l ≡ ascii "L " ++ bytes → (read_text bytes).number ≡ 0 → ⊥) × NoUse ls

refused_over : (bytes words : List ℕ) → ((read_text bytes).number ≡ 0 → ⊥) → read_over bytes words ≡ words
refused_over bytes words h = by_bool (eqb (read_text bytes).number 0) (λ e. absurd (h (eqb-true (read_text bytes).number 0 e))) (λ e. simp e)

still_current : (s : State) (l : List ℕ) → (l ≡ ascii "Z" → ⊥) → ((bytes : List ℕ) → l ≡ ascii "L " ++ bytes → (read_text bytes).number ≡ 0 → ⊥) → (m : Line) → meaning l ≡ m
    → (next s m).current ≡ s.current
unfolding next
still_current s l h g (list bytes) e = refused_over bytes s.current (g bytes (list_letters l bytes e))
still_current s l h g store e = refl
still_current s l h g reset e = absurd (h (reset_letters l e))
still_current s l h g (question day t) e = refl
still_current s l h g other e = refl

-- the current list stays until the next reset or accepted list
pub stays_current : (ls : List (List ℕ)) (s : State) → NoUse ls → (after replaying s ls).current ≡ s.current
unfolding after
stays_current [] s h = refl
stays_current (l ∷ ls) s h = stays_current ls (next s (meaning l)) h.2 ∙ still_current s l h.0 h.1 (meaning l) refl

accepted_over : (s : State) (bytes : List ℕ) → (read_text bytes).number ≡ 0 → meant (next s (list bytes)).current ≡ (read_text bytes).schedule
unfolding next
accepted_over s bytes e = simp (eq-eqb (read_text bytes).number 0 e) (stands bytes e)

-- an accepted list is the current one until then
pub in_use : (s : State) (bytes : List ℕ) (ls : List (List ℕ)) → length (ascii "L " ++ bytes) ≤ 4096 → (read_text bytes).number ≡ 0 → NoUse ls
    → meant (after replaying s ((ascii "L " ++ bytes) ∷ ls)).current ≡ (read_text bytes).schedule
unfolding after
in_use s bytes ls h e g =
    let says = says_is (says_list bytes h) in
    ap meant (stays_current ls (next s (meaning (ascii "L " ++ bytes))) g) ∙ rw says (accepted_over s bytes e)

-- ---- questions

-- a question is refused with 11, whatever is asked, where the words stand for no list
pub no_list : (s : State) (day t : ℕ) → well_formed (meant s.current) ≡ false → reply s (question day t) ≡ refuse 11
unfolding reply
no_list s day t w = rw w

-- at the start all words of both lists are 0
pub all_blank : (blank_state.current ≡ replicate 514 0) × (blank_state.stored ≡ replicate 514 0)
unfolding words_of leap_words
all_blank = (refl, refl)

-- so every question then is
pub at_the_start : (day t : ℕ) → reply blank_state (question day t) ≡ refuse 11
at_the_start day t = no_list blank_state day t (rw blank_stands blank_refused)
