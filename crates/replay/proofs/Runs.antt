-- However a trace arrives and however calls and rooms fall, it prints the same. Assumes nothing.
use Prim.Native.Nat.{ℕ, ◌-◌, ◌≤◌, ◌<◌}
use mathlib.Core.Path.{◌≡◌, sym, ap, ◌∙◌}
use mathlib.Core.List.{List, [], ◌∷◌, ◌++◌, append-nil, append_assoc}
use mathlib.Core.Logic.{◌⊎◌}
use native.Mathlib.Omega.{arith}
use native.Mathlib.Decide.{dec_le}
use lib.Dec.{eqb}
use lib.ListN.{length, take, drop, length-append, length-take, drop_of_length-le}
use lib.Seq.{take_all}
use borrow.Author.Tests.{eqb-true, le-leb}
use Rattle.ascii.specs.Lines.{newline}
use Rattle.ascii.proofs.Cases.{by_bool}
use Rattle.stream.specs.Lines.{lines_of, size_of, rest}
use Rattle.stream.specs.Stream.{printed, after, answered}
use Rattle.stream.proofs.Lines as lines
use Rattle.stream.proofs.Streams.{none_lost, one_more, no_room as none-fit, all_or_full as stops}
use Rattle.replay.specs.Replay.{State, replaying, unended, output, state_after}
use Rattle.replay.specs.Runs.{Run, call, arrive, keep, end}
use Rattle.replay.proofs.Cutting.{output_parts, state_parts, cut_alike}

-- what a run prints and where it ends is what the trace prints, and the state after it
pub record Same (s : State) (trace out : List ℕ) (s' : State) : Type 0 where
  pub prints : out ≡ output s trace
  pub ends : s' ≡ state_after s trace

-- ---- what a call leaves

module _ (s : State) (held coming : List ℕ) (done : List (List ℕ)) (e : lines_of held ≡ done ++ lines_of (drop (size_of done) held)) where
  all : lines_of (held ++ coming) ≡ done ++ (lines_of (drop (size_of done) held) ++ lines_of (rest held ++ coming))
  all = lines.cut_anywhere held coming ∙ ap (λ (x : List (List ℕ)). x ++ lines_of (rest held ++ coming)) e ∙ append_assoc done (lines_of (drop (size_of done) held)) (lines_of (rest held ++ coming))

  abbrev others : List (List ℕ)
  others = lines_of (drop (size_of done) held) ++ lines_of (rest held ++ coming)

  left : drop (size_of done) (held ++ coming) ≡ drop (size_of done) held ++ coming
  left = lines.first_left done (lines_of (drop (size_of done) held)) held coming e

  called : {out : List ℕ} {s' : State} → Same (after replaying s done) (drop (size_of done) held ++ coming) out s' → Same s (held ++ coming) (printed replaying s done ++ out) s'
  called i =
      record {
        prints = rw (i.prints, ← left) (sym (output_parts s done others (held ++ coming) all));
        ends = i.ends ∙ rw (← left) (sym (state_parts s done others (held ++ coming) all));
      }

-- ---- what is kept of a line

kept : (s : State) (held coming : List ℕ) (most : ℕ) → 4096 < most → lines_of held ≡ [] → {out : List ℕ} {s' : State}
    → Same s (take most held ++ coming) out s' → Same s (held ++ coming) out s'
kept s held coming most h e i =
    elim (dec_le (length held) most) [
      | yes g ↦ rw (take_all most held g) at i
      | no g ↦
          let c = cut_alike s held coming most e h (omega arith) in
          record { prints = i.prints ∙ c.0; ends = i.ends ∙ c.1 }
    ]

-- ---- the end

ended : (s : State) (held : List ℕ) → lines_of held ≡ [] → Same s (held ++ []) (unended held) s
unfolding output state_after printed after
ended s held e = record { prints = rw (append-nil held, lines.rest_all held e, e); ends = rw (append-nil held, e) }

-- however a trace arrives, whole or in pieces of any lengths, with whatever rooms it is replayed, and whatever is kept of a long line beyond its
-- first 4,096 bytes: it prints the same, and ends in the same state
pub any_run : {size most : ℕ} {s s' : State} {held coming out : List ℕ} → Run size most s held coming out s' → Same s (held ++ coming) out s'
any_run {s} {held = held} {coming = coming} (call room _ done e r) =
    called s held coming done (sym (rw (← e) at (none_lost replaying room s held))) (any_run r)
any_run {s} {held = held} (arrive {coming = coming} piece h r) = rw (append_assoc held piece coming) at (any_run r)
any_run {s} {held = held} {coming = coming} (keep most h e r) = kept s held coming most h e (any_run r)
any_run {s} {held = held} (end e) = ended s held e

-- ---- every trace has such a run

pub record Through (size most : ℕ) (s : State) (held coming : List ℕ) : Type 0 where
  pub out : List ℕ
  pub last : State
  pub run : Run size most s held coming out last

module _ (size most : ℕ) (large : 4098 ≤ size) (enough : 22 ≤ most) where
  one_call : (s : State) (held : List ℕ) → lines_of held ≡ [] → held ∷ [] ≡ answered replaying most s (lines_of (held ++ (newline ∷ [])))
  unfolding answered
  one_call s held e = rw (lines.one_line held e) (simp (le-leb 22 most enough))

  used_up : (held : List ℕ) → drop (size_of (held ∷ [])) (held ++ (newline ∷ [])) ≡ []
  unfolding size_of
  used_up held =
      let all : length (held ++ (newline ∷ [])) ≤ size_of (held ∷ []) = omega (arith, length-append held (newline ∷ [])) in
      drop_of_length-le (held ++ (newline ∷ [])) all

  fits : (held : List ℕ) (b : ℕ) → length held ≤ 4097 → length (held ++ (b ∷ [])) ≤ size
  fits held b h = omega (arith, length-append held (b ∷ []))

  line_end : (bs : List ℕ) (s : State) (held : List ℕ) → lines_of held ≡ [] → length held ≤ 4097 → Through size most (after replaying s (held ∷ [])) [] bs
      → Through size most s held (newline ∷ bs)
  line_end bs s held e h i =
      let others : Run size most (after replaying s (held ∷ [])) (drop (size_of (held ∷ [])) (held ++ (newline ∷ []))) bs i.out i.last = rw (used_up held) i.run in
      record {
        out = printed replaying s (held ∷ []) ++ i.out;
        last = i.last;
        run = arrive (newline ∷ []) (fits held newline h) (call most (omega arith) (held ∷ []) (one_call s held e) others);
      }

  through : (coming : List ℕ) (s : State) (held : List ℕ) → lines_of held ≡ [] → length held ≤ 4097 → Through size most s held coming
  through [] s held e h = record { out = unended held; last = s; run = end e }
  through (b ∷ bs) s held e h =
      let after_Line = through bs (after replaying s (held ∷ [])) [] lines.nothing (omega arith) in
      by_bool (eqb b newline)
      (λ x. let lf : b ≡ newline = eqb-true b newline x in rw lf (line_end bs s held e h after_Line))
      (λ x.
      let none = lines.no_line_yet held b e x in
      let kept-none = lines.no_line_lem (take 4097 (held ++ (b ∷ []))) (lines.none_in_start newline 4097 (held ++ (b ∷ [])) (lines.no_mark (held ++ (b ∷ [])) none)) in
      let i = through bs s (take 4097 (held ++ (b ∷ []))) kept-none (omega (arith, length-take 4097 (held ++ (b ∷ [])))) in
      record {
        out = i.out;
        last = i.last;
        run = arrive (b ∷ []) (fits held b h) (keep 4097 (omega arith) none i.run);
      })

-- every trace has a run with a buffer of fixed size, 4,098 bytes or more, and an output of fixed room, 22 bytes or more: what is held never
-- outgrows the one, nor a call the other
pub fixed_buffers : (size most : ℕ) → 4098 ≤ size → 22 ≤ most → (s : State) (trace : List ℕ) → Through size most s [] trace
fixed_buffers size most large enough s trace = through size most large enough trace s [] lines.nothing (omega arith)

-- ---- a call

-- a call with room for 22 bytes replays at least one line, if one is complete: so calls come to an end
pub goes_on : (room : ℕ) (s : State) (l : List ℕ) (ls : List (List ℕ)) → 22 ≤ room → 0 < length (answered replaying room s (l ∷ ls))
goes_on room s l ls h = omega (arith, ap length (one_more replaying room s l ls h))

-- it stops only where all complete lines are replayed, or where less than 22 bytes of the room are left
pub all_or_full : (room : ℕ) (s : State) (ls : List (List ℕ))
    → (answered replaying room s ls ≡ ls) ⊎ (room - length (printed replaying s (answered replaying room s ls)) < 22)
all_or_full room s ls = stops replaying room s ls

-- and a call with less room replays none
pub no_room : (room : ℕ) (s : State) (ls : List (List ℕ)) → room < 22 → answered replaying room s ls ≡ []
no_room room s ls h = none-fit replaying room s ls h
