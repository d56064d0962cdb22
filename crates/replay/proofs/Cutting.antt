-- A trace in pieces: cut at any line end and gone on with from the state, it prints the same; and of a line that is not complete 4,097 bytes are
-- enough to keep. Assumes nothing.
use Prim.Native.Nat.{ℕ, ◌≤◌, ◌<◌}
use mathlib.Core.Path.{◌≡◌, refl, sym, ◌∙◌}
use mathlib.Core.List.{List, [], ◌∷◌, ◌++◌, append-nil, append_assoc}
use native.Mathlib.Omega.{arith}
use lib.ListN.{length, take, drop, length-append}
use lib.Seq.{length-take-le}
use borrow.Author.Tests.{lt-leb}
use Rattle.refusals.specs.Refusals.{no_line}
use Rattle.ascii.specs.Lines.{newline}
use Rattle.stream.specs.Lines.{lines_of, size_of, rest}
use Rattle.stream.specs.Stream.{printed, after}
use Rattle.stream.proofs.Lines as lines
use Rattle.stream.proofs.Streams.{printed_both, after_both}
use Rattle.replay.specs.Trace.{other, max_line, meaning}
use Rattle.replay.specs.Replay.{State, refuse, reply, next, shown, replaying, unended, output, state_after}

-- ---- the first lines of a trace, and the others

module _ (s : State) (ls others : List (List ℕ)) (trace : List ℕ) (e : lines_of trace ≡ ls ++ others) where
  pub output_parts : output s trace ≡ printed replaying s ls ++ output (after replaying s ls) (drop (size_of ls) trace)
  unfolding output
  output_parts =
      rw (lines.rest_after ls others trace e, lines.after ls others trace e, e, printed_both replaying ls others s)
      (append_assoc (printed replaying s ls) (printed replaying (after replaying s ls) others) (unended (drop (size_of (ls ++ others)) trace)))

  pub state_parts : state_after s trace ≡ state_after (after replaying s ls) (drop (size_of ls) trace)
  unfolding state_after
  state_parts = rw (lines.after ls others trace e, e) (after_both replaying ls others s)

-- ---- a line that is too long

long_other : (l : List ℕ) → max_line < length l → meaning l ≡ other
unfolding meaning
long_other l h = simp (lt-leb (length l) max_line h)

module _ (s : State) (trace : List ℕ) where
  starts_long : (l : List ℕ) (ls : List (List ℕ)) (left : List ℕ) → lines_of trace ≡ l ∷ ls → max_line < length l → rest trace ≡ left
      → (output s trace ≡ shown (reply s other) ++ (printed replaying (next s other) ls ++ unended left))
      × (state_after s trace ≡ after replaying (next s other) ls)
  unfolding output state_after printed after
  starts_long l ls left e h r =
      (rw (r, e, long_other l h) (append_assoc (shown (reply s other)) (printed replaying (next s other) ls) (unended left)), rw (e, long_other l h))

  -- a trace that has no LF at all, and is not empty, is one refusal 20, and changes no state
  pub only_start : 0 < length trace → lines_of trace ≡ [] → (output s trace ≡ shown (refuse no_line)) × (state_after s trace ≡ s)
  unfolding output state_after printed after
  only_start h e = (rw (lines.rest_all trace e, e) (some trace h), rw e)
    where
      some : (bytes : List ℕ) → 0 < length bytes → unended bytes ≡ shown (refuse no_line)
      some [] h = absurd (omega arith)
      some (b ∷ bs) h = refl

-- of the start of a line no more than its first 4,097 bytes have to be kept: whatever follows, the output and the state are the same
pub cut_alike : (s : State) (start b : List ℕ) (k : ℕ) → lines_of start ≡ [] → 4096 < k → k ≤ length start
    → (output s (take k start ++ b) ≡ output s (start ++ b)) × (state_after s (take k start ++ b) ≡ state_after s (start ++ b))
cut_alike s start b k e h g = by_case (lines.kept_alike max_line k start b e h g)
  where
    cut : List ℕ
    cut = take k start

    some : 0 < length (cut ++ b)
    some = omega (arith, length-append cut b, length-take-le k start g)

    by_case : lines.GoOnAlike max_line (cut ++ b) (start ++ b)
        → (output s (cut ++ b) ≡ output s (start ++ b)) × (state_after s (cut ++ b) ≡ state_after s (start ++ b))
    by_case (lines.no_lines a c) =
        let y = only_start s (cut ++ b) some a in
        let x = only_start s (start ++ b) (omega (arith, length-append start b)) c in
        (y.0 ∙ sym x.0, y.1 ∙ sym x.1)
    by_case (lines.long_first l m more a c long-l long-m r) =
        let y = starts_long s (cut ++ b) l more (rest (start ++ b)) a long-l r in
        let x = starts_long s (start ++ b) m more (rest (start ++ b)) c long-m refl in
        (y.0 ∙ sym x.0, y.1 ∙ sym x.1)

-- a line of more than 4,096 bytes, whatever they are, is one refusal 20, and changes no state
pub too_long_lem : (s : State) (l : List ℕ) → 4096 < length l → (reply s (meaning l) ≡ refuse 20) × (next s (meaning l) ≡ s)
unfolding reply next
too_long_lem s l h = (rw (long_other l h), rw (long_other l h))

-- ---- a line end

-- cutting a trace at any line end and going on from the state prints the same, and leaves the same state
pub cut_at_line_end : (s : State) (a b : List ℕ)
    → (output s (a ++ (newline ∷ b)) ≡ output s (a ++ (newline ∷ [])) ++ output (state_after s (a ++ (newline ∷ []))) b)
    × (state_after s (a ++ (newline ∷ b)) ≡ state_after (state_after s (a ++ (newline ∷ []))) b)
unfolding output state_after
cut_at_line_end s a b =
    let first = a ++ (newline ∷ []) in
    let z : first ++ b ≡ a ++ (newline ∷ b) = append_assoc a (newline ∷ []) b in
    let e = lines.ends_line a in
    let l : lines_of (a ++ (newline ∷ b)) ≡ lines_of first ++ lines_of b = rw z at (lines.lines_both first b e) in
    let r : rest (a ++ (newline ∷ b)) ≡ rest b = rw z at (lines.rest_both first b e) in (
      rw (r, l, e.nothing_left, append-nil (printed replaying s (lines_of first)), printed_both replaying (lines_of first) (lines_of b) s)
          (append_assoc (printed replaying s (lines_of first)) (printed replaying (after replaying s (lines_of first)) (lines_of b)) (unended (rest b))),
      rw l (after_both replaying (lines_of first) (lines_of b) s),
    )

-- a last line without LF is one refusal 20, at the end of the trace, and changes no state
pub no_end : (s : State) (a start : List ℕ) → lines_of start ≡ [] → 0 < length start
    → (output s (a ++ (newline ∷ start)) ≡ output s (a ++ (newline ∷ [])) ++ shown (refuse 20))
    × (state_after s (a ++ (newline ∷ start)) ≡ state_after s (a ++ (newline ∷ [])))
no_end s a start e h =
    let c = cut_at_line_end s a start in
    let o = only_start (state_after s (a ++ (newline ∷ []))) start h e in
    (c.0 ∙ rw o.0, c.1 ∙ o.1)
