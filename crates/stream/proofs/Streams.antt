-- Lines answered one after the other: what holds in the loop that answers them, and what it leaves; that none is lost.
-- Assumes nothing.
use mathlib.Core.Path.{◌≡◌, refl, sym, ap, ◌∙◌}
use mathlib.Core.List.{List, [], ◌∷◌, ◌++◌, append-nil, append_assoc}
use mathlib.Core.Logic.{◌⊎◌, inl, inr}
use Prim.Native.Nat.{ℕ, ◌+◌, ◌-◌, ◌≤◌, ◌<◌}
use native.Mathlib.Omega.{arith}
use lib.Dec.{leb}
use lib.ListN.{length, drop, length-append}
use borrow.Author.Tests.{le-leb, lt-leb, leb-false}
use Rattle.ascii.specs.declared.output.Output.{Output}
use Rattle.ascii.specs.Output.{Puts, PutsUpTo}
use Rattle.ascii.specs.Parts.{first_part, Split}
use Rattle.ascii.proofs.Fields.{split_long}
use Rattle.ascii.proofs.Cases.{by_bool}
use Rattle.ascii.proofs.Putting.{nothing, two_puts, same_long, from_start_lem}
use Rattle.ascii.specs.Lines.{newline}
use Rattle.stream.specs.Lines.{lines_of, size_of}
use Rattle.stream.specs.Stream.{Answering, printed, after, answered, LinesAnswered}
use Rattle.stream.proofs.Lines as lines

module _ {S : Type 0} (w : Answering S) where
  -- ---- lines and then others

  pub printed_both : (xs ys : List (List ℕ)) (s : S) → printed w s (xs ++ ys) ≡ printed w s xs ++ printed w (after w s xs) ys
  unfolding printed after
  printed_both [] ys s = refl
  printed_both (x ∷ xs) ys s = rw (printed_both xs ys (w.next s x)) (sym (append_assoc (w.prints s x) (printed w (w.next s x) xs) (printed w (after w (w.next s x) xs) ys)))

  pub after_both : (xs ys : List (List ℕ)) (s : S) → after w s (xs ++ ys) ≡ after w (after w s xs) ys
  unfolding after
  after_both [] ys s = refl
  after_both (x ∷ xs) ys s = after_both xs ys (w.next s x)

  printed_one : (s : S) (l : List ℕ) → printed w s (l ∷ []) ≡ w.prints s l
  unfolding printed
  printed_one s l = append-nil (w.prints s l)

  after_one : (s : S) (l : List ℕ) → after w s (l ∷ []) ≡ w.next s l
  unfolding after
  after_one s l = refl

  -- ---- which lines are answered

  -- where it has none, no line is answered
  pub no_room : (room : ℕ) (s : S) (ls : List (List ℕ)) → room < w.most → answered w room s ls ≡ []
  unfolding answered
  no_room room s [] h = refl
  no_room room s (l ∷ ls) h = simp (lt-leb w.most room h)

  none_left : (room : ℕ) (s : S) → answered w room s [] ≡ []
  unfolding answered
  none_left room s = refl

  -- where an output has room for the longest answer, a line is answered
  pub one_more : (room : ℕ) (s : S) (l : List ℕ) (ls : List (List ℕ)) → w.most ≤ room
      → answered w room s (l ∷ ls) ≡ l ∷ answered w (room - length (w.prints s l)) (w.next s l) ls
  unfolding answered
  one_more room s l ls h = simp (le-leb w.most room h)

  -- all lines are answered, or the room that is left is too little for the longest answer
  pub all_or_full : (room : ℕ) (s : S) (ls : List (List ℕ))
      → (answered w room s ls ≡ ls) ⊎ (room - length (printed w s (answered w room s ls)) < w.most)
  unfolding answered printed
  all_or_full room s [] = inl refl
  all_or_full room s (l ∷ ls) =
      by_bool (leb w.most room) (λ b. simp b (onward (all_or_full (room - length (w.prints s l)) (w.next s l) ls)))
      (λ b. simp b (inr (omega (arith, leb-false w.most room b))))
    where
      left : List (List ℕ)
      left = answered w (room - length (w.prints s l)) (w.next s l) ls

      onward : (left ≡ ls) ⊎ (room - length (w.prints s l) - length (printed w (w.next s l) left) < w.most)
          → (l ∷ left ≡ l ∷ ls) ⊎ (room - length (w.prints s l ++ printed w (w.next s l) left) < w.most)
      onward (inl e) = inl (ap (λ (xs : List (List ℕ)). l ∷ xs) e)
      onward (inr h) = inr (omega (arith, h, length-append (w.prints s l) (printed w (w.next s l) left)))

  -- the lines that are answered are the first ones
  pub record Begins (first all : List (List ℕ)) : Type 0 where
    pub others : List (List ℕ)
    pub makes : all ≡ first ++ others

  begins : (room : ℕ) (s : S) (ls : List (List ℕ)) → Begins (answered w room s ls) ls
  unfolding answered
  begins room s [] = record { others = []; makes = refl }
  begins room s (l ∷ ls) =
      by_bool (leb w.most room)
      (λ b. let i = begins (room - length (w.prints s l)) (w.next s l) ls in
      simp b (record { others = i.others; makes = ap (λ (xs : List (List ℕ)). l ∷ xs) i.makes }))
      (λ b. simp b (record { others = l ∷ ls; makes = refl }))

  -- ---- the loop

  -- the lines `done` of an input are answered into an output that was empty at first, and s is the state after them; the lines of the rest are
  -- answered as from here on
  pub record Going (start : S) (input : List ℕ) (first out : Output) (s : S) (rest : List ℕ) : Type 0 where
    pub fits : out.at ≤ length out.bytes.now
    pub done : List (List ℕ)
    pub puts : Puts first out (printed w start done)
    pub whole : out.at ≡ length (printed w start done)
    pub sized : length input ≡ size_of done + length rest
    pub state : s ≡ after w start done
    pub left : answered w (length first.bytes.now) start (lines_of input) ≡ done ++ answered w (length first.bytes.now - out.at) s (lines_of rest)

  pub begin : (s : S) (input : List ℕ) (out : Output) → out.at ≡ 0 → Going s input out out s input
  unfolding printed after size_of
  begin s input out empty =
      let all : length out.bytes.now ≡ length out.bytes.now - out.at = omega (arith, empty) in
      record {
        fits = omega (arith, empty);
        done = [];
        puts = nothing out;
        whole = empty;
        sized = omega arith;
        state = refl;
        left = ap (λ (room : ℕ). answered w room s (lines_of input)) all;
      }

  -- what the loop leaves
  abbrev pub Left : S → List ℕ → Output → Output → S → List ℕ → Type 0
  Left start input first out s rest =
      LinesAnswered w start (answered w (length first.bytes.now) start (lines_of input)) first.bytes.now out.bytes.now s (record { used = length input - length rest; written = out.at })

  -- the same of the bytes that were lent for it
  pub lent : {start s : S} (input rest : List ℕ) {before after : List ℕ} (first out : Output) → Left start input first out s rest → first.bytes.now ≡ before → after ≡ out.bytes.now
      → LinesAnswered w start (answered w (length before) start (lines_of input)) before after s (record { used = length input - length rest; written = out.at })
  lent input rest first out l same now = rw (now, ← same) l

  module _ {start : S} {input : List ℕ} {first out : Output} {s : S} {rest : List ℕ} (empty : first.at ≡ 0) (g : Going start input first out s rest) where
    pub kept : length out.bytes.now ≡ length first.bytes.now
    kept = same_long g.puts

    ends : answered w (length first.bytes.now - out.at) s (lines_of rest) ≡ [] → Left start input first out s rest
    ends e =
        let all : answered w (length first.bytes.now) start (lines_of input) ≡ g.done = g.left ∙ rw e (append-nil g.done) in
        rw all (record {
          used = omega (arith, g.sized);
          written = g.whole;
          fits = omega (arith, g.fits, kept);
          holds = (from_start_lem g.puts empty).holds;
          state = g.state;
        })

    pub full : length out.bytes.now - out.at < w.most → Left start input first out s rest
    full h = ends (no_room (length first.bytes.now - out.at) s (lines_of rest) (omega (arith, kept)))

    pub last : first_part newline rest ≡ rest → Left start input first out s rest
    last h =
        let none : lines_of rest ≡ [] = lines.no_line_lem rest (omega (arith, ap length h)) in
        ends (ap (answered w (length first.bytes.now - out.at) s) none ∙ none_left (length first.bytes.now - out.at) s)

    module _ {line behind : List ℕ} (split : Split newline rest line behind) (room : w.most ≤ length out.bytes.now - out.at) {out' : Output}
        (p : PutsUpTo w.most out out' (w.prints s line)) where
      now_written : out'.at ≡ out.at + length (w.prints s line)
      now_written = omega (arith, p.puts.next, p.short, room)

      pub step : {s' : S} → s' ≡ w.next s line → Going start input first out' s' behind
      step {s'} t =
          let long : length out'.bytes.now ≡ length out.bytes.now = same_long p.puts in
          let here : printed w (after w start g.done) (line ∷ []) ≡ w.prints s line = rw (← g.state) (printed_one s line) in
          let a : printed w start (g.done ++ (line ∷ [])) ≡ printed w start g.done ++ w.prints s line
          = printed_both g.done (line ∷ []) start ∙ ap (λ (x : List ℕ). printed w start g.done ++ x) here in
          let more = one_more (length first.bytes.now - out.at) s line (lines_of behind) (omega (arith, kept)) in
          let r : length first.bytes.now - out.at - length (w.prints s line) ≡ length first.bytes.now - out'.at = omega (arith, now_written) in
          record {
            fits = omega (arith, long, now_written, p.short, room, g.fits);
            done = g.done ++ (line ∷ []);
            puts = two_puts g.puts p.puts a;
            whole = now_written ∙ omega (arith, g.whole, ap length a, length-append (printed w start g.done) (w.prints s line));
            sized = omega (arith, g.sized, lines.size_one g.done line, split_long split);
            state = t ∙ sym (after_both g.done (line ∷ []) start ∙ rw (← g.state) (after_one s line));
            left =
                g.left
                ∙ ap (λ (ls : List (List ℕ)). g.done ++ answered w (length first.bytes.now - out.at) s ls) (lines.split_line split)
                ∙ rw (more, r, ← t) (sym (append_assoc g.done (line ∷ []) (answered w (length first.bytes.now - out'.at) s' (lines_of behind))));
          }

  -- no line is lost, and none is answered twice: those answered and those in what is left of the input are all its lines, in order
  pub none_lost : (room : ℕ) (s : S) (input : List ℕ)
      → answered w room s (lines_of input) ++ lines_of (drop (size_of (answered w room s (lines_of input))) input) ≡ lines_of input
  none_lost room s input =
      let b = begins room s (lines_of input) in
      rw (lines.after (answered w room s (lines_of input)) b.others input b.makes) (sym b.makes)
