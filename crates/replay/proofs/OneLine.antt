-- Each thing that a trace prints is one line, and the lines printed are the answers, in order. Assumes nothing.
use Prim.Native.Nat.{ℕ}
use mathlib.Core.Path.{◌≡◌, refl, sym, ap, ◌∙◌}
use mathlib.Core.List.{List, [], ◌∷◌, ◌++◌, append-nil, append_assoc}
use Rattle.ascii.specs.Decimal.{decimal}
use Rattle.ascii.specs.Lines.{newline, two_numbers}
use Rattle.ascii.specs.Parts.{parts}
use Rattle.ascii.specs.Refusal.{refusal}
use Rattle.ascii.proofs.Unbroken.{Unbroken, more, append, in_decimal, in_refusal, first_part_lem}
use Rattle.stream.specs.Lines.{but_last, lines_of, rest}
use Rattle.stream.specs.Stream.{printed}
use Rattle.stream.proofs.Lines as lines
use Rattle.replay.specs.Trace.{meaning}
use Rattle.replay.specs.Replay.{State, Reply, nothing, time, refuse, next, shown, replaying, unended, output}
use Rattle.replay.specs.Times.{replies, last_reply, replies_to}

-- what answers print, one after the other
unfoldable pub shown_all : List Reply → List ℕ
shown_all [] = []
shown_all (r ∷ rs) = shown r ++ shown_all rs

-- the lines of that, each without its LF: an answer is no line, or one
unfoldable pub texts : List Reply → List (List ℕ)
texts [] = []
texts (nothing ∷ rs) = texts rs
texts (time day u ∷ rs) = two_numbers day u ∷ texts rs
texts (refuse n ∷ rs) = refusal n ∷ texts rs

-- ---- the bytes of an answer: `day nanoseconds`, or `!` and the number, and LF

pub time_bytes : (day u : ℕ) → shown (time day u) ≡ decimal day ++ (32 ∷ (decimal u ++ (10 ∷ [])))
unfolding shown
time_bytes day u = append_assoc (decimal day) (32 ∷ decimal u) (10 ∷ [])

pub refusal_bytes : (n : ℕ) → shown (refuse n) ≡ 33 ∷ (decimal n ++ (10 ∷ []))
unfolding shown refusal
refusal_bytes n = refl

-- ---- a line for each answer that is not nothing

in_two : (a b : ℕ) → Unbroken (two_numbers a b)
in_two a b = append (decimal a) (in_decimal a) (more refl (in_decimal b))

module _ (text others : List ℕ) (u : Unbroken text) where
  first_line : lines_of ((text ++ (newline ∷ [])) ++ others) ≡ text ∷ lines_of others
  unfolding lines_of
  first_line =
      ap (λ (bytes : List ℕ). but_last (parts newline bytes)) (append_assoc text (newline ∷ []) others)
      ∙ ap but_last (first_part_lem text others u)
      ∙ lines.not_last text newline others

  rest_left : rest ((text ++ (newline ∷ [])) ++ others) ≡ rest others
  rest_left = lines.rest_both (text ++ (newline ∷ [])) others (lines.ends_line text)

pub lines_shown : (rs : List Reply) → (lines_of (shown_all rs) ≡ texts rs) × (rest (shown_all rs) ≡ [])
unfolding shown_all shown texts
lines_shown [] = (lines.nothing, lines.rest_all [] lines.nothing)
lines_shown (nothing ∷ rs) = lines_shown rs
lines_shown (time day v ∷ rs) =
    let i = lines_shown rs in
    (first_line (two_numbers day v) (shown_all rs) (in_two day v) ∙ rw i.0, rest_left (two_numbers day v) (shown_all rs) (in_two day v) ∙ i.1)
lines_shown (refuse n ∷ rs) =
    let i = lines_shown rs in
    (first_line (refusal n) (shown_all rs) (in_refusal n) ∙ rw i.0, rest_left (refusal n) (shown_all rs) (in_refusal n) ∙ i.1)

-- ---- what a trace prints

shown_both : (rs ts : List Reply) → shown_all (rs ++ ts) ≡ shown_all rs ++ shown_all ts
unfolding shown_all
shown_both [] ts = refl
shown_both (r ∷ rs) ts = rw (shown_both rs ts) (sym (append_assoc (shown r) (shown_all rs) (shown_all ts)))

printed_all : (ls : List (List ℕ)) (s : State) → printed replaying s ls ≡ shown_all (replies s ls)
unfolding printed shown_all replies
printed_all [] s = refl
printed_all (l ∷ ls) s = rw (printed_all ls (next s (meaning l)))

last_shown : (left : List ℕ) → unended left ≡ shown_all (last_reply left)
unfolding shown_all
last_shown [] = refl
last_shown (b ∷ bs) = sym (append-nil (shown (refuse 20)))

-- a trace prints its answers, in order
pub prints_answers : (s : State) (trace : List ℕ) → output s trace ≡ shown_all (replies_to s trace)
unfolding output replies_to
prints_answers s trace =
    rw (printed_all (lines_of trace) s, last_shown (rest trace)) (sym (shown_both (replies s (lines_of trace)) (last_reply (rest trace))))

-- so the lines printed are the answers that are not nothing, in order, one each; and each ends with LF
pub one_line_each : (s : State) (trace : List ℕ) → (lines_of (output s trace) ≡ texts (replies_to s trace)) × (rest (output s trace) ≡ [])
one_line_each s trace = rw (prints_answers s trace) (lines_shown (replies_to s trace))
