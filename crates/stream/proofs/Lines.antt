-- The lines of an input: where the first of them ends, and that none is lost where an input comes in one buffer after another.
-- Assumes nothing.
use mathlib.Core.Path.{◌≡◌, refl, sym, ap, ◌∙◌}
use mathlib.Core.Bool.{false}
use mathlib.Core.List.{List, [], ◌∷◌, ◌++◌, append-nil, map}
use Prim.Native.Nat.{ℕ, zero, suc, ◌+◌, ◌≤◌, ◌<◌}
use native.Mathlib.Omega.{arith}
use native.Mathlib.Decide.{dec_le}
use lib.Dec.{eqb}
use lib.ListN.{length, take, drop, length-append, length-drop, drop_of_length-le}
use lib.Seq.{length-take-le, drop-drop, take-append-le, drop-append-le, take-append-add, drop-append-add}
use Rattle.ascii.specs.Parts.{first_part, parts, Split}
use Rattle.ascii.proofs.Cases.{by_bool}
use Rattle.ascii.proofs.Fields.{head_of, tail_of, first_and_rest}
use Rattle.ascii.proofs.Splitting.{last_part, more_parts}
use Rattle.ascii.specs.Lines.{newline}
use Rattle.stream.specs.Lines.{but_last, lines_of, size_of, rest}

pub first_inside : (mark : ℕ) (bytes : List ℕ) → length (first_part mark bytes) ≤ length bytes
unfolding first_part
first_inside mark [] = omega arith
first_inside mark (b ∷ bs) =
    let i = first_inside mark bs in
    by_bool (eqb b mark) (λ e. simp e (omega arith)) (λ e. simp e (omega arith))

-- a part before others is not the last one
pub not_last : (p : List ℕ) (mark : ℕ) (bytes : List ℕ) → but_last (p ∷ parts mark bytes) ≡ p ∷ but_last (parts mark bytes)
not_last p mark bytes =
    elim (dec_le (length bytes) (length (first_part mark bytes))) [
      | yes h ↦ rw (last_part mark bytes h)
      | no h ↦ rw (more_parts mark bytes (omega arith))
    ]

pub no_line_lem : (bytes : List ℕ) → length bytes ≤ length (first_part newline bytes) → lines_of bytes ≡ []
unfolding lines_of
no_line_lem bytes h = rw (last_part newline bytes h)

-- a line is what stands before the first LF, and the others are those of what stands behind it
pub split_line : {bytes line behind : List ℕ} → Split newline bytes line behind → lines_of bytes ≡ line ∷ lines_of behind
unfolding lines_of
split_line {bytes} {line} {behind} s = ap but_last (first_and_rest s) ∙ not_last line newline behind

pub first_line : (bytes : List ℕ) (n : ℕ) → n ≡ length (first_part newline bytes) → n < length bytes → lines_of bytes ≡ take n bytes ∷ lines_of (drop (n + 1) bytes)
unfolding lines_of
first_line bytes n e h = rw e (ap but_last (more_parts newline bytes (omega arith)) ∙ not_last (take (length (first_part newline bytes)) bytes) newline (drop (length (first_part newline bytes) + 1) bytes))

-- what comes after the first lines of an input are its other lines
pub after : (ls rest : List (List ℕ)) (input : List ℕ) → lines_of input ≡ ls ++ rest → lines_of (drop (size_of ls) input) ≡ rest
unfolding size_of
after [] rest input e = e
after (l ∷ ls) rest input e =
    elim (dec_le (length input) (length (first_part newline input))) [
      | yes h ↦ absurd (omega (arith, ap length (sym (no_line_lem input h) ∙ e)))
      | no h ↦
          let n = length (first_part newline input) in
          let cut : take n input ∷ lines_of (drop (n + 1) input) ≡ l ∷ (ls ++ rest) = sym (first_line input n refl (omega arith)) ∙ e in
          let long : length l ≡ n = ap length (sym (ap head_of cut)) ∙ length-take-le n input (omega arith) in
          let d : drop (size_of ls) (drop (n + 1) input) ≡ drop (n + 1 + size_of ls) input = drop-drop (size_of ls) (n + 1) input in
          rw (long, ← d) (after ls rest (drop (n + 1) input) (ap tail_of cut))
    ]

-- ---- where the first line ends, in an input that goes on

-- in the part that has an LF
ends_before : (mark : ℕ) (a b : List ℕ) → length (first_part mark a) < length a → length (first_part mark (a ++ b)) ≡ length (first_part mark a)
unfolding first_part
ends_before mark [] b h = absurd (omega arith)
ends_before mark (x ∷ a) b h =
    by_bool (eqb x mark) (λ e. simp e)
    (λ e. let g = simp e at h in let i = ends_before mark a b (omega arith) in simp e (omega arith))

-- or after the part that has none
pub ends_after : (mark : ℕ) (a b : List ℕ) → length a ≤ length (first_part mark a) → length (first_part mark (a ++ b)) ≡ length a + length (first_part mark b)
unfolding first_part
ends_after mark [] b h = omega arith
ends_after mark (x ∷ a) b h =
    by_bool (eqb x mark) (λ e. absurd (omega (arith, simp e at h)))
    (λ e. let g = simp e at h in let i = ends_after mark a b (omega arith) in simp e (omega arith))

-- the start of what has no LF has none
pub none_in_start : (mark k : ℕ) (a : List ℕ) → length a ≤ length (first_part mark a) → length (take k a) ≤ length (first_part mark (take k a))
unfolding first_part
none_in_start mark zero a h = omega arith
none_in_start mark (suc k) [] h = omega arith
none_in_start mark (suc k) (x ∷ a) h =
    by_bool (eqb x mark) (λ e. absurd (omega (arith, simp e at h)))
    (λ e. let g = simp e at h in let i = none_in_start mark k a (omega arith) in simp e (omega arith))

-- an input with no line has no LF
pub no_mark : (a : List ℕ) → lines_of a ≡ [] → length a ≤ length (first_part newline a)
no_mark a e =
    elim (dec_le (length a) (length (first_part newline a))) [
      | yes h ↦ h
      | no h ↦ absurd (omega (arith, ap length (sym (first_line a (length (first_part newline a)) refl (omega arith)) ∙ e)))
    ]

-- ---- two buffers

joined : (ls : List (List ℕ)) (a b : List ℕ) → lines_of a ≡ ls → lines_of (a ++ b) ≡ lines_of a ++ lines_of (rest a ++ b)
unfolding size_of
joined [] a b e = rw e
joined (l ∷ ls) a b e =
    elim (dec_le (length a) (length (first_part newline a))) [
      | yes h ↦ absurd (omega (arith, ap length (sym (no_line_lem a h) ∙ e)))
      | no h ↦
          let n = length (first_part newline a) in
          let inside : n < length a = omega arith in
          let left = drop (n + 1) a in
          let one : lines_of a ≡ take n a ∷ lines_of left = first_line a n refl inside in
          let long : length (take n a) ≡ n = length-take-le n a (omega arith) in
          let longer : n < length (a ++ b) = omega (arith, length-append a b) in
          let both : lines_of (a ++ b) ≡ take n (a ++ b) ∷ lines_of (drop (n + 1) (a ++ b))
          = first_line (a ++ b) n (sym (ends_before newline a b inside)) longer in
          let d : drop (size_of (lines_of left)) left ≡ drop (n + 1 + size_of (lines_of left)) a = drop-drop (size_of (lines_of left)) (n + 1) a in
          let others = joined ls left b (ap tail_of (sym one ∙ e)) in
          both
          ∙ rw (take-append-le n a b (omega arith), drop-append-le (n + 1) a b (omega arith), one, long, ← d)
          (ap (λ (xs : List (List ℕ)). take n a ∷ xs) others)
    ]

-- the first line of what a start without LF goes on to
pub first_of : (start b : List ℕ) → length start ≤ length (first_part newline start) → length (first_part newline b) < length b
    → lines_of (start ++ b) ≡ (start ++ take (length (first_part newline b)) b) ∷ lines_of (drop (length (first_part newline b) + 1) b)
first_of start b none h =
    let n = length (first_part newline b) in
    let inside : length start + n < length (start ++ b) = omega (arith, length-append start b) in
    let next : length start + n + 1 ≡ length start + (n + 1) = omega arith in
    first_line (start ++ b) (length start + n) (sym (ends_after newline start b none)) inside
    ∙ rw (next, take-append-add start b n, drop-append-add start b (n + 1))

-- no line is lost where an input comes in two buffers: its lines are those of the first, and then those of what is left of it with the second
pub cut_anywhere : (a b : List ℕ) → lines_of (a ++ b) ≡ lines_of a ++ lines_of (rest a ++ b)
cut_anywhere a b = joined (lines_of a) a b refl

-- ---- how many bytes lines are

pub size_one : (xs : List (List ℕ)) (l : List ℕ) → size_of (xs ++ (l ∷ [])) ≡ size_of xs + (length l + 1)
unfolding size_of
size_one [] l = omega arith
size_one (x ∷ xs) l = let i = size_one xs l in omega arith

size_both : (xs ys : List (List ℕ)) → size_of (xs ++ ys) ≡ size_of xs + size_of ys
unfolding size_of
size_both [] ys = omega arith
size_both (x ∷ xs) ys = let i = size_both xs ys in omega arith

-- the lines of an input are no longer than it
size_within : (ls : List (List ℕ)) (input : List ℕ) → lines_of input ≡ ls → size_of ls ≤ length input
unfolding size_of
size_within [] input e = omega arith
size_within (l ∷ ls) input e =
    elim (dec_le (length input) (length (first_part newline input))) [
      | yes h ↦ absurd (omega (arith, ap length (sym (no_line_lem input h) ∙ e)))
      | no h ↦
          let n = length (first_part newline input) in
          let cut : take n input ∷ lines_of (drop (n + 1) input) ≡ l ∷ ls = sym (first_line input n refl (omega arith)) ∙ e in
          let long : length l ≡ n = ap length (sym (ap head_of cut)) ∙ length-take-le n input (omega arith) in
          let i = size_within ls (drop (n + 1) input) (ap tail_of cut) in
          omega (arith, length-drop (n + 1) input)
    ]

-- ---- an input that ends where a line does

-- nothing is left of it after its lines
pub record EndsLine (a : List ℕ) : Type 0 where
  pub nothing_left : rest a ≡ []

module _ (a b : List ℕ) (e : EndsLine a) where
  -- its lines, and then those of what follows
  pub lines_both : lines_of (a ++ b) ≡ lines_of a ++ lines_of b
  lines_both = cut_anywhere a b ∙ rw e.nothing_left

  size_whole : size_of (lines_of a) ≡ length a
  size_whole = omega (arith, size_within (lines_of a) a refl, ap length e.nothing_left, length-drop (size_of (lines_of a)) a)

  -- what is left of both is what is left of what follows
  pub rest_both : rest (a ++ b) ≡ rest b
  rest_both = rw (lines_both, size_both (lines_of a) (lines_of b), size_whole) (drop-append-add a b (size_of (lines_of b)))

-- what is left after the first lines of an input is what is left of it after all of them
pub rest_after : (ls others : List (List ℕ)) (input : List ℕ) → lines_of input ≡ ls ++ others → rest (drop (size_of ls) input) ≡ rest input
rest_after ls others input e =
    rw (after ls others input e, e, size_both ls others) (drop-drop (size_of others) (size_of ls) input)

-- what is left has no line
pub rest_none : (input : List ℕ) → lines_of (rest input) ≡ []
rest_none input = after (lines_of input) [] input (sym (append-nil (lines_of input)))

-- what is left after the first lines of an input, in one that goes on
pub first_left : (ls others : List (List ℕ)) (input b : List ℕ) → lines_of input ≡ ls ++ others → drop (size_of ls) (input ++ b) ≡ drop (size_of ls) input ++ b
first_left ls others input b e = drop-append-le (size_of ls) input b (omega (arith, size_within (ls ++ others) input e, size_both ls others))

drop_all : (n : ℕ) (l : List ℕ) → length l ≤ n → drop n l ≡ []
drop_all n l h = drop_of_length-le l h

pub nothing : lines_of [] ≡ []
unfolding lines_of parts
nothing = refl

sized : (r x : List ℕ) {ls : List (List ℕ)} → ls ≡ [] → length x ≡ 0 → size_of ((r ++ x) ∷ ls) ≡ length r + 1
unfolding size_of
sized r x e z = rw e (omega (arith, length-append r x))

ends_at_once : length (first_part newline (newline ∷ [])) ≡ 0
unfolding first_part
ends_at_once = refl

-- an input that ends in LF ends where a line does
pub ends_line : (a : List ℕ) → EndsLine (a ++ (newline ∷ []))
ends_line a =
    let r = rest a in
    let none = no_mark r (rest_none a) in
    let one = first_of r (newline ∷ []) none (omega (arith, ends_at_once)) in
    let n : drop (length (first_part newline (newline ∷ [])) + 1) (newline ∷ []) ≡ [] = drop_all (length (first_part newline (newline ∷ [])) + 1) (newline ∷ []) (omega arith) in
    let all : lines_of (a ++ (newline ∷ [])) ≡ lines_of a ++ lines_of (r ++ (newline ∷ [])) = cut_anywhere a (newline ∷ []) in
    let within = size_within (lines_of a) a refl in
    let left = length-drop (size_of (lines_of a)) a in
    let lf : length (take (length (first_part newline (newline ∷ []))) (newline ∷ [])) ≡ 0 = rw ends_at_once in
    let size : size_of (lines_of (r ++ (newline ∷ []))) ≡ length r + 1
    = ap size_of one ∙ sized r _ (ap lines_of n ∙ nothing) lf in
    record {
      nothing_left =
          rw (all, size_both (lines_of a) (lines_of (r ++ (newline ∷ []))), size)
          (drop_all (size_of (lines_of a) + (length r + 1)) (a ++ (newline ∷ [])) (omega (arith, length-append a (newline ∷ []))));
    }

-- what is left of a start without LF that goes on: what is left after the first LF
pub rest_of : (start b : List ℕ) → length start ≤ length (first_part newline start) → length (first_part newline b) < length b
    → rest (start ++ b) ≡ rest (drop (length (first_part newline b) + 1) b)
unfolding size_of
rest_of start b none h =
    let n = length (first_part newline b) in
    let first = start ++ take n b in
    let long : length first ≡ length start + n = length-append start (take n b) ∙ ap (λ (m : ℕ). length start + m) (length-take-le n b (omega arith)) in
    let size : size_of (first ∷ []) ≡ length start + (n + 1) = omega (arith, long) in
    let d : drop (size_of (first ∷ [])) (start ++ b) ≡ drop (n + 1) b = rw size (drop-append-add start b (n + 1)) in
    sym (rest_after (first ∷ []) (lines_of (drop (n + 1) b)) (start ++ b) (first_of start b none h)) ∙ ap rest d

-- and where no LF follows, all of it
pub rest_all : (input : List ℕ) → lines_of input ≡ [] → rest input ≡ input
unfolding size_of
rest_all input e = rw e

-- ---- a line that is too long

-- two inputs that go on alike behind starts without LF of more bytes than a number: neither has a line, or each has a first line of more bytes than
-- it, and then both have the same lines and the same rest
pub data GoOnAlike (most : ℕ) (a c : List ℕ) : Type 0 where
  no_lines : lines_of a ≡ [] → lines_of c ≡ [] → GoOnAlike most a c
  long_first : (x y : List ℕ) (more : List (List ℕ)) → lines_of a ≡ x ∷ more → lines_of c ≡ y ∷ more → most < length x → most < length y → rest a ≡ rest c
      → GoOnAlike most a c

-- so does what is kept of a start, if that is more
pub kept_alike : (most k : ℕ) (start b : List ℕ) → lines_of start ≡ [] → most < k → k ≤ length start → GoOnAlike most (take k start ++ b) (start ++ b)
kept_alike most k start b e h g =
    let none = no_mark start e in
    let cut = take k start in
    let none_kept = none_in_start newline k start none in
    let kept : length cut ≡ k = length-take-le k start g in
    let n = length (first_part newline b) in
    elim (dec_le (length b) n) [
      | yes l ↦
          no_lines (no_line_lem (cut ++ b) (omega (arith, length-append cut b, ends_after newline cut b none_kept)))
          (no_line_lem (start ++ b) (omega (arith, length-append start b, ends_after newline start b none)))
      | no l ↦
          let inside : n < length b = omega arith in
          long_first (cut ++ take n b) (start ++ take n b) (lines_of (drop (n + 1) b)) (first_of cut b none_kept inside) (first_of start b none inside)
          (omega (arith, length-append cut (take n b))) (omega (arith, length-append start (take n b)))
          (rest_of cut b none_kept inside ∙ sym (rest_of start b none inside))
    ]

-- where lines of more bytes than a number all mean the same, no more than one byte above it has to be kept of the start of a line: whatever
-- follows, the lines mean the same
pub cut_alike : {A : Type 0} (f : List ℕ → A) (most : ℕ) → ((a b : List ℕ) → most < length a → most < length b → f a ≡ f b)
    → (start b : List ℕ) (k : ℕ) → lines_of start ≡ [] → most < k → k ≤ length start → map f (lines_of (take k start ++ b)) ≡ map f (lines_of (start ++ b))
cut_alike {A} f most alike start b k e h g = by_case (kept_alike most k start b e h g)
  where
    by_case : GoOnAlike most (take k start ++ b) (start ++ b) → map f (lines_of (take k start ++ b)) ≡ map f (lines_of (start ++ b))
    by_case (no_lines a c) = rw (a, c)
    by_case (long_first x y more a c l m r) = rw (a, c) (ap (λ (z : A). z ∷ map f more) (alike x y l m))

-- ---- a byte more

-- an LF ends the line that a start without LF is
pub one_line : (start : List ℕ) → lines_of start ≡ [] → lines_of (start ++ (newline ∷ [])) ≡ start ∷ []
unfolding first_part
one_line start e =
    let first = first_of start (newline ∷ []) (no_mark start e) (omega arith) in
    first ∙ rw (append-nil start, nothing)

-- and another byte does not
pub no_line_yet : (start : List ℕ) (b : ℕ) → lines_of start ≡ [] → eqb b newline ≡ false → lines_of (start ++ (b ∷ [])) ≡ []
unfolding first_part
no_line_yet start b e h =
    let one : length (first_part newline (b ∷ [])) ≡ 1 = simp h in
    no_line_lem (start ++ (b ∷ [])) (omega (arith, length-append start (b ∷ []), ends_after newline start (b ∷ []) (no_mark start e)))
