-- Putting bytes and then others is putting both; and what is put from the start of an output fills it.
-- Assumes nothing.
use mathlib.Core.Path.{◌≡◌, refl, sym, ap, ◌∙◌}
use mathlib.Core.List.{List, [], ◌∷◌, ◌++◌, append-nil, append_assoc}
use Prim.Native.Nat.{ℕ, suc, ◌+◌, ◌*◌, ◌≤◌}
use native.Mathlib.Nat.{add-zero, zero-add, add-suc, suc-add}
use native.Mathlib.Omega.{arith}
use native.Mathlib.Decide.{dec_le}
use lib.ListN.{length, take, drop, set, length-append, drop_of_length-le, take-append-drop}
use lib.Seq.{sets, length-sets, sets-eq, set_out, take_all, length-take-le, take-append_seam}
use Rattle.ascii.specs.declared.output.Output.{Output}
use Rattle.ascii.specs.Output.{Puts, PutsUpTo, filled, Held}

-- past the end nothing is stored
sets_out : (xs l : List ℕ) (i : ℕ) → length l ≤ i → sets l i xs ≡ l
sets_out [] l i h = refl
sets_out (x ∷ xs) l i h = rw (set_out l i x) (sets_out xs l (suc i) (omega arith))

sets_append : (xs ys l : List ℕ) (i : ℕ) → sets l i (xs ++ ys) ≡ sets (sets l i xs) (i + length xs) ys
sets_append [] ys l i = rw add-zero
sets_append (x ∷ xs) ys l i = rw (add-suc, ← suc-add) (sets_append xs ys (set l i x) (suc i))

-- nothing is put
pub nothing : (out : Output) → Puts out out []
nothing out = record { same_buffer = refl; same_lines = refl; stored = refl; next = omega arith }

-- an output keeps its length
pub same_long : {out out' : Output} {bytes : List ℕ} → Puts out out' bytes → length out'.bytes.now ≡ length out.bytes.now
same_long {out} {out'} {bytes} p = ap length p.stored ∙ length-sets out.bytes.now out.at bytes

-- bytes, and then others
pub both : {out out' out'' : Output} {xs ys : List ℕ} → Puts out out' xs → Puts out' out'' ys → Puts out out'' (xs ++ ys)
both {out} {out'} {out''} {xs} {ys} p q = record {
  same_buffer = q.same_buffer ∙ p.same_buffer;
  same_lines = q.same_lines ∙ p.same_lines;
  stored = stored;
  next = omega (arith, p.next, q.next, same_long p, length-append xs ys);
}
  where
    stored : out''.bytes.now ≡ sets out.bytes.now out.at (xs ++ ys)
    stored =
        let was = out.bytes.now in
        let first = out'.bytes.now in
        elim (dec_le (out.at + length xs) (length was)) [
          | yes l ↦
              let e : out'.at ≡ out.at + length xs = omega (arith, p.next) in
              q.stored ∙ rw (p.stored, e) (sym (sets_append xs ys was out.at))
          | no l ↦
              q.stored
              ∙ sets_out ys first out'.at (omega (arith, p.next, same_long p))
              ∙ sym (rw (sets_append xs ys was out.at, ← p.stored) (sets_out ys first (out.at + length xs) (omega (arith, same_long p))))
        ]

-- stores from the start of a list
fills : (bytes out : List ℕ) → sets out 0 bytes ≡ filled bytes out
unfolding filled
fills bytes out =
    elim (dec_le (length bytes) (length out)) [
      | yes l ↦ sets-eq bytes out 0 (omega arith) ∙ rw (take_all (length out) bytes l, zero-add)
      | no l ↦
          let cap = length out in
          let cut : length (take cap bytes) ≡ cap = length-take-le cap bytes (omega arith) in
          ap (sets out 0) (sym (take-append-drop cap bytes))
          ∙ sets_append (take cap bytes) (drop cap bytes) out 0
          ∙ sets_out (drop cap bytes) (sets out 0 (take cap bytes)) (0 + length (take cap bytes)) (omega (arith, cut, length-sets out 0 (take cap bytes)))
          ∙ sets-eq (take cap bytes) out 0 (omega arith)
          ∙ rw (drop_of_length-le out {i = 0 + length (take cap bytes)} (omega arith), drop_of_length-le out {i = length bytes} (omega arith))
    ]

-- what is put from the start of an output: where it ends, and what the output then holds
pub from_start_lem : {out out' : Output} {bytes : List ℕ} → Puts out out' bytes → out.at ≡ 0 → Held bytes out.bytes.now out'.bytes.now out'.at
from_start_lem {out} {out'} {bytes} p e = record {
  count = omega (arith, p.next, e);
  holds = p.stored ∙ rw e (fills bytes out.bytes.now);
}

-- what a caller's bytes hold after an output over them from their start: `before` and `after` are the bytes, and `written` the output's place
pub held : {out out' : Output} {bytes before after : List ℕ} {written : ℕ} → Puts out out' bytes → out.at ≡ 0 → out.bytes.now ≡ before → after ≡ out'.bytes.now
    → written ≡ out'.at → Held bytes before after written
held p start same now place = rw (now, place, ← same) (from_start_lem p start)

-- an output with room for all that is put from its start holds it
pub whole : {bytes out out' : List ℕ} {written : ℕ} → Held bytes out out' written → length bytes ≤ length out → (written ≡ length bytes) × (take written out' ≡ bytes)
unfolding filled
whole {bytes} {out} {out'} {written} p h =
    let n : written ≡ length bytes = omega (arith, p.count) in
    let e : out' ≡ bytes ++ drop (length bytes) out = p.holds ∙ rw (take_all (length out) bytes h) in
    (n, rw (e, n) (take-append_seam bytes (drop (length bytes) out)))

-- of the bytes `whole`, all but `rest` are put: what a loop that puts them goes by
pub record Left (first out : Output) (whole rest : List ℕ) : Type 0 where
  pub done : List ℕ
  pub puts : Puts first out done
  pub makes : done ++ rest ≡ whole

pub start : (out : Output) (whole : List ℕ) → Left out out whole whole
start out whole = record { done = []; puts = nothing out; makes = refl }

pub step : {first out out' : Output} {whole rest xs rest' : List ℕ} → Left first out whole rest → Puts out out' xs → rest ≡ xs ++ rest' → Left first out' whole rest'
step {xs = xs} {rest' = rest'} l p e =
    record { done = l.done ++ xs; puts = both l.puts p; makes = append_assoc l.done xs rest' ∙ rw (← e) l.makes }

pub end : {first out : Output} {whole rest : List ℕ} → Left first out whole rest → rest ≡ [] → Puts first out whole
end {first} {out} {whole} l e =
    let all : l.done ≡ whole = sym (append-nil l.done) ∙ rw (← e) l.makes in
    rw all at l.puts

-- what is put, by another name
pub one_put : {out out' : Output} {xs bytes : List ℕ} → Puts out out' xs → bytes ≡ xs → Puts out out' bytes
one_put p e = rw e p

pub two_puts : {out out' out'' : Output} {xs ys bytes : List ℕ} → Puts out out' xs → Puts out' out'' ys → bytes ≡ xs ++ ys → Puts out out'' bytes
two_puts p q e = rw e (both p q)

-- a byte that is x is put
pub put_byte : {out out' : Output} {bytes : List ℕ} {b x : ℕ} → Puts out out' (b ∷ []) → b ≡ x → bytes ≡ x ∷ [] → Puts out out' bytes
put_byte p e f = rw (f, ← e) p

-- two bytes that are x and y
pub both_bytes : {out out' : Output} {b c x y : ℕ} → Puts out out' (b ∷ c ∷ []) → b ≡ x → c ≡ y → Puts out out' (x ∷ y ∷ [])
both_bytes p e f = rw (← e, ← f) p

-- a byte whose halves are x and y
pub put_pair_of : {out out' : Output} {a b x y : ℕ} → Puts out out' ((a * 16 + b) ∷ []) → a ≡ x → b ≡ y → Puts out out' ((x * 16 + y) ∷ [])
put_pair_of p e f = rw (← e, ← f) p

-- bytes of which there are few, and then others
pub up_to : {most m n : ℕ} {out out' out'' : Output} {xs ys bytes : List ℕ} → PutsUpTo m out out' xs → PutsUpTo n out' out'' ys → bytes ≡ xs ++ ys → m + n ≤ most
    → PutsUpTo most out out'' bytes
up_to {xs = xs} {ys = ys} p q e h =
    record { puts = two_puts p.puts q.puts e; short = rw e (omega (arith, p.short, q.short, length-append xs ys)) }

-- few bytes, by another name and another bound
pub few : {most m : ℕ} {out out' : Output} {xs bytes : List ℕ} → PutsUpTo m out out' xs → bytes ≡ xs → m ≤ most → PutsUpTo most out out' bytes
few p e h = record { puts = one_put p.puts e; short = rw e (omega (arith, p.short)) }

-- a byte is few bytes
pub a_byte : {out out' : Output} {b : ℕ} → Puts out out' (b ∷ []) → PutsUpTo 1 out out' (b ∷ [])
a_byte p = record { puts = p; short = omega arith }

-- a text of which the length is known, by another name
pub text_put : {most : ℕ} {out out' : Output} {xs bytes : List ℕ} → Puts out out' xs → bytes ≡ xs → length xs ≤ most → PutsUpTo most out out' bytes
text_put p e h = record { puts = one_put p e; short = rw e h }
