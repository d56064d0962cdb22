-- Of the bytes `whole`, all but `rest` are put, and those are at most so many: what a loop that puts them goes by.
-- Assumes nothing.
use mathlib.Core.Path.{◌≡◌, refl, sym, ◌∙◌}
use mathlib.Core.List.{List, [], ◌++◌, append_assoc, append-nil}
use Prim.Native.Nat.{ℕ, ◌+◌, ◌≤◌}
use native.Mathlib.Omega.{arith}
use Rattle.ascii.specs.declared.output.Output.{Output}
use Rattle.ascii.specs.Output.{PutsUpTo}
use Rattle.ascii.proofs.Putting.{nothing, up_to, few}

pub record LeftUpTo (most : ℕ) (start out : Output) (whole rest : List ℕ) : Type 0 where
  pub done : List ℕ
  pub puts : PutsUpTo most start out done
  pub makes : done ++ rest ≡ whole

pub none_yet : (out : Output) {whole rest : List ℕ} → whole ≡ rest → LeftUpTo 0 out out whole rest
none_yet out e = record { done = []; puts = record { puts = nothing out; short = omega arith }; makes = sym e }

pub more : {most m n : ℕ} {start out out' : Output} {whole rest xs rest' : List ℕ} → LeftUpTo m start out whole rest → PutsUpTo n out out' xs
    → rest ≡ xs ++ rest' → m + n ≤ most → LeftUpTo most start out' whole rest'
more {xs = xs} {rest' = rest'} l p e h =
    record { done = l.done ++ xs; puts = up_to l.puts p refl h; makes = append_assoc l.done xs rest' ∙ rw (← e) l.makes }

-- the rest is put, or there is none
pub with_rest : {most m n : ℕ} {start out out' : Output} {whole rest : List ℕ} → LeftUpTo m start out whole rest → PutsUpTo n out out' rest → m + n ≤ most
    → PutsUpTo most start out' whole
with_rest l p h = up_to l.puts p (sym l.makes) h

pub all : {most m : ℕ} {start out : Output} {whole rest : List ℕ} → LeftUpTo m start out whole rest → rest ≡ [] → m ≤ most → PutsUpTo most start out whole
all l e h = few l.puts (sym l.makes ∙ rw e (append-nil l.done)) h
