-- What leap_replay hands over, by the room of the output. Assumes nothing.
use Prim.Native.Nat.{ℕ, ◌≤◌, ◌<◌}
use mathlib.Core.Path.{◌≡◌, ap, ◌∙◌}
use mathlib.Core.List.{List, [], ◌∷◌}
use Rattle.std.proofs.Common.{rules}
use native.Mathlib.Omega.{arith}
use lib.ListN.{length}
use borrow.Author.Tests.{lt-ltb, le-ltb}
use Rattle.ascii.specs.Output.{filled}
use Rattle.stream.specs.Lines.{lines_of, size_of}
use Rattle.stream.specs.Stream.{printed, after, answered}
use Rattle.stream.proofs.Streams.{one_more}
use Rattle.replay.specs.Replay.{State, replaying}
use Rattle.replay.proofs.Runs.{no_room}
use Rattle.leap.specs.Calls.{HandsReplay}

nothing_filled : (out : List ℕ) → filled [] out ≡ out
unfolding filled
nothing_filled out = search rules

module _ {s s' : State} {trace before after' : List ℕ} {n used written : ℕ} (h : HandsReplay s trace before n s' after' used written) where
  -- with room for less than 22 bytes a call returns 7, and nothing is used, nothing written and no word of the state changed
  pub short_room : length before < 22 → (n ≡ 7) × (used ≡ 0) × (written ≡ 0) × (after' ≡ before) × (s' ≡ s)
  unfolding printed after size_of
  short_room g =
      let none = no_room (length before) s (lines_of trace) g in
      let l = rw none at h.its_lines in
      (h.its_number ∙ rw (lt-ltb (length before) 22 g), l.used, l.written, l.holds ∙ nothing_filled before, l.state)

  -- with 22 bytes or more it returns 0
  pub enough_room : 22 ≤ length before → n ≡ 0
  enough_room g = h.its_number ∙ rw (le-ltb (length before) 22 g)

  -- and uses at least one line, if one is complete: so a caller who calls until nothing is used comes to an end
  pub goes_on : 22 ≤ length before → {l : List ℕ} {ls : List (List ℕ)} → lines_of trace ≡ l ∷ ls → 0 < used
  unfolding size_of
  goes_on g {l} {ls} e =
      let is : used ≡ size_of (answered replaying (length before) s (l ∷ ls)) = rw e at h.its_lines.used in
      omega (arith, is, ap size_of (one_more replaying (length before) s l ls g))
