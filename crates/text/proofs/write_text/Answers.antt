-- `text::write_text` meets its contract: the refusal that every writer gives, or 7, or the list. Assumes nothing.
use Rattle.std.proofs.Common.{rules, arith}
use mathlib.Core.Path.{ap, ◌∙◌}
use mathlib.Core.List.{List}
use Prim.Native.Nat.{ℕ, ◌≤◌}
use lib.ListN.{length}
use Rattle.schedule.specs.WordLayout.{meant}
use Rattle.schedule.proofs.Answers as answers
use Rattle.text.specs.Write.{text_of}
use Rattle.text.proofs.Longest.{at_most_752}
use Rattle.text.proofs.Room.{four_each}
use Rattle.text.proofs.Steps.{all_put}
use Rattle.text.proofs.write_text.Goals as goal
use Rattle.text.proofs.write_text.Goals.{else-out-most-via-then-out-most+else-out-text_len, else-out-most-via-else-out-most}

pub returns-in_err-can : goal.returns-in_err-can
returns-in_err-can c =
    let s = meant c.args.words.now in
    let e = answers.refused s (text_of s) c.args.out.now c.args.words.now c.in_err-can.ensures in
    search rules

pub returns-then-out-text_len : goal.returns-then-out-text_len
returns-then-out-text_len c =
    let can = answers.writable_lem (meant c.args.words.now) c.in_ok-can.ensures in
    answers.short _ _ _ can.0 can.1 _ (c.text_len.ensures ∙ ap (λ (ws : List ℕ). length (text_of (meant ws))) can.2) c.if-out-text_len.true

pub returns : goal.returns
returns c =
    let s = meant c.args.words.now in
    let can = answers.writable_lem s c.in_ok-can.ensures in
    let room : length (text_of s) ≤ length c.args.out.now
    = elim c.else-out-most.branch [
      | else-out-most-via-then-out-most+else-out-text_len w ↦ omega (arith, w.text_len.ensures, ap (λ (ws : List ℕ). length (text_of (meant ws))) can.2, w.if-out-text_len.false)
      | else-out-most-via-else-out-most w ↦
          omega (arith, four_each s, at_most_752 s can.0, ap (λ (ws : List ℕ). length (meant ws).leaps) can.2, c.count.ensures, c.min-most.ensures, w.if-out-most.false)
    ] in
    let all = all_put c.new-output.result c.put_text.new.out (rw can.2 at c.put_text.ensures) c.new-output.ensures.at_start c.new-output.ensures.same_bytes (search rules) room in
    answers.taken s (text_of s) _ can.0 can.1 _ all.0 (omega (arith, all.0, room)) _ all.1
