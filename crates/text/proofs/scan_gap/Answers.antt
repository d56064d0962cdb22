-- `text::scan_gap` meets its contract. The loop's invariant: what is left of the bytes, with the gap so far, decides. Assumes nothing.
use native.Mathlib.Omega.{arith}
use mathlib.Core.Path.{◌≡◌, ◌∙◌, sym}
use lib.ListN.{length}
use Rattle.text.proofs.Follow.{leading_zero, fourth_digit, follows}
use Rattle.text.proofs.Laws as laws
use Rattle.text.proofs.scan_gap.Goals as goal

pub returns-then-gap-eq0 : goal.returns-then-gap-eq0
returns-then-gap-eq0 c t s = c.loop-at.invariant.1 t s ∙ laws.misplaced _ _ _ t s c.if-gap-eq0.true c.loop-at-test.true (sym c.if-not-is_digit.ensures)

pub returns-then-longer-eq0 : goal.returns-then-longer-eq0
returns-then-longer-eq0 c t s =
    let digit = sym c.if-not-is_digit.ensures in
    c.loop-at.invariant.1 t s ∙ laws.malformed _ _ _ t s c.loop-at-test.true digit (leading_zero _ _ digit (rw c.from.ensures at c.if-longer-eq0.true))

pub returns-then-longer-gt-MAX_GAP : goal.returns-then-longer-gt-MAX_GAP
returns-then-longer-gt-MAX_GAP c t s =
    let digit = sym c.if-not-is_digit.ensures in
    c.loop-at.invariant.1 t s ∙ laws.malformed _ _ _ t s c.loop-at-test.true digit (fourth_digit _ _ digit (rw c.from.ensures at c.if-longer-gt-MAX_GAP.true))

pub loop-at-preserved : goal.loop-at-preserved
loop-at-preserved c =
    let digit = sym c.if-not-is_digit.ensures in (
      c.if-longer-gt-MAX_GAP.false,
      λ t s. c.loop-at.invariant.1 t s
          ∙ rw c.from.ensures (laws.more _ _ _ t s c.loop-at-test.true digit
          (follows _ _ digit (rw c.from.ensures at c.if-longer-eq0.false) (rw c.from.ensures at c.if-longer-gt-MAX_GAP.false))),
    )

pub returns-then-gap-eq0-2 : goal.returns-then-gap-eq0-2
returns-then-gap-eq0-2 c t s =
    let end : c.loop-at.at ≡ length c.args.bytes.now = omega (arith, c.loop-at.auto.at-end c.requires) in
    c.loop-at.invariant.1 t s ∙ rw (← end) (laws.ends _ _ _ t s c.loop-at-test.false)
