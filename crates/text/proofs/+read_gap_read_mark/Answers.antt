-- The proof of the cycle of calls {read_gap, read_mark}: each answer is the law of `read_from` (proofs/Laws.antt) for the tests that led there.
-- Assumes nothing.
use Rattle.std.proofs.Common.{Some, sym, ap, ◌∙◌, arith}
use Rattle.text.proofs.Laws as laws
use Rattle.text.proofs.+read_gap_read_mark.Goals as goal

pub read_mark-returns-then-at-bytes : goal.read_mark-returns-then-at-bytes
read_mark-returns-then-at-bytes t c s k = rw c.refused.ensures (laws.ends _ _ _ _ s (omega arith))

pub read_mark-returns-in_default : goal.read_mark-returns-in_default
read_mark-returns-in_default t c s k =
    rw c.refused-in_default.ensures (laws.unmarked _ _ _ _ s c.requires.0 c.if-at-bytes.false (sym c.mark_of.ensures ∙ c.in_default.is))

pub read_mark-returns-then-months-gt-LAST_MONTH : goal.read_mark-returns-then-months-gt-LAST_MONTH
read_mark-returns-then-months-gt-LAST_MONTH t c s k =
    rw c.refused-then-months-gt-LAST_MONTH.ensures
    (laws.late _ _ _ _ s c.requires.0 c.if-at-bytes.false _ (sym c.mark_of.ensures ∙ c.in-Some.is) c.if-months-gt-LAST_MONTH.true)

pub read_mark-returns-then-after-bytes : goal.read_mark-returns-then-after-bytes
read_mark-returns-then-after-bytes t c s k =
    rw c.refused-then-after-bytes.ensures
    (laws.follows _ _ _ _ s c.requires.0 c.if-at-bytes.false (sym c.mark_of.ensures ∙ (c.in-Some.is ∙ ap Some c.in-Expires.is)) c.if-months-gt-LAST_MONTH.false
    c.if-after-bytes.true)

pub read_mark-returns-then-count-ge-MAX_LEAPS : goal.read_mark-returns-then-count-ge-MAX_LEAPS
read_mark-returns-then-count-ge-MAX_LEAPS t c s k =
    rw c.refused-then-count-ge-MAX_LEAPS.ensures
    (laws.leap_full _ _ _ _ s c.requires.0 c.if-at-bytes.false _ (sym c.mark_of.ensures ∙ (c.in-Some.is ∙ ap Some c.in-Leaps.is)) c.if-months-gt-LAST_MONTH.false
    (omega (arith, k.its_count, c.if-count-ge-MAX_LEAPS.true)))

pub read_mark-returns-else-after-bytes : goal.read_mark-returns-else-after-bytes
read_mark-returns-else-after-bytes t c s k =
    laws.takes _ _ _ _ s c.requires.0 c.if-at-bytes.false (sym c.mark_of.ensures ∙ (c.in-Some.is ∙ ap Some c.in-Expires.is)) c.if-months-gt-LAST_MONTH.false
    c.if-after-bytes.false _ _ k _ c.expiry_at.ensures

pub read_mark-returns-else-count-ge-MAX_LEAPS : goal.read_mark-returns-else-count-ge-MAX_LEAPS
read_mark-returns-else-count-ge-MAX_LEAPS t c s k =
    laws.keeps _ _ _ _ s c.requires.0 c.if-at-bytes.false _ (sym c.mark_of.ensures ∙ (c.in-Some.is ∙ ap Some c.in-Leaps.is)) c.if-months-gt-LAST_MONTH.false _
    c.args.words.now c.if-count-ge-MAX_LEAPS.false k _ c.from.ensures c.read_gap.result _ c.read_gap.ensures
