-- `read_nybbles` meets its contract. The loop's invariant: the words have the schedule so far, and reading on gives the answer. Assumes nothing.
use native.Mathlib.Omega.{arith}
use Rattle.nybbles.proofs.Codes as codes
use Rattle.nybbles.proofs.Reading as reading
use Rattle.nybbles.proofs.read_nybbles.Goals as goal

pub loop-at-init : goal.loop-at-init
loop-at-init c = reading.begins _

pub code_at-c-requires : goal.code_at-c-requires
code_at-c-requires c =
    let inv = c.loop-at.invariant in
    (omega (arith, inv.short, inv.total_fits), omega (arith, codes.count c.args.bytes.now))

-- a code that is refused
pub returns-in-Err : goal.returns-in-Err
returns-in-Err c = reading.refuses _ _ _ _ c.loop-at.invariant _ c.code_at-c.ensures _ c.in-Err.ensures c.refuse.ensures

-- a nybble after the expiry
pub returns-then-at-bytes : goal.returns-then-at-bytes
returns-then-at-bytes c =
    reading.refuses_more _ _ _ _ c.loop-at.invariant _ c.code_at-c.ensures c.in_default.ensures _ _ c.after-p.ensures c.in-Expires.is
    (omega (arith, codes.count c.args.bytes.now, c.if-at-bytes.true)) c.refuse-then-at-bytes.ensures

-- the expiry and no nybble after it
pub returns-in-Expires : goal.returns-in-Expires
returns-in-Expires c =
    reading.accepts _ _ _ _ c.loop-at.invariant _ c.code_at-c.ensures c.in_default.ensures _ _ c.after-p.ensures c.in-Expires.is
    (omega (arith, codes.count c.args.bytes.now, c.if-at-bytes.false)) _ c.expiry_at.ensures

pub loop-at-preserved : goal.loop-at-preserved
loop-at-preserved c =
    reading.reads_on _ _ _ _ c.loop-at.invariant _ c.code_at-c.ensures c.in_default.ensures _ _ c.after-p.ensures c.in_default-mark.not-Expires

-- no nybble left
pub returns : goal.returns
returns c = reading.ends_early_lem _ _ _ _ c.loop-at.invariant (omega (arith, codes.count c.args.bytes.now)) c.refuse-2.ensures
