-- `code::code_at` meets its contract. Assumes nothing.
use native.Mathlib.Omega.{arith}
use Rattle.nybbles.proofs.Codes as codes
use Rattle.nybbles.proofs.code.code_at.Goals as goal

-- a nybble below 8
pub returns-then-n-lt8 : goal.returns-then-n-lt8
returns-then-n-lt8 c =
    codes.next_single _ _ _ c.requires.1 c.nybble_at-n.ensures.0 c.if-n-lt8.true _ c.single_code.ensures

pub nybble_at-requires : goal.nybble_at-requires
nybble_at-requires c = omega (arith, codes.count c.args.bytes.now)

-- a nybble of 8 or more and the next
pub returns-then-next-bytes : goal.returns-then-next-bytes
returns-then-next-bytes c =
    let second = c.nybble_at.ensures in
    codes.next_wide _ _ _ c.requires.1 c.nybble_at-n.ensures.0 c.if-n-lt8.false
    (omega (arith, codes.count c.args.bytes.now)) _ second.0 second.1 _ c.wide_code.ensures

-- the last nybble, of 8 or more
pub returns : goal.returns
returns c =
    codes.next_lone _ _ _ c.requires.1 c.nybble_at-n.ensures.0 c.if-n-lt8.false (omega (arith, codes.count c.args.bytes.now)) _ c.wide_code-2.ensures
