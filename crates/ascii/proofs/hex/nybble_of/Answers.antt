-- `ascii::hex::nybble_of` meets its contract: the byte is a digit, a letter of either case, or none of these. Assumes nothing.
use native.Mathlib.Omega.{arith}
use mathlib.Core.Path.{sym}
use Rattle.std.proofs.Common.{inl, inr}
use Rattle.ascii.proofs.Halves.{digit_nybble, low_nybble, high_nybble, no_nybble}
use Rattle.ascii.proofs.hex.nybble_of.Goals as goal

pub returns-in-48-to-57 : goal.returns-in-48-to-57
returns-in-48-to-57 c = (sym (digit_nybble c.args.b (omega arith) (omega arith)), omega arith)

pub returns-in-97-to-102 : goal.returns-in-97-to-102
returns-in-97-to-102 c = (sym (low_nybble c.args.b (omega arith) (omega arith)), omega arith)

pub returns-in-65-to-70 : goal.returns-in-65-to-70
returns-in-65-to-70 c = (sym (high_nybble c.args.b (omega arith) (omega arith)), omega arith)

pub returns-in_default : goal.returns-in_default
returns-in_default c = (sym (no_nybble c.args.b (inl (omega arith)) (inl (omega arith)) (inl (omega arith))), omega arith)

pub returns-in_default-2 : goal.returns-in_default-2
returns-in_default-2 c = (sym (no_nybble c.args.b (inr (omega arith)) (inl (omega arith)) (inl (omega arith))), omega arith)

pub returns-in_default-3 : goal.returns-in_default-3
returns-in_default-3 c = (sym (no_nybble c.args.b (inr (omega arith)) (inr (omega arith)) (inl (omega arith))), omega arith)

pub returns-in_default-4 : goal.returns-in_default-4
returns-in_default-4 c = (sym (no_nybble c.args.b (inr (omega arith)) (inr (omega arith)) (inr (omega arith))), omega arith)
