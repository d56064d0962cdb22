-- `ascii::decimal::read_decimal` meets its contract. The loop's invariant: the bytes so far are the digits of n, and the others decide.
-- Assumes nothing.
use borrow.Author.Rules.{rules}
use native.Mathlib.Omega.{arith}
use borrow.Author.Tests.{eqb-true, eqb-false}
use mathlib.Core.Path.{◌≡◌, refl, sym, ◌∙◌}
use Prim.Native.Nat.{◌+◌, ◌*◌}
use Rattle.ascii.specs.Ascii.{zero_byte, nine_byte}
use Rattle.ascii.proofs.Bytes.{within_is}
use Rattle.ascii.proofs.Digits as digits
use Rattle.ascii.proofs.decimal.read_decimal.Goals as goal

pub returns-then-is_empty : goal.returns-then-is_empty
returns-then-is_empty c = sym (digits.empty _ (eqb-true _ _ (sym c.is_empty.ensures ∙ c.if-is_empty.true)))

pub loop-b-init : goal.loop-b-init
loop-b-init c = (search rules, digits.begins _ (eqb-false _ _ (sym c.is_empty.ensures ∙ c.if-is_empty.false)))

pub returns-then-not-is_digit : goal.returns-then-not-is_digit
returns-then-not-is_digit c =
    sym (c.loop-b.invariant.1 ∙ digits.no_digit _ _ _ c.loop-b-test.true (sym c.is_digit.ensures ∙ c.if-not-is_digit.true))

pub returns-in_err-checked_mul : goal.returns-in_err-checked_mul
returns-in_err-checked_mul c =
    c.from_residual.ensures
    ∙ sym (c.loop-b.invariant.1 ∙ digits.too_large _ _ _ c.loop-b-test.true (sym c.is_digit.ensures ∙ c.if-not-is_digit.false) _ refl (omega (arith, c.in_err-checked_mul.ensures)))

pub overflow_sub-b : goal.overflow_sub-b
overflow_sub-b c = (within_is zero_byte nine_byte _ (sym c.is_digit.ensures ∙ c.if-not-is_digit.false)).0

pub returns-in_err-n : goal.returns-in_err-n
returns-in_err-n c =
    c.from_residual-in_err-n.ensures
    ∙ sym (c.loop-b.invariant.1 ∙ digits.too_large _ _ _ c.loop-b-test.true (sym c.is_digit.ensures ∙ c.if-not-is_digit.false) _ c.from.ensures (omega (arith, c.in_ok-checked_mul.ensures, c.in_err-n.ensures)))

pub loop-b-preserved : goal.loop-b-preserved
loop-b-preserved c =
    let sum : c.in_ok-n.n ≡ c.loop-b.n * 10 + c.from.result = omega (arith, c.in_ok-checked_mul.ensures, c.in_ok-n.ensures) in
    (omega (arith, c.in_ok-n.ensures), c.loop-b.invariant.1 ∙ rw sum (digits.more _ _ _ c.loop-b-test.true (sym c.is_digit.ensures ∙ c.if-not-is_digit.false) _ c.from.ensures))

pub returns : goal.returns
returns c = sym (c.loop-b.invariant.1 ∙ digits.done _ _ _ c.loop-b-test.false c.loop-b.invariant.0)
