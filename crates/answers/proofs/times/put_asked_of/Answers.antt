-- `answers::times::put_asked_of` meets its contract: the values of each question, or its refusal. Assumes nothing.
use native.Mathlib.Omega.{arith}
use borrow.Author.Rules.{rules}
use mathlib.Core.Path.{◌≡◌, sym, ap, ◌∙◌}
use mir.Syntax.{w32}
use mir.Val.{to_z, of_z}
use mir.ValLaws.{to_z-of_z}
use Rattle.ascii.specs.Decimal.{decimal, signed}
use Rattle.ascii.proofs.Putting.{few}
use Rattle.clock.specs.Question.{ask_tai_to_utc}
use Rattle.answers.specs.Times.{values_of, asked_of}
use Rattle.answers.proofs.Told.{told_given, told_refused}
use Rattle.answers.proofs.times.put_asked_of.Goals as goal

pub returns-in_err-dtai-in-Dtai : goal.returns-in_err-dtai-in-Dtai
unfolding asked_of
returns-in_err-dtai-in-Dtai c = told_refused signed (rw c.in-Dtai.is) _ _ _ _ c.from_residual.ensures.1 c.in_err-dtai-in-Dtai.ensures

pub returns-in_ok-dtai-in-Dtai : goal.returns-in_ok-dtai-in-Dtai
unfolding asked_of
returns-in_ok-dtai-in-Dtai c =
    let z = c.in_ok-dtai-in-Dtai.field-0 in
    let same : to_z w32 (of_z w32 z) ≡ z = to_z-of_z w32 z (search rules) in
    few c.put_signed.ensures (told_given signed (rw c.in-Dtai.is) c.in_ok-dtai-in-Dtai.ensures ∙ sym (ap signed same)) (omega arith)

pub returns-in_err-utc_to_tai-in-Tai : goal.returns-in_err-utc_to_tai-in-Tai
unfolding asked_of
returns-in_err-utc_to_tai-in-Tai c = told_refused decimal (rw c.in-Tai.is) _ _ _ _ c.from_residual-in_err-utc_to_tai-in-Tai.ensures.1 c.in_err-utc_to_tai-in-Tai.ensures

pub returns-in_ok-utc_to_tai-in-Tai : goal.returns-in_ok-utc_to_tai-in-Tai
unfolding asked_of
returns-in_ok-utc_to_tai-in-Tai c = few c.put_decimal.ensures (told_given decimal (rw c.in-Tai.is) c.in_ok-utc_to_tai-in-Tai.ensures) (omega arith)

pub returns-in_err-utc-in-Utc : goal.returns-in_err-utc-in-Utc
unfolding asked_of
returns-in_err-utc-in-Utc c = told_refused (values_of (ask_tai_to_utc c.in-Utc.x.0)) (rw c.in-Utc.is) _ _ _ _ c.from_residual-in_err-utc-in-Utc.ensures.1 c.in_err-utc-in-Utc.ensures

pub returns-in_ok-utc-in-Utc : goal.returns-in_ok-utc-in-Utc
unfolding asked_of
returns-in_ok-utc-in-Utc c = few c.put_two_numbers.ensures (told_given (values_of (ask_tai_to_utc c.in-Utc.x.0)) (rw c.in-Utc.is) c.in_ok-utc-in-Utc.ensures) (omega arith)

pub returns-in_err-utc_to_uts-in-Uts : goal.returns-in_err-utc_to_uts-in-Uts
unfolding asked_of
returns-in_err-utc_to_uts-in-Uts c = told_refused decimal (rw c.in-Uts.is) _ _ _ _ c.from_residual-in_err-utc_to_uts-in-Uts.ensures.1 c.in_err-utc_to_uts-in-Uts.ensures

pub returns-in_ok-utc_to_uts-in-Uts : goal.returns-in_ok-utc_to_uts-in-Uts
unfolding asked_of
returns-in_ok-utc_to_uts-in-Uts c = few c.put_decimal-in-Uts.ensures (told_given decimal (rw c.in-Uts.is) c.in_ok-utc_to_uts-in-Uts.ensures) (omega arith)

pub returns-in_err-uts_to_utc-in-Unsmooth : goal.returns-in_err-uts_to_utc-in-Unsmooth
unfolding asked_of
returns-in_err-uts_to_utc-in-Unsmooth c = told_refused decimal (rw c.in-Unsmooth.is) _ _ _ _ c.from_residual-in_err-uts_to_utc-in-Unsmooth.ensures.1 c.in_err-uts_to_utc-in-Unsmooth.ensures

pub returns-in_ok-uts_to_utc-in-Unsmooth : goal.returns-in_ok-uts_to_utc-in-Unsmooth
unfolding asked_of
returns-in_ok-uts_to_utc-in-Unsmooth c = few c.put_decimal-in-Unsmooth.ensures (told_given decimal (rw c.in-Unsmooth.is) c.in_ok-uts_to_utc-in-Unsmooth.ensures) (omega arith)
