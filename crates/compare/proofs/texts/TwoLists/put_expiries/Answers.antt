-- `compare::lines`' `put_expiries` meets its contract: an expiry has at most six digits. Assumes nothing.
use Rattle.std.proofs.Common.{ℕ, ◌≤◌, ◌∷◌, arith, refl, sym, eq-eqb, ne_eqb, ◌∙◌, append_assoc, length-append}
use Rattle.schedule.specs.WordLayout.{meant}
use Rattle.schedule.proofs.Gaps.{parts}
use Rattle.ascii.proofs.Putting.{nothing, up_to, text_put}
use Rattle.ascii.specs.Output.{Puts, PutsUpTo}
use Rattle.ascii.specs.Decimal.{decimal}
use Rattle.ascii.specs.Lines.{two_numbers}
use Rattle.ascii.specs.declared.output.Output.{Output}
use Rattle.ascii.proofs.Digits.{decimal_short}
use Rattle.compare.specs.Private.{expiry_bytes}
use Rattle.compare.proofs.texts.TwoLists.put_expiries.Goals as goal

-- two numbers of at most six digits
six_digits : {out out' : Output} {x y : ℕ} → Puts out out' (two_numbers x y) → x ≤ 999_999 → y ≤ 999_999 → PutsUpTo 13 out out' (two_numbers x y)
six_digits {x = x} {y = y} p h g = record { puts = p; short = omega (arith, length-append (decimal x) (32 ∷ decimal y), decimal_short 5 x (omega (arith, h)), decimal_short 5 y (omega (arith, g))) }

pub returns-then-first-second : goal.returns-then-first-second
unfolding expiry_bytes
returns-then-first-second c =
    rw (eq-eqb _ _ (sym c.expiry-first.ensures ∙ c.if-first-second.true ∙ c.expiry-second.ensures)) (record { puts = nothing _; short = omega arith })

pub returns : goal.returns
unfolding expiry_bytes
returns c =
    let x = c.from.ensures ∙ c.expiry-first.ensures in
    let y = c.from-2.ensures ∙ c.expiry-second.ensures in
    let lines = c.put_two_numbers.ensures.puts.same_lines ∙ c.put_all.ensures.same_lines in
    let p = (parts (meant c.args.self.first.words.now) c.args.self.first.formed).end in
    let q = (parts (meant c.args.self.second.words.now) c.args.self.second.formed).end in
    let numbers = six_digits c.put_two_numbers.ensures.puts (omega (arith, x, p)) (omega (arith, y, q)) in
    rw (← c.expiry-first.ensures, ← c.expiry-second.ensures, ne_eqb _ _ c.if-first-second.false)
    (up_to {m = 2} (text_put c.put_all.ensures refl (omega arith)) (up_to {most = 15} numbers c.put_between.ensures refl (omega arith))
    (rw (c.from.ensures, c.from-2.ensures, lines) (simp append_assoc)) (omega arith))
