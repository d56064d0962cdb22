-- `ascii::decimal`'s `put_decimal` meets its contract: one digit, two, or two after the others. Assumes nothing.
use Rattle.std.proofs.Common.{◌≡◌, ◌/◌, ◌++◌, ◌∙◌, refl, arith}
use Rattle.ascii.specs.Decimal.{decimal, pair}
use Rattle.ascii.proofs.Digits.{small, two_digits, more_digits, decimal_short}
use Rattle.ascii.proofs.Putting.{one_put, two_puts, put_byte}
use Rattle.ascii.proofs.output.Output.+put_decimal.Goals as goal

pub returns-then-n-lt10 : goal.returns-then-n-lt10
returns-then-n-lt10 t c =
    record { puts = put_byte c.put.ensures c.digit.ensures (small _ c.if-n-lt10.true); short = decimal_short 19 c.args.n (omega (arith, c.ranges.n.fits)) }

pub returns-then-n-lt100 : goal.returns-then-n-lt100
returns-then-n-lt100 t c =
    record { puts = one_put c.put_pair.ensures (two_digits _ c.if-n-lt10.false c.if-n-lt100.true); short = decimal_short 19 c.args.n (omega (arith, c.ranges.n.fits)) }

pub returns-then-n-lt10000 : goal.returns-then-n-lt10000
returns-then-n-lt10000 t c =
    record {
      puts = two_puts c.put_decimal.ensures.puts c.put_pair-then-n-lt10000.ensures (more_digits _ c.if-n-lt100.false);
      short = decimal_short 19 c.args.n (omega (arith, c.ranges.n.fits));
    }

pub returns-else-n-lt10000 : goal.returns-else-n-lt10000
returns-else-n-lt10000 t c =
    let n = c.args.n in
    let tens : n / 100 / 100 ≡ n / 10_000 = omega arith in
    let four : decimal n ≡ (decimal (n / 10_000) ++ pair (n / 100)) ++ pair n = more_digits n (omega (arith, c.if-n-lt10000.false)) ∙ rw (more_digits (n / 100) (omega (arith, c.if-n-lt10000.false)), tens) in
    record {
      puts = two_puts (two_puts c.put_decimal-else-n-lt10000.ensures.puts c.put_pair-else-n-lt10000.ensures refl) c.put_pair-else-n-lt10000-2.ensures four;
      short = decimal_short 19 n (omega (arith, c.ranges.n.fits));
    }
