-- `ascii::decimal::is_digit` meets its contract. Assumes nothing.
use Rattle.ascii.specs.Ascii.{within}
use Rattle.ascii.proofs.decimal.is_digit.Goals as goal

pub returns : goal.returns
unfolding within
returns c = c.is_ascii_digit.ensures.value
