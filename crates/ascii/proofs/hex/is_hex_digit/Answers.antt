-- `ascii::hex::is_hex_digit` meets its contract. Assumes nothing.
use mathlib.Core.Path.{◌∙◌}
use Rattle.ascii.specs.Ascii.{within}
use Rattle.ascii.proofs.Halves.{hex_digit_is}
use Rattle.ascii.proofs.hex.is_hex_digit.Goals as goal

pub returns : goal.returns
unfolding within
returns c = c.is_ascii_hexdigit.ensures.value ∙ hex_digit_is c.args.b
