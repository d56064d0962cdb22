-- `compare::texts::read_list` meets its contract: the refusal's number is handed on. Assumes nothing.
use Rattle.std.proofs.Common.{rules}
use Rattle.compare.proofs.TwoTexts.{text_refused}
use Rattle.compare.proofs.texts.read_list.Goals as goal

pub returns-in_err-read_text : goal.returns-in_err-read_text
returns-in_err-read_text c = let e = text_refused _ c.in_err-read_text.ensures in search rules
