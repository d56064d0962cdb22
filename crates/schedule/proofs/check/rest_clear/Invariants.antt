use Rattle.std.proofs.Common.{◌+◌, ◌*◌}
use Rattle.schedule.specs.WordLayout.{count_word}
use Rattle.schedule.proofs.Clear.{Together}
use Rattle.schedule.proofs.check.rest_clear.Given as goal

abbrev pub invariant-loop-word : goal.invariant-loop-word
invariant-loop-word l = Together l.words (2 * count_word l.words) (2 * count_word l.words + l.word-index) l.rest
