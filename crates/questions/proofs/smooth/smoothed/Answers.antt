-- `questions::smooth::smoothed` meets its contract. Assumes nothing.
use Rattle.std.proofs.Common.{sym, arith}
use Rattle.clock.specs.declared.Ending.TheVariants.{Ordinary, Inserted, Deleted}
use Rattle.clock.proofs.Uts.{uts_is, uts_early}
use Rattle.questions.proofs.smooth.smoothed.Goals as goal

pub returns-then-left-ge-SMOOTHING : goal.returns-then-left-ge-SMOOTHING
returns-then-left-ge-SMOOTHING c = sym (uts_early c.args.w c.args.t (omega arith))

pub returns-in-Ordinary : goal.returns-in-Ordinary
returns-in-Ordinary c = rw c.in-Ordinary.is (sym (uts_is Ordinary c.args.t))

pub returns-in-Inserted : goal.returns-in-Inserted
returns-in-Inserted c =
    rw (c.day_length.ensures, c.in-Inserted.is) (sym (uts_is Inserted c.args.t))

pub returns-in-Deleted : goal.returns-in-Deleted
returns-in-Deleted c =
    rw (c.day_length.ensures, c.in-Deleted.is) (sym (uts_is Deleted c.args.t))
