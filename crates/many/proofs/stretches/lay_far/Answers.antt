-- `many::stretches::lay_far` meets its contract. Assumes nothing.
use Rattle.many.proofs.Preparing.{emptied}
use Rattle.many.proofs.stretches.lay_far.Goals as goal

pub returns : goal.returns
returns c = emptied c.args.prepared.now c.fill.new.self c.requires (c.fill.ensures.after (λ y e. e))
