use Rattle.diagram.proofs.Words.{stored_ext}
use Rattle.diagram.proofs.sweep.link.Goals as goal

pub returns-clause-stored : goal.returns-clause-stored
returns-clause-stored c = stored_ext _ _ c.args.fill (λ k h. c.loop-k.invariant.nodes k)
