use Rattle.diagram.specs.Words.{bucket_at}
use Rattle.diagram.proofs.Chains.{entered_chained, entered_node}
use Rattle.diagram.proofs.table.enter.Goals as goal

pub returns-clause-chained : goal.returns-clause-chained
unfolding bucket_at
returns-clause-chained c = entered_chained c.args.words.now c.args.k c.args.b c.requires.chained c.requires.room c.requires.below c.requires.here

pub returns-clause-nodes : goal.returns-clause-nodes
unfolding bucket_at
returns-clause-nodes c = entered_node c.args.words.now c.args.k c.args.b c.requires.chained c.requires.room c.requires.below c.requires.here
