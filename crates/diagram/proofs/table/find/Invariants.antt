use Rattle.diagram.proofs.Chains.{Walk}
use Rattle.diagram.proofs.table.find.Given as goal

abbrev pub invariant-loop-k : goal.invariant-loop-k
invariant-loop-k l = Walk l.words l.fill l.b l.node l.at

abbrev pub decreases-loop-k : goal.decreases-loop-k
decreases-loop-k l = l.at
