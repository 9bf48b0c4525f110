use Rattle.diagram.proofs.Marks.{Linked}
use Rattle.diagram.proofs.sweep.link.Given as goal

abbrev pub invariant-loop-k : goal.invariant-loop-k
invariant-loop-k l = Linked l.initial.words l.words l.k
