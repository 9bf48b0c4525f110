use Rattle.diagram.proofs.Marks.{Rooted}
use Rattle.diagram.proofs.sweep.mark_roots.Given as goal

abbrev pub invariant-loop-r : goal.invariant-loop-r
invariant-loop-r l = Rooted l.initial.words l.fill l.roots l.words l.r-index
