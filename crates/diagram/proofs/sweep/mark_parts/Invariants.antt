use Rattle.diagram.proofs.Marks.{Parted}
use Rattle.diagram.proofs.sweep.mark_parts.Given as goal

abbrev pub invariant-loop-k : goal.invariant-loop-k
invariant-loop-k l = Parted l.initial.words l.fill l.words l.k
