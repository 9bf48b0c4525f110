use Rattle.diagram.proofs.Marks.{Packing}
use Rattle.diagram.proofs.sweep.pack.Given as goal

abbrev pub invariant-loop-k : goal.invariant-loop-k
invariant-loop-k l = Packing l.initial.words l.words l.k l.place
