use Rattle.diagram.proofs.Marks.{Wiped}
use Rattle.diagram.proofs.sweep.wipe.Given as goal

abbrev pub invariant-loop-k : goal.invariant-loop-k
invariant-loop-k l = Wiped l.initial.words l.words l.k
