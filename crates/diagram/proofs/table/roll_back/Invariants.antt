use Rattle.std.proofs.Common.{◌≡◌, ◌≤◌}
use Rattle.diagram.specs.Words.{Chained, stored}
use Rattle.diagram.proofs.table.roll_back.Given as goal

abbrev pub invariant-loop-k : goal.invariant-loop-k
invariant-loop-k l = Chained l.words l.k × (l.mark ≤ l.k) × (stored l.words l.mark ≡ stored l.initial.words l.mark)
