use Rattle.diagram.specs.Held.{room_of, store_of}
use Rattle.bench.proofs.Counting.{RowsTurn}
use Rattle.bench.proofs.build.rows.Given as goal

abbrev pub invariant-loop-j : goal.invariant-loop-j
invariant-loop-j l = RowsTurn (room_of l.initial.diagrams) (store_of l.initial.diagrams) l.span.start l.span.count l.initial.row (room_of l.diagrams) (store_of l.diagrams) l.j l.row
