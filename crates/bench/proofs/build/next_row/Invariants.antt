use Rattle.diagram.specs.Held.{room_of, store_of}
use Rattle.bench.proofs.Rowing.{RowTurn}
use Rattle.bench.proofs.build.next_row.Given as goal

abbrev pub invariant-loop-c : goal.invariant-loop-c
invariant-loop-c l = RowTurn (room_of l.initial.diagrams) (store_of l.initial.diagrams) l.pair l.n l.initial.row (room_of l.diagrams) (store_of l.diagrams) l.c l.row
