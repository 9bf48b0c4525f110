use Rattle.bench.proofs.Chaining.{Turn}
use Rattle.diagram.specs.Held.{room_of, store_of}
use Rattle.bench.proofs.build.chain.Given as goal

abbrev pub invariant-loop-j : goal.invariant-loop-j
invariant-loop-j l = Turn (room_of l.initial.diagrams) (store_of l.initial.diagrams) l.first l.end l.low l.high (room_of l.diagrams) (store_of l.diagrams) l.j l.r
