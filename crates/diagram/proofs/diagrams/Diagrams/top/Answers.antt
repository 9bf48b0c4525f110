use Rattle.std.proofs.Common.{sym, arith}
use Rattle.diagram.specs.Held.{store_of}
use Rattle.diagram.proofs.Standing.{below_fill, node_read}
use Rattle.diagram.proofs.Stands.{top_leaf}
use Rattle.diagram.proofs.diagrams.Diagrams.top.Goals as goal

pub bounds-self-r : goal.bounds-self-r
bounds-self-r c = omega (arith, below_fill c.args.self.now c.args.r c.requires, c.args.self.now.within)

pub returns-then-r-lt-LEAVES : goal.returns-then-r-lt-LEAVES
returns-then-r-lt-LEAVES c = sym (top_leaf (store_of c.args.self.now) c.args.r c.if-r-lt-LEAVES.true)

pub returns-else-r-lt-LEAVES : goal.returns-else-r-lt-LEAVES
returns-else-r-lt-LEAVES c = sym (node_read c.args.self.now c.args.r c.requires c.if-r-lt-LEAVES.false).pairs
