use Rattle.std.proofs.Common.{◌-◌}
use Rattle.diagram.specs.Held.{store_of}
use Rattle.diagram.specs.Store.{top}
use Rattle.diagram.proofs.diagrams.Diagrams.+build_closed.Given as goal

abbrev pub decreases-build_closed : goal.decreases-build_closed
decreases-build_closed l = 48 - top (store_of l.self.now) l.a
