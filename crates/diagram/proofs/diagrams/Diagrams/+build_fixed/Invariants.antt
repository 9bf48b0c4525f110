use Rattle.std.proofs.Common.{◌-◌}
use Rattle.diagram.specs.Held.{store_of}
use Rattle.diagram.specs.Store.{top}
use Rattle.diagram.proofs.diagrams.Diagrams.+build_fixed.Given as goal

abbrev pub decreases-build_fixed : goal.decreases-build_fixed
decreases-build_fixed l = 48 - top (store_of l.self.now) l.a
