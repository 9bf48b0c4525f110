use Rattle.std.proofs.Common.{◌-◌}
use Rattle.diagram.specs.Combining.{first}
use Rattle.diagram.specs.Held.{store_of}
use Rattle.diagram.proofs.diagrams.Diagrams.+build_combined.Given as goal

abbrev pub decreases-build_combined : goal.decreases-build_combined
decreases-build_combined l = 48 - first (store_of l.self.now) l.a l.b
