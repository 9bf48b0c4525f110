use Rattle.std.proofs.Common.{◌≡◌, ◌-◌, ◌<◌}
use Rattle.diagram.specs.Calls.{asked}
use Rattle.diagram.specs.Held.{seen_in}
use Rattle.diagram.specs.Store.{top, eval, mark}
use Rattle.diagram.proofs.view.View.leaf.Given as goal

abbrev pub invariant-loop-r : goal.invariant-loop-r
invariant-loop-r l = (l.r < mark (seen_in l.self)) × (eval (seen_in l.self) l.r (asked l.query) ≡ eval (seen_in l.self) l.a (asked l.query))

abbrev pub decreases-loop-r : goal.decreases-loop-r
decreases-loop-r l = 48 - top (seen_in l.self) l.r
