use Rattle.std.proofs.Common.{◌≡◌, ◌++◌, map, take, drop}
use Rattle.diagram.specs.Sweeping.{new_root}
use Rattle.diagram.proofs.sweep.translate.Given as goal

abbrev pub invariant-loop-r : goal.invariant-loop-r
invariant-loop-r l = l.roots ≡ map (new_root l.words l.fill) (take l.r-index l.initial.roots) ++ drop l.r-index l.initial.roots
