use Rattle.std.proofs.Common.{◌≡◌, map, reverse}
use Rattle.diagram.specs.Rules.{number}
use Rattle.diagram.proofs.rule.number.Given as goal

abbrev pub invariant-loop-e : goal.invariant-loop-e
invariant-loop-e l = l.n ≡ number (reverse (map (λ x. x.now) l.yielded))
