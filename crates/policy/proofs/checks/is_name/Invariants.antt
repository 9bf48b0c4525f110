use Rattle.std.proofs.Common.{◌≡◌, ◌<◌, false, eqb, get_or, drop}
use Rattle.policy.specs.Commands.{padded}
use Rattle.policy.proofs.checks.is_name.Given as goal

abbrev pub invariant-loop-i : goal.invariant-loop-i
invariant-loop-i l = (padded l.name ≡ padded (drop l.i l.name)) × (0 < l.i → eqb (get_or l.name 0 0) 0 ≡ false)
