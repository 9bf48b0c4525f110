use Rattle.std.proofs.Common.{◌≡◌, drop}
use Rattle.policy.specs.Reading.{opening, differs}
use Rattle.policy.proofs.checks.wrong_opening.Given as goal

abbrev pub invariant-loop-i : goal.invariant-loop-i
invariant-loop-i l = differs opening l.file 0 ≡ differs (drop l.i opening) (drop l.i l.file) l.i
