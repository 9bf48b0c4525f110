use Rattle.std.proofs.Common.{◌-◌, length}
use Rattle.policy.specs.View.{bytes, place}
use Rattle.inspect.proofs.Lining.{Sofar}
use Rattle.inspect.proofs.lines.lines.Given as goal

abbrev pub invariant-loop-taken : goal.invariant-loop-taken
invariant-loop-taken l = Sofar l.initial.text l.text l.initial.reader l.reader

abbrev pub decreases-loop-taken : goal.decreases-loop-taken
decreases-loop-taken l = length (bytes l.reader) - place l.reader
