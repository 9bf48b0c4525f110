use Rattle.std.proofs.Common.{◌≡◌, length}
use Rattle.source.specs.Slip.{slip_label}
use Rattle.source.proofs.slip.SlipSource.label.Given as goal

abbrev pub invariant-loop-rest : goal.invariant-loop-rest
invariant-loop-rest l = slip_label l.rest l.pair ≡ slip_label l.self.bytes.now l.pair

abbrev pub decreases-loop-rest : goal.decreases-loop-rest
decreases-loop-rest l = length l.rest
