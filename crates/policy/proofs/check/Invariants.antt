use Rattle.std.proofs.Common.{◌≡◌, ◌-◌, length}
use Rattle.policy.specs.Reading.{scan_file}
use Rattle.policy.specs.View.{bytes, place, ahead}
use Rattle.policy.proofs.check.Given as goal

abbrev pub invariant-loop-reader : goal.invariant-loop-reader
invariant-loop-reader l = (bytes l.reader ≡ l.file) × ((scan_file l.file).stop ≡ (ahead l.reader).stop)

abbrev pub decreases-loop-reader : goal.decreases-loop-reader
decreases-loop-reader l = length l.file - place l.reader
