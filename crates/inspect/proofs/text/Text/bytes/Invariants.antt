use Rattle.std.proofs.Common.{◌≡◌, ◌++◌, take}
use Rattle.inspect.specs.Plain.{kept}
use Rattle.inspect.specs.Written.{written}
use Rattle.inspect.proofs.text.Text.bytes.Given as goal

abbrev pub invariant-loop-byte : goal.invariant-loop-byte
invariant-loop-byte l = written l.self ≡ written l.initial.self ++ kept (take l.byte-index l.bytes)
