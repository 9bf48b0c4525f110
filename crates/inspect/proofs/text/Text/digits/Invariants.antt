use Rattle.std.proofs.Common.{take}
use Rattle.inspect.specs.Lines.{digits_text}
use Rattle.inspect.specs.Written.{Added}
use Rattle.inspect.proofs.text.Text.digits.Given as goal

abbrev pub invariant-loop-digit : goal.invariant-loop-digit
invariant-loop-digit l = Added l.initial.self l.self (digits_text (take l.digit-index l.digits))
