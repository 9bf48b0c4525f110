-- Operators as the program holds them.
use Rattle.std.specs.Prelude.{List, map}
use Rattle.policy.specs.declared.operator.Row.{Row}
use Rattle.policy.specs.Values.{Digits}

-- the digits of some rows
abbrev pub tables : List Row → List Digits
tables rows = map (λ row. row.entries) rows
