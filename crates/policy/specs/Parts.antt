-- The program's enum of parts, by the numbers that the definitions give them.
use Rattle.std.specs.Prelude.{ℕ, Some, None, Option}
use Rattle.policy.specs.declared.part.Part.{Part}
use Rattle.policy.specs.declared.part.Part.TheVariants.{Attributes, Operators, Constraints, Policy}

-- the number of a part
abbrev pub part_number : Part → ℕ
part_number Attributes = 1
part_number Operators = 2
part_number Constraints = 3
part_number Policy = 4

-- the number of the part that was reached; 0 until the opening has been looked at
abbrev pub reached : Option Part → ℕ
reached None = 0
reached (Some p) = part_number p
