-- The numbers of the refusals that reading a file gives, and their places. Reading is layer 1.
use Rattle.std.specs.Prelude.{ℕ}
use Rattle.policy.specs.declared.fault.ReadFault.{ReadFault}
use Rattle.policy.specs.declared.fault.ReadFault.TheVariants.{TooLong, Opening, CutShort, UnknownCommand, EarlierPart, Operand, Items, StackFull, Ending}

-- the number of a refusal
abbrev pub number : ReadFault → ℕ
number TooLong = 2
number (Opening p) = 3
number (CutShort p) = 4
number (UnknownCommand p) = 5
number (EarlierPart p) = 6
number (Operand p) = 7
number (Items p) = 8
number (StackFull p) = 9
number (Ending p) = 10

-- the byte that is at fault
abbrev pub place : ReadFault → ℕ
place TooLong = 0
place (Opening p) = p
place (CutShort p) = p
place (UnknownCommand p) = p
place (EarlierPart p) = p
place (Operand p) = p
place (Items p) = p
place (StackFull p) = p
place (Ending p) = p
