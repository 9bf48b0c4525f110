-- The layer, number and place of every refusal. Layer 1 reads, 2 is the table, 3 is the bench.
use Rattle.std.specs.Prelude.{ℕ}
use Rattle.bench.specs.declared.fault.LoadFault.{LoadFault}
use Rattle.bench.specs.declared.fault.LoadFault.TheVariants.{Reading, Table}
use Rattle.bench.specs.declared.fault.Reason.{Reason}
use Rattle.bench.specs.declared.fault.Reason.TheVariants.{NoShelf, NotValid, Taken, Empty, NotClosed, AlreadyClosed}
use Rattle.bench.specs.declared.fault.Fault.{Fault}
use Rattle.bench.specs.declared.fault.Fault.TheVariants.{Below, Own}
use Rattle.policy.specs.Refusals as reading

-- a fault below the bench arose in reading, or in the table
abbrev pub load_layer : LoadFault → ℕ
load_layer (Reading f) = 1
load_layer (Table f) = 2

-- a fault in reading keeps its number; 25 is a full table
abbrev pub load_number : LoadFault → ℕ
load_number (Reading f) = reading.number f
load_number (Table f) = 25

-- a place in the file, or what was being worked on
abbrev pub load_place : LoadFault → ℕ
load_place (Reading f) = reading.place f
load_place (Table f) = f.place

-- the numbers of the bench's own refusals
abbrev pub reason_number : Reason → ℕ
reason_number NoShelf = 1
reason_number NotValid = 11
reason_number Taken = 21
reason_number Empty = 22
reason_number NotClosed = 23
reason_number AlreadyClosed = 24

-- a lower fault keeps its layer, number and place; the bench's own has the shelf for its place
abbrev pub layer : Fault → ℕ
layer (Below shelf f) = load_layer f
layer (Own shelf r) = 3

-- the number of a refusal
abbrev pub number : Fault → ℕ
number (Below shelf f) = load_number f
number (Own shelf r) = reason_number r

-- the place of a refusal
abbrev pub place : Fault → ℕ
place (Below shelf f) = load_place f
place (Own shelf r) = shelf

-- the shelf that the refused call named
abbrev pub shelf : Fault → ℕ
shelf (Below k f) = k
shelf (Own k r) = k
