-- What the calls of a bench depend on: how many nodes there is room for, the nodes below the fill mark, and the shelves.
-- Working words, the memo and the words above the fill mark are no part of it.
use Rattle.std.specs.Prelude.{ℕ, ◌/◌, min, List, [], ◌∷◌}
use Rattle.diagram.specs.Held.{room_of, store_of}
use Rattle.diagram.specs.Store.{Store}
use Rattle.bench.specs.declared.bench.Bench.{Bench}
use Rattle.bench.specs.declared.shelf.Shelf.{Shelf}
use Rattle.bench.specs.declared.shelf.Shelf.TheVariants as shelf

-- what a call starts from, and what it leaves
pub record State : Type 0 where
  pub room : ℕ
  pub store : Store
  pub shelves : List Shelf

-- the state that a bench is in
abbrev pub state_of : Bench → State
state_of b = record { room = room_of b.diagrams; store = store_of b.diagrams; shelves = b.shelves }

-- how many nodes so many words have room for
abbrev pub nodes_in : ℕ → ℕ
nodes_in words = min (words / 7) 65536

-- a bench that was just opened
abbrev pub fresh : ℕ → State
fresh room = record { room = room; store = []; shelves = shelf.Empty ∷ shelf.Empty ∷ shelf.Empty ∷ shelf.Empty ∷ [] }
