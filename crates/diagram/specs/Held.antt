-- What a value of the code holds.
use Rattle.std.specs.Prelude.{ℕ}
use Rattle.diagram.specs.declared.diagrams.Diagrams.{Diagrams}
use Rattle.diagram.specs.declared.view.View.{View}
use Rattle.diagram.specs.Store.{Store}
use Rattle.diagram.specs.Words.{capacity, stored}

-- the nodes in use, newest first
abbrev pub store_of : Diagrams → Store
store_of d = stored d.words.now d.fill

-- how many nodes there is room for
abbrev pub room_of : Diagrams → ℕ
room_of d = capacity d.words.now

-- the nodes in use, as a view has them
abbrev pub seen_in : View → Store
seen_in v = stored v.words.now v.fill
