-- What the methods that build answer, and what they keep.
use Rattle.std.specs.Prelude.{◌≡◌, ℕ, ◌-◌, Ok, Err, Result, length, drop}
use Rattle.diagram.specs.declared.diagrams.Diagrams.{Diagrams}
use Rattle.diagram.specs.declared.refusal.Refusal.{Refusal}
use Rattle.diagram.specs.declared.refusal.Refusal.TheVariants.{Full}
use Rattle.diagram.specs.declared.table.TableFull.{TableFull}
use Rattle.diagram.specs.Held.{store_of, room_of}
use Rattle.diagram.specs.Store.{Outcome, Grown}
use Rattle.diagram.specs.Told.{Told}

-- the answer is the outcome, the room is as before, and nodes were at most added
pub record Builds (outcome : Outcome) (old new : Diagrams) (r : Result ℕ TableFull) : Type 0 where
  pub told : Told outcome (store_of new) r
  pub room : room_of new ≡ room_of old
  pub grown : Grown (store_of old) (store_of new)

-- once building has ended, what is left and what is answered: where the table was full, the first `start` nodes are left
abbrev pub Settled : Diagrams → ℕ → Result ℕ TableFull → Diagrams → Result ℕ Refusal → Type 0
Settled old start (Ok x) new r = (r ≡ Ok x) × (store_of new ≡ store_of old) × (room_of new ≡ room_of old)
Settled old start (Err e) new r =
    (r ≡ Err Full) × (store_of new ≡ drop (length (store_of old) - start) (store_of old)) × (room_of new ≡ room_of old)
