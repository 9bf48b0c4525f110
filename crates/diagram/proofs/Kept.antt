-- What a building function keeps.
use Rattle.std.proofs.Common.{◌≡◌, ℕ, List, subst}
use Rattle.diagram.specs.declared.node.Node.{Node}
use Rattle.diagram.specs.Store.{Store, still, Sound, Grown}
use Rattle.diagram.specs.Told.{Kept}
use Rattle.diagram.specs.Words.{Chained, stored}
use Rattle.diagram.proofs.Makes.{Made}

pub kept_still : (ws : List ℕ) (f : ℕ) → Chained ws f → Sound (stored ws f) → Kept ws f ws f
kept_still ws f ch so = record { chained = ch; sound = so; grown = still }

pub kept_new : (ws : List ℕ) (f : ℕ) (vs : List ℕ) (g : ℕ) (t : Store) (n : Node) (r : ℕ) → Chained vs g → t ≡ stored vs g → Made (stored ws f) n t r → Kept ws f vs g
kept_new ws f vs g t n r ch is m = record { chained = ch; sound = subst Sound is m.sound; grown = subst (Grown (stored ws f)) is m.grown }
