-- What holds of whatever a building function built.
use Rattle.std.proofs.Common.{◌≡◌, ℕ, ◌<◌, ◌≤◌, ◌∙◌, arith}
use Rattle.diagram.specs.Store.{Store, Query, mark, top, eval, Later, made, Sound, Grown, node_of}
use Rattle.diagram.proofs.Builds.{Holds}
use Rattle.diagram.proofs.Makes.{Made, node_after}
use Rattle.diagram.proofs.Stands.{grown_length, grown_trans, top_grown, top_leaf}
use Rattle.bench.specs.Building.{From}

-- from s, building came to t and x, which tests no pair before v and is g at every query
pub record Yields (s : Store) (v : ℕ) (g : Query → ℕ) (t : Store) (x : ℕ) : Type 0 where
  pub grown : Grown s t
  pub sound : Sound t
  pub below : x < mark t
  pub later : v ≤ top t x
  pub means : (q : Query) → eval t x q ≡ g q

-- after other building, with another name for the value, and seen from an earlier pair
pub yields_as : {s t u : Store} {v w x : ℕ} {g h : Query → ℕ} → Grown s t → w ≤ v → ((q : Query) → g q ≡ h q) → Yields t v g u x → Yields s w h u x
yields_as grow lower e y = record {
  grown = grown_trans grow y.grown;
  sound = y.sound;
  below = y.below;
  later = omega (arith, y.later);
  means = λ q. y.means q ∙ e q;
}

pub yields_from : {s t : Store} {v x : ℕ} {g : Query → ℕ} → Yields s v g t x → From t v x
yields_from y = record { below = y.below; later = y.later }

pub from_grown : {s t : Store} {v x : ℕ} → Grown s t → From s v x → From t v x
from_grown g f = record { below = omega (arith, grown_length g, f.below); later = omega (arith, top_grown g _ f.below, f.later) }

pub from_earlier : {s : Store} {v w x : ℕ} → w ≤ v → From s v x → From s w x
from_earlier h f = record { below = f.below; later = omega (arith, f.later) }

pub from_later : {s : Store} {v w x : ℕ} → w < v → From s v x → Later s w x
from_later h f = record { below = f.below; later = omega (arith, f.later) }

pub leaf_from : (s : Store) (v x : ℕ) → v ≤ 48 → x < 8 → From s v x
leaf_from s v x h k = record { below = omega arith; later = omega (arith, top_leaf s x k) }

pub leaf_later : (s : Store) (v x : ℕ) → v < 48 → x < 8 → Later s v x
leaf_later s v x h k = record { below = omega arith; later = omega (arith, top_leaf s x k) }

-- a node over two parts that test no pair before w
pub node_over : (room : ℕ) (s : Store) (v w l h : ℕ) → Sound s → v < w → w ≤ 48 → From s w l → From s w h → Holds (Made s (node_of v l h)) (made room s (node_of v l h))
node_over room s v w l h so before small low high = node_after v l h s so (omega arith) (from_later before low) (from_later before high) room
