-- How nodes, buckets and chains stand in the words: seven words to a node.
use Rattle.std.specs.Prelude.{◌≡◌, ℕ, zero, suc, ◌+◌, ◌*◌, ◌/◌, ◌<◌, ◌≤◌, cond, List, [], ◌∷◌, length, ◌==◌, slice_index, slice_set}
use Rattle.diagram.specs.declared.node.Node.{Node}
use Rattle.diagram.specs.Spread.{spread}
use Rattle.diagram.specs.Store.{Store, node_of}

-- how many nodes fit
abbrev pub capacity : List ℕ → ℕ
capacity words = length words / 7

-- node k, from the first three of its seven words
abbrev pub node_at : List ℕ → ℕ → Node
node_at words k = node_of (slice_index words (7 * k)) (slice_index words (7 * k + 1)) (slice_index words (7 * k + 2))

-- the words, with this node at place k
abbrev pub putting : List ℕ → ℕ → Node → List ℕ
putting words k n = slice_set (slice_set (slice_set words (7 * k) n.pair) (7 * k + 1) n.low) (7 * k + 2) n.high

-- the first k nodes, newest first
unfoldable pub stored : List ℕ → ℕ → Store
stored words zero = []
stored words (suc k) = node_at words k ∷ stored words k

-- the bucket of a node, one of so many
abbrev pub bucket : ℕ → Node → ℕ
bucket many n = spread many n.pair n.low n.high

-- the bucket of node k
unfoldable pub bucket_at : List ℕ → ℕ → ℕ
bucket_at words k = bucket (capacity words) (node_at words k)

-- one more than the largest k below m with f k ≡ b, and 0 where there is none
unfoldable pub last : (ℕ → ℕ) → ℕ → ℕ → ℕ
last f zero b = 0
last f (suc m) b = cond (f m == b) (suc m) (last f m b)

-- each bucket's head is the newest of the first `fill` nodes in it
abbrev pub Heads : List ℕ → ℕ → Type 0
Heads words fill = (b : ℕ) → b < capacity words → slice_index words (7 * b + 3) ≡ last (bucket_at words) fill b

-- each of the first `fill` nodes links to the newest older one of its bucket
abbrev pub Links : List ℕ → ℕ → Type 0
Links words fill = (k : ℕ) → k < fill → slice_index words (7 * k + 4) ≡ last (bucket_at words) k (bucket_at words k)

-- the first `fill` nodes are in use, and the chains lead to each of them
pub record Chained (words : List ℕ) (fill : ℕ) : Type 0 where
  pub few : capacity words ≤ 65536
  pub within : fill ≤ capacity words
  pub heads : Heads words fill
  pub links : Links words fill
