-- A table of nodes as a list, the newest node first.
use Rattle.std.specs.Prelude.{ℕ, ◌+◌, ◌<◌, Bool, cond, ◌&&◌, List, [], ◌∷◌, length, Some, None, Option, ◌==◌, ◌≢◌, nat_lt}
use Rattle.diagram.specs.declared.node.Node.{Node}

-- a table, as the list of its nodes, the newest first
abbrev pub Store : Type 0
Store = List Node

-- which pairs are present
abbrev pub Query : Type 0
Query = ℕ → Bool

-- the query q, with b at the pair i
abbrev pub put : Query → ℕ → Bool → Query
put q i b = λ j. cond (j == i) b (q j)

-- the reference that the next node gets: 0 to 7 are leaves, 8 + k is node k. Every reference into s is below it
abbrev pub mark : Store → ℕ
mark s = 8 + length s

-- the node of a pair, its low part and its high part
abbrev pub node_of : ℕ → ℕ → ℕ → Node
node_of v l h = record { pair = v; low = l; high = h }

-- the pair that a reference tests, and 48 at a leaf
abbrev pub top : Store → ℕ → ℕ
top [] r = 48
top (n ∷ s) r = cond (r == mark s) n.pair (top s r)

-- the low part of the node that r refers to; a leaf is its own
abbrev pub low_part : Store → ℕ → ℕ
low_part [] r = r
low_part (n ∷ s) r = cond (r == mark s) n.low (low_part s r)

-- the high part, likewise
abbrev pub high_part : Store → ℕ → ℕ
high_part [] r = r
high_part (n ∷ s) r = cond (r == mark s) n.high (high_part s r)

-- where a query goes on from a node
abbrev pub part : Node → Query → ℕ
part n q = cond (q n.pair) n.high n.low

-- the leaf that a query comes to from a reference
abbrev pub eval : Store → ℕ → Query → ℕ
eval [] r q = r
eval (n ∷ s) r q = cond (r == mark s) (eval s (part n q) q) (eval s r q)

-- are two nodes equal?
abbrev pub same : Node → Node → Bool
same n m = n.pair == m.pair && (n.low == m.low && n.high == m.high)

-- the reference of the node that equals n; the newest, should there be several
unfoldable pub found : Store → Node → Option ℕ
found [] n = None
found (m ∷ s) n = cond (same m n) (Some (mark s)) (found s n)

-- what building in a table comes to: no room, or the nodes after it and a reference
pub data Outcome : Type 0 where
  full : Outcome
  done : Store → ℕ → Outcome

-- building goes on after a reference, if there was room for it
abbrev pub bind : Outcome → (Store → ℕ → Outcome) → Outcome
bind full next = full
bind (done s r) next = next s r

-- the node that was found, else a new one where fewer than `room` stand
unfoldable pub placed : ℕ → Store → Node → Option ℕ → Outcome
placed room s n (Some r) = done s r
placed room s n None = cond (nat_lt (length s) room) (done (n ∷ s) (mark s)) full

-- a reference for the node n, in a table with room for so many nodes
unfoldable pub made : ℕ → Store → Node → Outcome
made room s n = cond (n.low == n.high) (done s n.low) (placed room s n (found s n))

-- x stands in s and tests a later pair than v
pub record Later (s : Store) (v x : ℕ) : Type 0 where
  pub below : x < mark s
  pub later : v < top s x

-- what is owed of a node that is to stand on top of s
pub record Fits (s : Store) (n : Node) : Type 0 where
  pub low : Later s n.pair n.low
  pub high : Later s n.pair n.high
  pub small : n.pair < 48

-- each node has two parts, which are older and test later pairs, and no equal node is older
abbrev pub Sound : Store → Type 0
Sound [] = Unit {0}
Sound (n ∷ s) = Fits s n × (n.low ≢ n.high) × ((r : ℕ) → found s n ≢ Some r) × Sound s

-- t is s with newer nodes on top
pub data Grown (s : Store) : Store → Type 0 where
  still : Grown s s
  newer : {t : Store} → (n : Node) → Grown s t → Grown s (n ∷ t)
