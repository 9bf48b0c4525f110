-- What a sweep keeps, and what becomes of references.
use Rattle.std.specs.Prelude.{◌≡◌, ℕ, ◌+◌, ◌-◌, ◌*◌, ◌%◌, ◌<◌, ◌≤◌, Bool, true, false, cond, ◌||◌, List, [], ◌∷◌, length, ◌==◌, ◌≢◌, nat_lt, slice_index, slice_set}
use Rattle.diagram.specs.declared.node.Node.{Node}
use Rattle.diagram.specs.Store.{Store, Query, node_of, mark, top, eval}
use Rattle.diagram.specs.Words.{node_at}

-- whether a reference is among the roots
abbrev pub wanted : List ℕ → ℕ → Bool
wanted [] r = false
wanted (x ∷ xs) r = r == x || wanted xs r

-- what is wanted, and also the node's parts
abbrev pub wanted_parts : Node → (ℕ → Bool) → ℕ → Bool
wanted_parts n want r = want r || (r == n.low || r == n.high)

-- the nodes that are kept, and each old reference's new one
pub record Swept : Type 0 where
  pub store : Store
  pub renumber : ℕ → ℕ

-- the node n, which had the reference r, on top of what is kept of the older ones
abbrev pub keep_node : Node → ℕ → Swept → Swept
keep_node n r w = record {
  store = node_of n.pair (w.renumber n.low) (w.renumber n.high) ∷ w.store;
  renumber = λ x. cond (x == r) (mark w.store) (w.renumber x);
}

-- the nodes that are wanted, and the parts of those that are kept; the newest first, so that what refers to a node is
-- seen before it
unfoldable pub swept : Store → (ℕ → Bool) → Swept
swept [] want = record { store = []; renumber = λ r. r }
swept (n ∷ s) want = cond (want (mark s)) (keep_node n (mark s) (swept s (wanted_parts n want))) (swept s want)

-- x is in t what r is in s
pub record Moved (s t : Store) (r x : ℕ) : Type 0 where
  pub below : x < mark t
  pub tops : top t x ≡ top s r
  pub same : (q : Query) → eval t x q ≡ eval s r q

-- each root that stands in s has moved to t; any other is left as it is
abbrev pub Moves : Store → Store → List ℕ → List ℕ → Type 0
Moves s t olds news =
    (i : ℕ) → i < length olds →
    (slice_index olds i < mark s → Moved s t (slice_index olds i) (slice_index news i)) × (mark s ≤ slice_index olds i → slice_index news i ≡ slice_index olds i)

-- ---- in two steps, as the code goes: what is reached, then the nodes that are kept

-- what is wanted once every node that is wanted has had its parts wanted too
unfoldable pub reached : Store → (ℕ → Bool) → ℕ → Bool
reached [] want = want
reached (n ∷ s) want = reached s (cond (want (mark s)) (wanted_parts n want) want)

-- the nodes that pass the test
unfoldable pub packed : Store → (ℕ → Bool) → Swept
packed [] keep = record { store = []; renumber = λ r. r }
packed (n ∷ s) keep = cond (keep (mark s)) (keep_node n (mark s) (packed s keep)) (packed s keep)

-- ---- in words

-- the mark of node k, in the first of the two words for its count: 0 for none, and once the node has moved, its new reference
abbrev pub mark_at : List ℕ → ℕ → ℕ
mark_at words k = slice_index words (7 * k + 5)

-- whether the node of a reference is marked
abbrev pub marked : List ℕ → ℕ → Bool
marked words r = nat_lt 0 (mark_at words (r - 8))

-- the words, with the node of this reference marked; a leaf has no mark
abbrev pub marking : List ℕ → ℕ → List ℕ
marking words r = cond (nat_lt r 8) words (slice_set words (7 * (r - 8) + 5) 1)

-- the words differ in marks at most
abbrev pub OnlyMarks : List ℕ → List ℕ → Type 0
OnlyMarks old new = (i : ℕ) → (i % 7 ≢ 5) → slice_index new i ≡ slice_index old i

-- the parts of each node that is marked are marked, unless they are leaves
abbrev pub Closed : List ℕ → ℕ → Type 0
Closed words fill =
    (k : ℕ) → k < fill → marked words (8 + k) ≡ true →
    (8 ≤ (node_at words k).low → marked words (node_at words k).low ≡ true) × (8 ≤ (node_at words k).high → marked words (node_at words k).high ≡ true)

-- the new reference of an old one; a leaf keeps its own
abbrev pub new_at : List ℕ → ℕ → ℕ
new_at words r = cond (nat_lt r 8) r (mark_at words (r - 8))

-- a root's new reference; one that does not stand among the first `fill` nodes is left as it is
abbrev pub new_root : List ℕ → ℕ → ℕ → ℕ
new_root words fill r = cond (nat_lt r (8 + fill)) (new_at words r) r
