-- What the calls on diagrams answer.
use Rattle.std.specs.Prelude.{◌≡◌, ℕ, Bool, true, false, ◌&&◌, ◌↔◌, List, Ok, Err, Result, ◌≢◌, nat_lt, slice_index_or}
use Rattle.diagram.specs.declared.node.Node.{Node}
use Rattle.diagram.specs.declared.refusal.Refusal.{Refusal}
use Rattle.diagram.specs.declared.refusal.Refusal.TheVariants.{Full, Unknown, Unordered}
use Rattle.diagram.specs.Combining.{first}
use Rattle.diagram.specs.Store.{Store, Query, mark, eval, Outcome, full, done}

-- is r a reference into s, a leaf or a node?
abbrev pub stands : Store → ℕ → Bool
stands s r = nat_lt r (mark s)

-- the node's pair comes before those that its parts test; a leaf has 48
abbrev pub ordered : Store → Node → Bool
ordered s n = nat_lt n.pair (first s n.low n.high)

-- the answer to a call whose references stand or not, whose pairs are in order or not, and that would then come to this
-- outcome; s is the store before it and t the one after. A call that is refused leaves the store as it was
abbrev pub Answers : Bool → Bool → Outcome → Store → Store → Result ℕ Refusal → Type 0
Answers known orders outcome s t (Ok r) = (known ≡ true) × (orders ≡ true) × (outcome ≡ done t r)
Answers known orders outcome s t (Err Unknown) = (known ≡ false) × (t ≡ s)
Answers known orders outcome s t (Err Unordered) = (known ≡ true) × (orders ≡ false) × (t ≡ s)
Answers known orders outcome s t (Err Full) = (known ≡ true) × (orders ≡ true) × (outcome ≡ full) × (t ≡ s)

-- the answer to whether two references evaluate alike at every query
abbrev pub Alike : Store → ℕ → ℕ → Result Bool Refusal → Type 0
Alike s a b (Ok same) = ((stands s a && stands s b) ≡ true) × ((same ≡ true) ↔ ((q : Query) → eval s a q ≡ eval s b q))
Alike s a b (Err e) = (e ≡ Unknown) × ((stands s a && stands s b) ≡ false)

-- the answer to whether a combination agrees with another value at every query
abbrev pub Compared : Bool → Bool → Outcome → (Query → ℕ) → (Query → ℕ) → Result Bool Refusal → Type 0
Compared known other_known outcome value other (Ok same) = (known ≡ true) × (other_known ≡ true) × (outcome ≢ full) × ((same ≡ true) ↔ ((q : Query) → value q ≡ other q))
Compared known other_known outcome value other (Err Unknown) = (known && other_known) ≡ false
Compared known other_known outcome value other (Err Unordered) = ⊥
Compared known other_known outcome value other (Err Full) = (known ≡ true) × (other_known ≡ true) × (outcome ≡ full)

-- the query that a list of tests says
abbrev pub asked : List Bool → Query
asked tests i = slice_index_or tests i false

-- the answer to what a reference evaluates to
abbrev pub Valued : Store → ℕ → List Bool → Result ℕ Refusal → Type 0
Valued s a tests (Ok leaf) = (stands s a ≡ true) × (leaf ≡ eval s a (asked tests))
Valued s a tests (Err e) = (e ≡ Unknown) × (stands s a ≡ false)
