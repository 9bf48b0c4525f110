-- What each building function builds, node by node, in a table with room for so many nodes.
use Rattle.std.specs.Prelude.{◌≡◌, ℕ, zero, suc, ◌+◌, ◌-◌, ◌<◌, ◌≤◌, Bool, cond, List, [], ◌∷◌, Ok, Err, Result, nat_le, nat_lt, slice_index, slice_set}
use Rattle.bench.specs.declared.build.Limit.{Limit}
use Rattle.bench.specs.declared.build.Limit.TheVariants.{AtMost, AtLeast}
use Rattle.diagram.specs.declared.table.TableFull.{TableFull}
use Rattle.diagram.specs.Store.{Store, mark, node_of, top, Outcome, full, done, bind, made}
use Rattle.diagram.specs.Told.{Gives}
use Rattle.policy.specs.Policies.{Attribute, pair, value, Constraint, never_both, at_most, at_least, meets}

-- x stands in s and tests no pair before v
pub record From (s : Store) (v x : ℕ) : Type 0 where
  pub below : x < mark s
  pub later : v ≤ top s x

-- h where one of the k pairs from j on is present, else a; the last pair is made first
unfoldable pub chain : ℕ → Store → ℕ → ℕ → ℕ → ℕ → Outcome
chain room s j zero a h = done s a
chain room s j (suc k) a h = bind (made room s (node_of (j + k) a h)) (λ s₁ x. chain room s₁ j k x h)

-- a, or where a pair from start to before i is present, 1 if i is and else 0
unfoldable pub earlier : ℕ → Store → ℕ → ℕ → ℕ → Outcome
earlier room s start i a = cond (nat_lt start i) (bind (made room s (node_of i 0 1)) (λ s₁ o. chain room s₁ start (i - start) a o)) (done s a)

-- the target of the pair i of an attribute: the pairs after it, the pair itself, and the pairs before it
unfoldable pub target : ℕ → Store → ℕ → ℕ → ℕ → Outcome
target room s start count i =
    bind (chain room s (i + 1) (start + count - (i + 1)) 2 0) (λ s₁ x. bind (made room s₁ (node_of i x 1)) (λ s₂ y. earlier room s₂ start i y))

-- the exclusion of the pairs i and j, the smaller first
unfoldable pub exclusion : ℕ → Store → ℕ → ℕ → Outcome
exclusion room s i j = bind (made room s (node_of j 1 0)) (λ s₁ x. made room s₁ (node_of i 1 x))

-- is the limit met where so many pairs are present?
abbrev pub is_met : Limit → ℕ → Bool
is_met (AtMost k) seen = nat_le seen k
is_met (AtLeast k) seen = nat_le k seen

-- so many leaves, from the place c on: 1 if the place meets the limit, else 0
unfoldable pub leaves : (ℕ → Bool) → ℕ → ℕ → List ℕ
leaves met c zero = []
leaves met c (suc k) = cond (met c) 1 0 ∷ leaves met (c + 1) k

-- what building a row of references comes to: no room, or the nodes after it and the row
pub data Row : Type 0 where
  no_row : Row
  row : Store → List ℕ → Row

-- a row after a reference, and a reference after a row
abbrev pub bind_row : Outcome → (Store → ℕ → Row) → Row
bind_row full next = no_row
bind_row (done s r) next = next s r

-- building goes on from a row, if there was room for one
abbrev pub with_row : Row → (Store → List ℕ → Outcome) → Outcome
with_row no_row next = full
with_row (row s xs) next = next s xs

-- k entries of a row, from the place c on, each replaced by the node of the pair j over itself and the entry after it
unfoldable pub next_row : ℕ → Store → ℕ → ℕ → ℕ → List ℕ → Row
next_row room s j c zero xs = row s xs
next_row room s j c (suc k) xs = bind_row (made room s (node_of j (slice_index xs c) (slice_index xs (c + 1)))) (λ s₁ x. next_row room s₁ j (c + 1) k (slice_set xs c x))

-- a row for each of the k pairs from start on, the last pair first, each one entry shorter than the row before
unfoldable pub rows : ℕ → Store → ℕ → ℕ → List ℕ → Outcome
rows room s start zero xs = done s (slice_index xs 0)
rows room s start (suc k) xs = with_row (next_row room s (start + k) 0 (suc k) xs) (λ s₁ ys. rows room s₁ start k ys)

-- a limit on an attribute: at place c of a row, c pairs before the row's own are present. There are at most 48 pairs, so
-- that 49 places are enough
unfoldable pub limited : ℕ → Store → ℕ → ℕ → Limit → Outcome
limited room s start count limit = rows room s start count (leaves (is_met limit) 0 49)

-- the answer is the outcome, and the nodes and the row are what stands now
abbrev pub ToldRow : Row → Store → List ℕ → Result (Unit {0}) TableFull → Type 0
ToldRow outcome t xs (Ok r) = outcome ≡ row t xs
ToldRow outcome t xs (Err e) = outcome ≡ no_row

-- the entries 0 to n stand in s and test no pair before v
abbrev pub FromAll : Store → ℕ → ℕ → List ℕ → Type 0
FromAll s v n xs = (c : ℕ) → c ≤ n → From s v (slice_index xs c)

-- the reference, where there is one, stands in t and is the value of the target of pair i at every query
abbrev pub IsTarget : Store → ℕ → ℕ → ℕ → Result ℕ TableFull → Type 0
IsTarget t start count i r = (a : Attribute) → a.start ≡ start → a.count ≡ count → Gives t (value (pair a i)) r

-- the reference, where there is one, stands in t and is 1 where the query has not both pairs, else 0
abbrev pub IsExclusion : Store → ℕ → ℕ → Result ℕ TableFull → Type 0
IsExclusion t i j r = Gives t (λ q. cond (meets (never_both i j) q) 1 0) r × Gives t (λ q. cond (meets (never_both j i) q) 1 0) r

-- the constraint that the attribute keeps the limit
abbrev pub limits : Limit → Attribute → Constraint
limits (AtMost k) a = at_most a k
limits (AtLeast k) a = at_least a k

-- the reference, where there is one, stands in t and is 1 where the query keeps the limit, else 0
abbrev pub IsLimit : Store → ℕ → ℕ → Limit → Result ℕ TableFull → Type 0
IsLimit t start count limit r = (a : Attribute) → a.start ≡ start → a.count ≡ count → Gives t (λ q. cond (meets (limits limit a) q) 1 0) r
