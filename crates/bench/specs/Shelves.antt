-- What stands on a shelf.
use Rattle.std.specs.Prelude.{ℕ, List, [], ◌∷◌, slice_index}
use Rattle.bench.specs.declared.shelf.Shelf.{Shelf}
use Rattle.bench.specs.declared.shelf.Shelf.TheVariants as shelf

-- how many pairs the policy has; none where there is no policy
abbrev pub pairs_of : Shelf → ℕ
pairs_of shelf.Empty = 0
pairs_of (shelf.Draft d) = d.pairs
pairs_of (shelf.Closed d l) = d.pairs

-- the references of a shelf
abbrev pub references : Shelf → List ℕ
references shelf.Empty = []
references (shelf.Draft d) = d.valid ∷ d.decides ∷ []
references (shelf.Closed d l) = d.valid ∷ d.decides ∷ l.lists ∷ l.reaches ∷ []

-- the k-th of them, and leaf 0 where there is none
abbrev pub reference : Shelf → ℕ → ℕ
reference x k = slice_index (references x) k
