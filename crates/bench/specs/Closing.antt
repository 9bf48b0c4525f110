-- What closing a shelf builds.
use Rattle.std.specs.Prelude.{◌≡◌, ℕ, ◌+◌, ◌*◌, ◌<◌, List, [], ◌∷◌, length, Ok, Err, Result}
use Rattle.diagram.specs.Closing.{closed}
use Rattle.diagram.specs.Combining.{combined}
use Rattle.diagram.specs.Kinds.{either, union}
use Rattle.diagram.specs.Rules.{entry, where_one}
use Rattle.diagram.specs.Store.{Store, Outcome, full, done, mark}
use Rattle.diagram.specs.declared.table.TableFull.{TableFull}
use Rattle.bench.specs.declared.shelf.Draft.{Draft}
use Rattle.bench.specs.declared.shelf.Lists.{Lists}

-- no room, or the nodes after it and the two diagrams
pub data Listing : Type 0 where
  no_lists : Listing
  lists_done : Store → ℕ → ℕ → Listing

-- building goes on after a reference, if there was room for it
abbrev pub then_lists : Outcome → (Store → ℕ → Listing) → Listing
then_lists full next = no_lists
then_lists (done s r) next = next s r

-- the decision's set where the query is valid, else the empty set: entry 3 × validity + decision
abbrev pub set_entries : List ℕ
set_entries = 0 ∷ 0 ∷ 0 ∷ 1 ∷ 2 ∷ 4 ∷ 0 ∷ 0 ∷ 0 ∷ []

-- the set of a decision where validity is 1, else the empty set
abbrev pub set_where : ℕ → ℕ → ℕ
set_where valid decision = entry set_entries (3 * valid + decision)

-- validity and decision are combined to sets, these are closed by union, of that is kept what is at valid queries; then
-- validity is closed by or
unfoldable pub listing : ℕ → Store → Draft → Listing
listing room s d =
    then_lists (combined room s set_where d.valid d.decides) (λ s₁ sets.
    then_lists (closed room s₁ union sets) (λ s₂ unions.
    then_lists (combined room s₂ where_one d.valid unions) (λ s₃ lists.
    then_lists (closed room s₃ either d.valid) (λ s₄ reaches. lists_done s₄ lists reaches))))

-- the answer is the outcome, and t is what stands now
abbrev pub ToldLists : Listing → Store → Result Lists TableFull → Type 0
ToldLists outcome t (Ok l) = (outcome ≡ lists_done t l.lists l.reaches) × (l.lists < mark t) × (l.reaches < mark t)
ToldLists outcome t (Err e) = outcome ≡ no_lists

-- the fill count that is left: all nodes, or those that stood before
abbrev pub FillAfter : {A : Type 0} → ℕ → Store → Result A TableFull → ℕ → Type 0
FillAfter start t (Ok x) fill = fill ≡ length t
FillAfter start t (Err e) fill = fill ≡ start
