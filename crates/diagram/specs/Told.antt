-- What a building function answers, and what it keeps.
use Rattle.std.specs.Prelude.{◌≡◌, ℕ, ◌<◌, List, Ok, Err, Result}
use Rattle.diagram.specs.declared.table.TableFull.{TableFull}
use Rattle.diagram.specs.Closing.{Coded, Bound}
use Rattle.diagram.specs.Store.{Store, Query, mark, eval, Outcome, full, done, Sound, Grown}
use Rattle.diagram.specs.Words.{Chained, stored}

-- the answer is the outcome, and t is what stands now
abbrev pub Told : Outcome → Store → Result ℕ TableFull → Type 0
Told outcome t (Ok r) = outcome ≡ done t r
Told outcome t (Err e) = outcome ≡ full

-- the table is in order after a call, and nodes were at most added
pub record Kept (old : List ℕ) (old_fill : ℕ) (new : List ℕ) (new_fill : ℕ) : Type 0 where
  pub chained : Chained new new_fill
  pub sound : Sound (stored new new_fill)
  pub grown : Grown (stored old old_fill) (stored new new_fill)

-- the reference, where there is one, stands in the table and evaluates so
abbrev pub Gives : {E : Type 0} → Store → (Query → ℕ) → Result ℕ E → Type 0
Gives t value (Ok r) = (r < mark t) × ((q : Query) → eval t r q ≡ value q)
Gives t value (Err e) = Unit {0}

-- the reference, where there is one, stands in t and is at every query the least upper bound of what a says in s at the
-- queries that contain it, provided that a has only codes of the kind
abbrev pub Closes : {E : Type 0} → ℕ → (ℕ → ℕ → ℕ) → Store → ℕ → Store → Result ℕ E → Type 0
Closes codes join s a t (Ok r) = (r < mark t) × (Coded codes (eval s a) → (q : Query) → Bound codes join (eval s a) q (eval t r q))
Closes codes join s a t (Err e) = Unit {0}
