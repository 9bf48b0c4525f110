-- What the calls that ask a shelf rest on.
use Rattle.std.proofs.Common.{◌≡◌, ℕ, zero, suc, ◌<◌, ◌≤◌, true, false, ltb, ◌⊎◌, get_or, replicate, Ok, Result, refl, ◌∙◌, subst, ⊎_elim, arith}
use Rattle.std.proofs.lemmas.Bool.{cond-true, cond-false, cases_Bool}
use Rattle.diagram.specs.Store.{mark}
use Rattle.bench.specs.declared.bench.Bench.{Bench}
use Rattle.bench.specs.declared.fault.Fault.{Fault}
use Rattle.bench.specs.declared.shelf.Shelf.{Shelf}
use Rattle.bench.specs.declared.shelf.Shelf.TheVariants as shelf
use Rattle.bench.specs.declared.shelf.Draft.{Draft}
use Rattle.bench.specs.declared.shelf.Lists.{Lists}
use Rattle.bench.specs.Asking.{DraftStands, shelf_at}
use Rattle.bench.specs.Shelves.{pairs_of, reference}
use Rattle.bench.specs.State.{State, state_of}

-- nothing is told yet
pub blank : (n i : ℕ) → get_or (replicate n false) i false ≡ false
blank zero i = refl
blank (suc n) zero = refl
blank (suc n) (suc i) = blank n i

-- a shelf that was found is the one with that number
pub found : (s : State) (k : ℕ) (x : Shelf) → Ok x ≡ shelf_at s k → get_or s.shelves k shelf.Empty ≡ x
found s k x e =
    ⊎_elim
    (λ (lt : ltb k 4 ≡ true). let is : ◌≡◌ {A = Result Shelf Fault} (Ok x) (Ok (get_or s.shelves k shelf.Empty)) = e ∙ cond-true (ltb k 4) _ _ lt in cc)
    (λ (ge : ltb k 4 ≡ false). let none = e ∙ cond-false (ltb k 4) _ _ ge in let z : ◌≡◌ {A = ℕ} 0 1 = cc in absurd (omega arith))
    (cases_Bool (ltb k 4))

-- what stands on a shelf has references into the table, and at most 48 pairs
pub record On (b : Bench) (x : Shelf) : Type 0 where
  pub few : pairs_of x ≤ 48
  pub stands : (j : ℕ) → reference x j < mark (state_of b).store

pub on_shelf : (b : Bench) (k : ℕ) (x y : Shelf) → Ok x ≡ shelf_at (state_of b) k → x ≡ y → On b y
on_shelf b k x y e is =
    let same = found (state_of b) k x e ∙ is in
    record {
      few = subst (λ z. pairs_of z ≤ 48) same (b.pairs k);
      stands = λ j. subst (λ z. reference z j < mark (state_of b).store) same (b.stand k j);
    }

-- the policy of a shelf, draft or closed, stands
pub policy_stands : (b : Bench) (k : ℕ) (x : Shelf) (d : Draft) → Ok x ≡ shelf_at (state_of b) k → (x ≡ shelf.Draft d) ⊎ ((l : Lists) × (x ≡ shelf.Closed d l)) → DraftStands (state_of b) (Ok d)
policy_stands b k x d e is =
    ⊎_elim
    (λ (draft : x ≡ shelf.Draft d). let here = on_shelf b k x _ e draft in (here.few, here.stands 0, here.stands 1))
    (λ (closed : (l : Lists) × (x ≡ shelf.Closed d l)). let here = on_shelf b k x _ e closed.1 in (here.few, here.stands 0, here.stands 1))
    is
