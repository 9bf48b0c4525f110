-- What holds of the shelves, and of shelves of which one is changed.
use Rattle.std.proofs.Common.{◌≡◌, ℕ, zero, suc, ◌-◌, ◌<◌, ◌≤◌, List, [], ◌∷◌, length, get_or, drop, set, sym, refl, ap, ◌∙◌, subst, ⊎_elim, arith, get_or-set_other, get_or-set_same}
use Rattle.std.proofs.lemmas.Bool.{cases_eq, cases_lt}
use Rattle.diagram.specs.Store.{Store, Grown, still, newer}
use Rattle.diagram.proofs.Stands.{grown_length}
use Rattle.bench.specs.declared.shelf.Shelf.{Shelf}
use Rattle.bench.specs.declared.shelf.Shelf.TheVariants as shelf
use Rattle.bench.specs.Shelves.{pairs_of, reference}

-- every reference is below this, and no policy has more than 48 pairs
pub record Fitting (shelves : List Shelf) (end : ℕ) : Type 0 where
  pub stand : (i k : ℕ) → reference (get_or shelves i shelf.Empty) k < end
  pub pairs : (i : ℕ) → pairs_of (get_or shelves i shelf.Empty) ≤ 48

set_past : (shelves : List Shelf) (j : ℕ) (x : Shelf) → length shelves ≤ j → set shelves j x ≡ shelves
set_past [] zero x h = refl
set_past [] (suc j) x h = refl
set_past (y ∷ ys) zero x h = absurd (omega arith)
set_past (y ∷ ys) (suc j) x h = ap (λ zs. y ∷ zs) (set_past ys j x (omega arith))

pub fitting_put : (shelves : List Shelf) (f g j : ℕ) (x : Shelf) → Fitting shelves f → f ≤ g → ((k : ℕ) → reference x k < g) → pairs_of x ≤ 48 → Fitting (set shelves j x) g
fitting_put shelves f g j x old more stands few = record { stand = λ i k. (at i).0 k; pairs = λ i. (at i).1 }
  where
    same : (y z : Shelf) → y ≡ z → ((k : ℕ) → reference z k < g) × (pairs_of z ≤ 48) → ((k : ℕ) → reference y k < g) × (pairs_of y ≤ 48)
    same y z e h = subst (λ w. ((k : ℕ) → reference w k < g) × (pairs_of w ≤ 48)) (sym e) h

    before : (i : ℕ) → ((k : ℕ) → reference (get_or shelves i shelf.Empty) k < g) × (pairs_of (get_or shelves i shelf.Empty) ≤ 48)
    before i = ((λ k. omega (arith, old.stand i k)), old.pairs i)

    at : (i : ℕ) → ((k : ℕ) → reference (get_or (set shelves j x) i shelf.Empty) k < g) × (pairs_of (get_or (set shelves j x) i shelf.Empty) ≤ 48)
    at i =
        ⊎_elim
        (λ (e : i ≡ j). ⊎_elim
        (λ (lt : j < length shelves). same _ x (ap (λ n. get_or (set shelves j x) n shelf.Empty) e ∙ get_or-set_same shelves j x shelf.Empty lt) (stands, few))
        (λ (ge : length shelves ≤ j). same _ _ (ap (λ ys. get_or ys i shelf.Empty) (set_past shelves j x ge)) (before i))
        (cases_lt j (length shelves)))
        (λ (ne : i ≡ j → ⊥). same _ _ (get_or-set_other shelves j i x shelf.Empty ne) (before i))
        (cases_eq i j)

-- nodes that were built are given back: what stood before stands again
pub rolled : {s t : Store} → Grown s t → drop (length t - length s) t ≡ s
rolled {s} still = let z : length s - length s ≡ 0 = omega arith in ap (λ n. drop n s) z
rolled {s} (newer {t = t} n g) =
    let long = grown_length g in
    let e : suc (length t) - length s ≡ suc (length t - length s) = omega arith in
    ap (λ m. drop m (n ∷ t)) e ∙ rolled g

pub rolled_none : (t : Store) → drop (length t - length t) t ≡ t
rolled_none t = let z : length t - length t ≡ 0 = omega arith in ap (λ n. drop n t) z
