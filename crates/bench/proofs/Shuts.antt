-- What a close leaves.
use Rattle.std.proofs.Common.{◌≡◌, ℕ, zero, suc, ◌-◌, ◌<◌, ◌≤◌, List, length, drop, set, Ok, Err, sym, ap, ◌∙◌, subst, arith}
use Rattle.diagram.specs.Store.{Store, Grown, mark}
use Rattle.diagram.proofs.Stands.{grown_length}
use Rattle.bench.specs.declared.fault.Fault.{Fault}
use Rattle.bench.specs.declared.fault.Fault.TheVariants.{Below}
use Rattle.bench.specs.declared.fault.LoadFault.TheVariants.{Table}
use Rattle.bench.specs.declared.shelf.Draft.{Draft}
use Rattle.bench.specs.declared.shelf.Lists.{Lists}
use Rattle.bench.specs.declared.shelf.Shelf.{Shelf}
use Rattle.bench.specs.declared.shelf.Shelf.TheVariants as shelf
use Rattle.bench.specs.Changing.{Step, serve, close_with, closes, draft_at}
use Rattle.bench.specs.Closing.{Listing, no_lists, lists_done, listing}
use Rattle.bench.specs.Shelves.{reference}
use Rattle.bench.specs.State.{State}
use Rattle.bench.proofs.Shelving.{Fitting, fitting_put, rolled, rolled_none}

-- a refused close leaves the nodes that stood before
pub all_back : {s t left : Store} {fill : ℕ} → left ≡ drop (length t - fill) t → Grown s t → fill ≡ length s → left ≡ s
all_back {t = t} is grown e = is ∙ ap (λ n. drop (length t - n) t) e ∙ rolled grown

-- a close leaves all nodes
pub none_back : {t left : Store} {fill : ℕ} → left ≡ drop (length t - fill) t → fill ≡ length t → left ≡ t
none_back {t = t} is e = is ∙ ap (λ n. drop (length t - n) t) e ∙ rolled_none t

module _ (s : State) (k : ℕ) (d : Draft) (is : Ok d ≡ draft_at s k) where
  closes_with : (l : Listing) → listing s.room s.store d ≡ l → close_with s k d l ≡ closes s k
  closes_with l e = sym (ap (close_with s k d) e) ∙ ap (λ r. serve s r (λ x. close_with s k x (listing s.room s.store x))) is

  -- what a close answers and leaves where the table was full
  pub closes_full : (f : Fault) (room : ℕ) (store : Store) → f ≡ Below k (Table (record { place = 0 })) → room ≡ s.room → store ≡ s.store → listing s.room s.store d ≡ no_lists →
      ◌≡◌ {A = Step (Unit {0})} (record { room = room; store = store; shelves = s.shelves }, Err f) (closes s k)
  closes_full f room store e r t told = (λ i. (record { room = r i; store = t i; shelves = s.shelves }, Err (e i))) ∙ closes_with no_lists told

  -- and where it was not
  pub closes_done : (l : Lists) (room : ℕ) (store : Store) → room ≡ s.room → listing s.room s.store d ≡ lists_done store l.lists l.reaches →
      ◌≡◌ {A = Step (Unit {0})} (record { room = room; store = store; shelves = set s.shelves k (shelf.Closed d l) }, Ok tt) (closes s k)
  closes_done l room store r told = (λ i. (record { room = r i; store = store; shelves = set s.shelves k (shelf.Closed d l) }, Ok tt)) ∙ closes_with (lists_done store l.lists l.reaches) told

-- a shelf that was closed has references that stand
pub closed_fits : (shelves : List Shelf) (s t left : Store) (k : ℕ) (d : Draft) (l : Lists) → left ≡ t → Fitting shelves (mark s) → Grown s t → d.pairs ≤ 48 → d.valid < mark s → d.decides < mark s → l.lists < mark t → l.reaches < mark t →
    Fitting (set shelves k (shelf.Closed d l)) (mark left)
closed_fits shelves s t left k d l is old grown few valid decides lists reaches = subst (λ u. Fitting (set shelves k (shelf.Closed d l)) (mark u)) (sym is) (fitting_put shelves (mark s) (mark t) k (shelf.Closed d l) old (omega (arith, grown_length grown)) at few)
  where
    at : (j : ℕ) → reference (shelf.Closed d l) j < mark t
    at zero = omega (arith, grown_length grown)
    at (suc zero) = omega (arith, grown_length grown)
    at (suc (suc zero)) = lists
    at (suc (suc (suc zero))) = reaches
    at (suc (suc (suc (suc j)))) = omega arith
