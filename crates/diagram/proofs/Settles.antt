-- What building leaves, once what was made on the way to a full table is taken away again.
use Rattle.std.proofs.Common.{◌≡◌, ℕ, suc, ◌-◌, Bool, true, ◌∷◌, length, drop, Ok, Err, Result, sym, ap, ◌∙◌, subst, arith}
use Rattle.diagram.specs.declared.diagrams.Diagrams.{Diagrams}
use Rattle.diagram.specs.declared.refusal.Refusal.{Refusal}
use Rattle.diagram.specs.declared.refusal.Refusal.TheVariants.{Full}
use Rattle.diagram.specs.declared.table.TableFull.{TableFull}
use Rattle.diagram.specs.Building.{Builds, Settled}
use Rattle.diagram.specs.Calls.{Answers}
use Rattle.diagram.specs.Held.{store_of}
use Rattle.diagram.specs.Store.{Store, Outcome, done, Grown, still, newer}
use Rattle.diagram.proofs.Descents.{Descent, Descends, Ran}
use Rattle.diagram.proofs.Stands.{grown_length}
use Rattle.diagram.proofs.Steps.{comes, came}
use Rattle.diagram.proofs.Words.{length-stored}

-- without its newer nodes a store is the older one
grown_drop : {s t : Store} → Grown s t → drop (length t - length s) t ≡ s
grown_drop {s} {t} still = let none : length s - length s ≡ 0 = omega arith in ap (λ n. drop n s) none
grown_drop {s} {t} (newer {t = u} n g) =
    let more : suc (length u) - length s ≡ suc (length u - length s) = omega (arith, grown_length g) in
    ap (λ k. drop k (n ∷ u)) more ∙ grown_drop g

-- rolled back to where it began, the store is as before
pub rolled_back : {o : Outcome} {old mid : Diagrams} {built : Result ℕ TableFull} {t : Store} → Builds o old mid built → t ≡ drop (length (store_of mid) - old.fill) (store_of mid) → t ≡ store_of old
rolled_back {o} {old} {mid} {built} {t} b is = is ∙ ap (λ n. drop (length (store_of mid) - n) (store_of mid)) (sym (length-stored old.words.now old.fill)) ∙ grown_drop b.grown

module _ {o : Outcome} {old mid : Diagrams} (new : Diagrams) where
  pub settled : {known orders : Bool} → known ≡ true → orders ≡ true → (built : Result ℕ TableFull) (r : Result ℕ Refusal) → Builds o old mid built → Settled mid old.fill built new r → Answers known orders o (store_of old) (store_of new) r
  settled known orders (Ok x) r b (is, same, room) = rw is (known, orders, b.told ∙ ap (λ t. done t x) (sym same))
  settled known orders (Err e) r b (is, left, room) = rw is (known, orders, b.told, rolled_back b left)

  pub settled_grown : (built : Result ℕ TableFull) (r : Result ℕ Refusal) → Builds o old mid built → Settled mid old.fill built new r → Grown (store_of old) (store_of new)
  settled_grown (Ok x) r b (is, same, room) = subst (Grown (store_of old)) (sym same) b.grown
  settled_grown (Err e) r b (is, left, room) = subst (Grown (store_of old)) (sym (rolled_back b left)) still

-- what holds of whatever comes of x, and of each refusal, holds of the answer
module _ {X : Type 0} {d : Descent X} (so : Descends d) {old mid : Diagrams} (new : Diagrams) {x : X} (st : d.Stands (store_of old) x) (P : Result ℕ Refusal → Type 0) where
  pub settled_holds : ((y : ℕ) → Ran d 48 (store_of old) x (store_of new) y → P (Ok y)) → P (Err Full) → (built : Result ℕ TableFull) (r : Result ℕ Refusal) → Builds (comes d old x) old mid built → Settled mid old.fill built new r → P r
  settled_holds each none (Ok y) r b (is, same, room) = rw is (each y (subst (λ t. Ran d 48 (store_of old) x t y) (sym same) (came so st b)))
  settled_holds each none (Err e) r b (is, left, room) = rw is none
