-- What holds of whatever was built, and of one building after another.
use Rattle.std.proofs.Common.{◌≡◌, ℕ, ◌<◌, ◌≤◌, ap, ◌∙◌, subst}
use Rattle.diagram.specs.Store.{Store, Query, mark, top, eval, Outcome, full, done, bind, Sound, Grown}
use Rattle.diagram.proofs.Stands.{grown_trans}

-- P of the store and the reference, where there is one
abbrev pub Holds : (Store → ℕ → Type 0) → Outcome → Type 0
Holds P full = Unit {0}
Holds P (done s r) = P s r

pub bind_holds : (P Q : Store → ℕ → Type 0) (o : Outcome) (k : Store → ℕ → Outcome) → Holds P o → ((s : Store) (r : ℕ) → P s r → Holds Q (k s r)) → Holds Q (bind o k)
bind_holds P Q full k h more = tt
bind_holds P Q (done s r) k h more = more s r h

pub bind_same : (P : Store → ℕ → Type 0) (o p : Outcome) (k m : Store → ℕ → Outcome) → o ≡ p → Holds P o → ((s : Store) (r : ℕ) → P s r → k s r ≡ m s r) → bind o k ≡ bind p m
bind_same P full p k m e h each = ap (λ x. bind x m) e
bind_same P (done s r) p k m e h each = each s r h ∙ ap (λ x. bind x m) e

pub holds_by : (P Q : Store → ℕ → Type 0) (o : Outcome) → Holds P o → ((s : Store) (r : ℕ) → P s r → Q s r) → Holds Q o
holds_by P Q full h more = tt
holds_by P Q (done s r) h more = more s r h

pub holds_at : (P : Store → ℕ → Type 0) (o : Outcome) (s : Store) (r : ℕ) → Holds P o → o ≡ done s r → P s r
holds_at P o s r h e = subst (Holds P) e h

-- an outcome that goes on from another
pub bind_full : (k : Store → ℕ → Outcome) {o p : Outcome} → o ≡ bind p k → p ≡ full → o ≡ full
bind_full k e f = e ∙ ap (λ x. bind x k) f

pub bind_done : (k : Store → ℕ → Outcome) {o p : Outcome} {t : Store} {x : ℕ} → o ≡ bind p k → p ≡ done t x → o ≡ k t x
bind_done k e f = e ∙ ap (λ x. bind x k) f

-- building so from s came to t and x, which tests no pair before v, and evaluates so. Built anew from any later store,
-- it comes to the same reference, with no new node
pub record Built (build : ℕ → Store → Outcome) (v : ℕ) (Means : (Query → ℕ) → Type 0) (s t : Store) (x : ℕ) : Type 0 where
  pub grown : Grown s t
  pub sound : Sound t
  pub below : x < mark t
  pub later : v ≤ top t x
  pub means : Means (eval t x)
  pub stable : (room : ℕ) (u : Store) → Grown t u → Sound u → build room u ≡ done u x

-- one building after another
module _ (one : ℕ → Store → Outcome) (next : ℕ → ℕ → Store → Outcome) where
  abbrev both : ℕ → Store → Outcome
  both room u = bind (one room u) (λ u₁ x. next x room u₁)

  built_then : {v w : ℕ} {M N : (Query → ℕ) → Type 0} {s t u : Store} {x y : ℕ} → Built one v M s t x → Built (next x) w N t u y → Built both w N s u y
  built_then a b = record {
    grown = grown_trans a.grown b.grown;
    sound = b.sound;
    below = b.below;
    later = b.later;
    means = b.means;
    stable = λ room u g so. ap (λ o. bind o (λ u₁ x. next x room u₁)) (a.stable room u (grown_trans b.grown g) so) ∙ b.stable room u g so;
  }

  pub holds_then : (v w : ℕ) (M N : (Query → ℕ) → Type 0) (room : ℕ) (s : Store) →
      Holds (Built one v M s) (one room s) → ((t : Store) (x : ℕ) → Built one v M s t x → Holds (Built (next x) w N t) (next x room t)) → Holds (Built both w N s) (both room s)
  holds_then v w M N room s h more =
      bind_holds (Built one v M s) (Built both w N s) (one room s) _ h
      (λ t x a. holds_by (Built (next x) w N t) (Built both w N s) (next x room t) (more t x a) (λ u y b. built_then a b))
