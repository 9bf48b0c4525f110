-- What holds of every sound store.
use Rattle.std.specs.Prelude.{◌≡◌, ℕ, ◌<◌, ◌≤◌, true, ◌↔◌}
use Rattle.diagram.specs.declared.rule.Rule.{Rule}
use Rattle.diagram.specs.Closing.{closed, ContainedIn, Coded, Bound}
use Rattle.diagram.specs.Combining.{combined}
use Rattle.diagram.specs.Fixing.{fixed}
use Rattle.diagram.specs.Kinds.{Joins, either, union, has}
use Rattle.diagram.specs.Rules.{value_of}
use Rattle.diagram.specs.Store.{Store, Query, mark, top, eval, done, Sound, Grown}

-- newer nodes never change what an older reference evaluates to
abbrev pub Extension : Type 0
Extension = (s t : Store) → Grown s t → (r : ℕ) → r < mark s → (top t r ≡ top s r) × ((q : Query) → eval t r q ≡ eval s r q)

-- evaluation depends only on the pairs from the top pair on
abbrev pub Dependence : Type 0
Dependence = (s : Store) → Sound s → (r : ℕ) → r < mark s → (p q : Query) → ((i : ℕ) → top s r ≤ i → i < 48 → p i ≡ q i) → eval s r p ≡ eval s r q

-- two references are equal exactly when they evaluate alike at every query
abbrev pub Canonicity : Type 0
Canonicity = (s : Store) → Sound s → (a b : ℕ) → a < mark s → b < mark s → (a ≡ b) ↔ ((q : Query) → eval s a q ≡ eval s b q)

-- what was combined once is found again in every later store, with no new node and however much room there is
abbrev pub Stability : Type 0
Stability =
    (rule : Rule) (room : ℕ) (s : Store) (a b : ℕ) → Sound s → a < mark s → b < mark s → (t : Store) (r : ℕ) → combined room s (value_of rule) a b ≡ done t r →
    (other : ℕ) (u : Store) → Grown t u → Sound u → combined other u (value_of rule) a b ≡ done u r

-- the same of a fixed pair
abbrev pub FixedAgain : Type 0
FixedAgain =
    (j room : ℕ) (s : Store) (a : ℕ) → j < 48 → Sound s → a < mark s → (t : Store) (r : ℕ) → fixed room s j a ≡ done t r →
    (other : ℕ) (u : Store) → Grown t u → Sound u → fixed other u j a ≡ done u r

-- and of a closing
abbrev pub ClosedAgain : Type 0
ClosedAgain =
    (rule : Rule) (room : ℕ) (s : Store) (a : ℕ) → Sound s → a < mark s → (t : Store) (r : ℕ) → closed room s (value_of rule) a ≡ done t r →
    (other : ℕ) (u : Store) → Grown t u → Sound u → closed other u (value_of rule) a ≡ done u r

-- whatever the kind of leaf: at every query the closed diagram is the least upper bound of the diagram over all queries
-- that contain it
abbrev pub LeastUpperBound : Type 0
LeastUpperBound =
    (rule : Rule) (codes : ℕ) → Joins codes (value_of rule) → (room : ℕ) (s : Store) (a : ℕ) → Sound s → a < mark s → Coded codes (eval s a) →
    (t : Store) (r : ℕ) → closed room s (value_of rule) a ≡ done t r → (q : Query) → Bound codes (value_of rule) (eval s a) q (eval t r q)

-- a decision is in the closed diagram's set at q exactly when some query that contains q has it in the diagram's set
abbrev pub DecisionStillPossible : Type 0
DecisionStillPossible =
    (room : ℕ) (s : Store) (a : ℕ) → Sound s → a < mark s → (t : Store) (r : ℕ) → closed room s union a ≡ done t r →
    (q : Query) (d : ℕ) → d < 3 → (has (eval t r q) d ≡ true) ↔ ContainedIn (λ p. has (eval s a p) d ≡ true) q

-- a closed truth diagram is 1 at q exactly when the diagram is 1 at some query that contains q
abbrev pub TruthStillPossible : Type 0
TruthStillPossible =
    (room : ℕ) (s : Store) (a : ℕ) → Sound s → a < mark s → Coded 2 (eval s a) → (t : Store) (r : ℕ) → closed room s either a ≡ done t r →
    (q : Query) → (eval t r q ≡ 1) ↔ ContainedIn (λ p. eval s a p ≡ 1) q

-- all of these together
pub record Laws : Type 0 where
  pub extension : Extension
  pub dependence : Dependence
  pub canonicity : Canonicity
  pub stability : Stability
  pub fixed_again : FixedAgain
  pub closed_again : ClosedAgain
  pub least_upper_bound : LeastUpperBound
  pub decision_still_possible : DecisionStillPossible
  pub truth_still_possible : TruthStillPossible
