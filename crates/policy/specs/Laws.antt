-- Laws of every file that reads well.
use Rattle.std.specs.Prelude.{◌≡◌, ℕ, ◌+◌, ◌<◌, ◌≤◌, true, false, ◌↔◌, List, [], ◌∷◌, ◌≢◌}
use Rattle.policy.specs.declared.decision.Decision.{Decision}
use Rattle.policy.specs.Values.{number}
use Rattle.policy.specs.Queries.{Query, Contained, Agree}
use Rattle.policy.specs.Policies.{Attribute, pair, altered, File, value, valid, decision}
use Rattle.policy.specs.Extended.{Extended, is_listed}
use Rattle.policy.specs.Reading.{well, reads, unopened, commands_of, stack_of, as_policy}

-- a pair of the attribute
pub record Has (a : Attribute) (i : ℕ) : Type 0 where
  pub from : a.start ≤ i
  pub below : i < a.start + a.count

-- none of the attribute's pairs is present
abbrev pub Missing : Attribute → Query → Type 0
Missing a q = (i : ℕ) → Has a i → q i ≡ false

-- the laws of every file that reads well
pub record Lawful (f : File) : Type 0 where
  -- a decision and validity depend only on the pairs below n
  pub decision_by_pairs : (p q : Query) → Agree f.pairs p q → decision f p ≡ decision f q
  pub valid_by_pairs : (p q : Query) → Agree f.pairs p q → valid f p ≡ valid f q
  -- every decision is deny, allow or not applicable
  pub decided : (q : Query) → (d : Decision) × (decision f q ≡ number d)
  -- a pair target whose attribute is missing is never 1, and negating it never makes it 1
  pub missing_no_match : (a : Attribute) (i : ℕ) (q : Query) → Has a i → Missing a q → value (pair a i) q ≢ 1
  pub missing_not_negated : (a : Attribute) (i : ℕ) (q : Query) → Has a i → Missing a q → value (altered 0 (pair a i)) q ≢ 1
  -- of two valid queries, the one contained in the other has every decision of the other's extended answer
  pub telling_less_lists_more : (q p : Query) (d : Decision) → valid f q ≡ true → valid f p ≡ true → Contained f.pairs q p → Extended f p d → Extended f q d
  -- the decision of a valid query is in its own extended answer
  pub own_decision_listed : (q : Query) (d : Decision) → valid f q ≡ true → decision f q ≡ number d → Extended f q d
  -- trying every query over the file's pairs finds just the decisions of the extended answer
  pub listed_exactly : (q : Query) (d : Decision) → (is_listed f q d ≡ true) ↔ Extended f q d

-- The commands of a file that reads well leave just one item, and that is the file's policy.
pub record OnePolicy (file : List ℕ) (f : File) : Type 0 where
  pub one : stack_of unopened.context (commands_of file) [] ≡ as_policy f.policy ∷ []

-- whatever file these bytes read to keeps the laws
pub record LawfullyRead (file : List ℕ) : Type 0 where
  pub lawful : (f : File) → reads file ≡ well f → Lawful f
  pub one_policy : (f : File) → reads file ≡ well f → OnePolicy file f
