-- What the calls that ask a shelf answer.
use Rattle.std.specs.Prelude.{ℕ, zero, suc, ◌<◌, ◌≤◌, Bool, cond, ◌&&◌, Ok, Err, Result, ◌==◌, nat_lt, slice_index_or}
use Rattle.diagram.specs.Store.{Query, mark, eval}
use Rattle.policy.specs.declared.decision.Decision.{Decision}
use Rattle.policy.specs.declared.decision.Decision.TheVariants.{Deny, Allow, NotApplicable}
use Rattle.source.specs.Meanings.{Meaning, tells}
use Rattle.bench.specs.declared.fault.Fault.{Fault}
use Rattle.bench.specs.declared.fault.Fault.TheVariants.{Own}
use Rattle.bench.specs.declared.fault.Reason.{Reason}
use Rattle.bench.specs.declared.fault.Reason.TheVariants.{NoShelf, Empty, NotClosed, NotValid}
use Rattle.bench.specs.declared.shelf.Draft.{Draft}
use Rattle.bench.specs.declared.shelf.Lists.{Lists}
use Rattle.bench.specs.declared.shelf.Shelf.{Shelf}
use Rattle.bench.specs.declared.shelf.Shelf.TheVariants as shelf
use Rattle.bench.specs.State.{State}

-- a refusal of the bench's own
abbrev pub refuse : {A : Type 0} → ℕ → Reason → Result A Fault
refuse k r = Err (Own k r)

-- a call goes on with what was found, or is refused
abbrev pub then : {A B : Type 0} → Result A Fault → (A → Result B Fault) → Result B Fault
then (Ok x) next = next x
then (Err f) next = Err f

-- what stands on shelf k, of which there are four
abbrev pub shelf_at : State → ℕ → Result Shelf Fault
shelf_at s k = cond (nat_lt k 4) (Ok (slice_index_or s.shelves k shelf.Empty)) (refuse k NoShelf)

-- the policy on a shelf that is not empty, draft or closed
abbrev pub policy_on : ℕ → Shelf → Result Draft Fault
policy_on k shelf.Empty = refuse k Empty
policy_on k (shelf.Draft d) = Ok d
policy_on k (shelf.Closed d l) = Ok d

-- the policy on shelf k, draft or closed, or the refusal
abbrev pub policy_at : State → ℕ → Result Draft Fault
policy_at s k = then (shelf_at s k) (policy_on k)

-- the policy and the lists of a closed shelf
abbrev pub closed_on : ℕ → Shelf → Result (Draft × Lists) Fault
closed_on k shelf.Empty = refuse k Empty
closed_on k (shelf.Draft d) = refuse k NotClosed
closed_on k (shelf.Closed d l) = Ok (d, l)

-- the policy on shelf k and its lists, where it is closed, or the refusal
abbrev pub closed_at : State → ℕ → Result (Draft × Lists) Fault
closed_at s k = then (shelf_at s k) (closed_on k)

-- the query that a source tells on a shelf with n pairs: the told pairs below n
abbrev pub query_of : ℕ → Meaning → Query
query_of n m i = nat_lt i n && tells m i

-- what the source's query comes to
abbrev pub leaf_of : State → Draft → Meaning → ℕ → ℕ
leaf_of s d m r = eval s.store r (query_of d.pairs m)

-- the decision that a leaf stands for
abbrev pub decision_of : ℕ → Decision
decision_of zero = Deny
decision_of (suc zero) = Allow
decision_of (suc (suc x)) = NotApplicable

-- decide: valid or not, draft or closed
abbrev pub decided : State → ℕ → Meaning → Result Decision Fault
decided s k m = then (policy_at s k) (λ d. Ok (decision_of (leaf_of s d m d.decides)))

-- the empty set stands at queries that are not valid, and is no answer
abbrev pub list_of : ℕ → ℕ → Result ℕ Fault
list_of k zero = refuse k NotValid
list_of k (suc x) = Ok (suc x)

-- extend: the decisions that a closed shelf lists for the source's query, as a set
abbrev pub extended : State → ℕ → Meaning → Result ℕ Fault
extended s k m = then (closed_at s k) (λ c. list_of k (leaf_of s c.0 m c.1.lists))

-- reach: what a closed shelf's diagram of reached queries says of the source's query
abbrev pub reached : State → ℕ → Meaning → Result Bool Fault
reached s k m = then (closed_at s k) (λ c. Ok (leaf_of s c.0 m c.1.reaches == 1))

-- root: the reference of a closed shelf's diagram of lists
abbrev pub rooted : State → ℕ → Result ℕ Fault
rooted s k = then (closed_at s k) (λ c. Ok c.1.lists)

-- what was found has references that stand in the table, and at most 48 pairs
abbrev pub DraftStands : State → Result Draft Fault → Type 0
DraftStands s (Ok d) = (d.pairs ≤ 48) × (d.valid < mark s.store) × (d.decides < mark s.store)
DraftStands s (Err f) = Unit {0}

-- the same of a closed shelf
abbrev pub ClosedStands : State → Result (Draft × Lists) Fault → Type 0
ClosedStands s (Ok c) = (c.0.pairs ≤ 48) × (c.1.lists < mark s.store) × (c.1.reaches < mark s.store)
ClosedStands s (Err f) = Unit {0}
