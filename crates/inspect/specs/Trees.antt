-- What the trees of a formula stand for: policies, after the declarations of a file.
use Rattle.std.specs.Prelude.{◌≡◌, List, ◌∷◌, map, reverse, Ok, Err, Result}
use Rattle.policy.specs.Codes.{change_code, operator_code}
use Rattle.policy.specs.Commands.{Context}
use Rattle.policy.specs.Policies as p
use Rattle.policy.specs.Reading.{Item, as_target, as_policy, target_of, Reading, fault, well}
use Rattle.policy.specs.Values.{digits_of}
use Rattle.inspect.specs.declared.failure.Failure.{Failure}
use Rattle.inspect.specs.declared.formula.Target as t
use Rattle.inspect.specs.declared.formula.Target.TheVariants as target_of_kind
use Rattle.inspect.specs.declared.formula.Policy as q
use Rattle.inspect.specs.declared.formula.Policy.TheVariants as policy_of_kind
use Rattle.inspect.specs.declared.formula.Item as i
use Rattle.inspect.specs.declared.formula.Item.TheVariants as item_of_kind

-- the target that the program's tree stands for
abbrev pub target : Context → t.Target → p.Target
target x (target_of_kind.Pair n) = target_of x.attributes n
target x (target_of_kind.Change' o b u) = p.altered (change_code o) (target x u)
target x (target_of_kind.Combine' o b u d v) = p.joined (digits_of x.operators (operator_code o)) (target x u) (target x v)

-- the policy that the program's tree stands for
abbrev pub policy : Context → q.Policy → p.Policy
policy x (policy_of_kind.Always d) = p.always d
policy x (policy_of_kind.Change' o b r) = p.changed (change_code o) (policy x r)
policy x (policy_of_kind.Combine' o b r d s) = p.combined (digits_of x.operators (operator_code o)) (policy x r) (policy x s)
policy x (policy_of_kind.Guard' u b r) = p.guarded (target x u) (policy x r)

-- the item of the stack that the program's stands for
abbrev pub item : Context → i.Item → Item
item x (item_of_kind.Target u) = as_target (target x u)
item x (item_of_kind.Policy r) = as_policy (policy x r)

-- the last item first
abbrev pub stack : Context → List i.Item → List Item
stack x items = reverse (map (item x) items)

-- unless there is a failure, the item that takes the place of some others on every stack
abbrev pub Becomes : Result i.Item Failure → (Context → List Item → List Item) → Type 0
Becomes (Ok new) f = (x : Context) (s : List Item) → item x new ∷ s ≡ f x s
Becomes (Err e) f = Unit {0}

-- what a file declares
abbrev pub declared : p.File → Context
declared f = record { attributes = f.attributes; pairs = f.pairs; operators = f.operators }

-- unless there is a failure, the tree of the file's policy
abbrev pub Builds : Result q.Policy Failure → Reading → Type 0
Builds (Ok tree) (well f) = policy (declared f) tree ≡ f.policy
Builds (Ok tree) (fault n place) = Unit {0}
Builds (Err e) r = Unit {0}
