-- A tree as a formula on one line.
use Rattle.std.specs.Prelude.{ℕ, List, ◌++◌, codes}
use Rattle.policy.specs.Codes.{change_code, operator_code}
use Rattle.policy.specs.Commands.{Context}
use Rattle.inspect.specs.declared.formula.Target as t
use Rattle.inspect.specs.declared.formula.Target.TheVariants as target_of_kind
use Rattle.inspect.specs.declared.formula.Policy as q
use Rattle.inspect.specs.declared.formula.Policy.TheVariants as policy_of_kind
use Rattle.inspect.specs.Names.{change_name, operator_name, constant_name, pair_text}

-- an operator before its one operand
abbrev pub prefixed : ℕ → List ℕ → List ℕ
prefixed code a = change_name code ++ (codes " " ++ a)

-- an operator between its two operands
abbrev pub infixed : ℕ → List ℕ → List ℕ → List ℕ
infixed code a b = codes "(" ++ (a ++ (codes " " ++ (operator_name code ++ (codes " " ++ (b ++ codes ")")))))

-- a target as a formula
abbrev pub target_text : Context → t.Target → List ℕ
target_text x (target_of_kind.Pair n) = pair_text x n
target_text x (target_of_kind.Change' o b u) = prefixed (change_code o) (target_text x u)
target_text x (target_of_kind.Combine' o b u d v) = infixed (operator_code o) (target_text x u) (target_text x v)

-- a policy as a formula
abbrev pub policy_text : Context → q.Policy → List ℕ
policy_text x (policy_of_kind.Always d) = constant_name d
policy_text x (policy_of_kind.Change' o b r) = prefixed (change_code o) (policy_text x r)
policy_text x (policy_of_kind.Combine' o b r d s) = infixed (operator_code o) (policy_text x r) (policy_text x s)
policy_text x (policy_of_kind.Guard' u b r) = codes "(" ++ (target_text x u ++ (codes " => " ++ (policy_text x r ++ codes ")")))
