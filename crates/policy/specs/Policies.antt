-- Policies: what a file that reads well says, and what it decides.
--
-- A file is a value of the type File. How it is written as bytes plays no part here.
use Rattle.std.specs.Prelude.{ℕ, zero, suc, ◌+◌, Bool, true, cond, not, ◌&&◌, List, [], ◌∷◌, ◌==◌, nat_le}
use Rattle.policy.specs.declared.decision.Decision.{Decision}
use Rattle.policy.specs.Values.{Value, number, Digits, change, apply}
use Rattle.policy.specs.Queries.{Query}

-- An attribute. Its values are the pairs start, start + 1, .., as many as count says.
pub record Attribute : Type 0 where
  pub name : List ℕ
  pub start : ℕ
  pub count : ℕ

-- A target says whether a policy concerns a query.
pub data Target : Type 0 where
  -- one pair, with the attribute that it is a value of
  pair : Attribute → ℕ → Target
  -- a one-operand code
  altered : ℕ → Target → Target
  -- a two-operand operator
  joined : Digits → Target → Target → Target

-- A policy says what is decided.
pub data Policy : Type 0 where
  always : Decision → Policy
  changed : ℕ → Policy → Policy
  combined : Digits → Policy → Policy → Policy
  guarded : Target → Policy → Policy

-- A constraint says which queries are valid.
pub data Constraint : Type 0 where
  -- two pairs that never hold together
  never_both : ℕ → ℕ → Constraint
  at_most : Attribute → ℕ → Constraint
  at_least : Attribute → ℕ → Constraint

-- What a file that reads well says.
pub record File : Type 0 where
  pub attributes : List Attribute
  -- how many pairs the attributes have together
  pub pairs : ℕ
  pub operators : List Digits
  pub constraints : List Constraint
  pub policy : Policy

-- how many of the pairs start, start + 1, .. are present, looking at `count` of them
unfoldable pub present_from : Query → ℕ → ℕ → ℕ
present_from q start zero = 0
present_from q start (suc count) = cond (q start) 1 0 + present_from q (start + 1) count

-- how many pairs of the attribute are present; the attribute is missing where none is
abbrev pub present : Attribute → Query → ℕ
present a q = present_from q a.start a.count

-- A pair is 1 if it is present, 2 if its attribute is missing, and 0 otherwise.
unfoldable pub value : Target → Query → Value
value (pair a i) q = cond (q i) 1 (cond (present a q == 0) 2 0)
value (altered code t) q = change code (value t q)
value (joined ds t u) q = apply ds (value t q) (value u q)

-- A guarded policy is its policy where the target is 1, and 2 elsewhere.
unfoldable pub decides : Policy → Query → Value
decides (always d) q = number d
decides (changed code p) q = change code (decides p q)
decides (combined ds p r) q = apply ds (decides p q) (decides r q)
decides (guarded t p) q = cond (value t q == 1) (decides p q) 2

-- does the query keep the constraint?
unfoldable pub meets : Constraint → Query → Bool
meets (never_both i j) q = not (q i && q j)
meets (at_most a k) q = nat_le (present a q) k
meets (at_least a k) q = nat_le k (present a q)

-- does it keep all of them?
unfoldable pub meets_all : List Constraint → Query → Bool
meets_all [] q = true
meets_all (c ∷ cs) q = meets c q && meets_all cs q

-- what the file's policy decides on a query, valid or not
abbrev pub decision : File → Query → Value
decision f q = decides f.policy q

-- a query is valid if it meets every constraint
abbrev pub valid : File → Query → Bool
valid f q = meets_all f.constraints q
