-- The extended answer: every decision that the pairs which were not sent could still bring.
use Rattle.std.specs.Prelude.{◌≡◌, ℕ, ◌+◌, Bool, true, cond, ◌&&◌, ◌==◌}
use Rattle.policy.specs.declared.decision.Decision.{Decision}
use Rattle.policy.specs.declared.decision.Decision.TheVariants.{Deny, Allow, NotApplicable}
use Rattle.policy.specs.Values.{number, weight}
use Rattle.policy.specs.Queries.{Query, Contained, some_query}
use Rattle.policy.specs.Policies.{File, valid, decision}

-- The extended answer to q has d: some valid query that contains q is decided d. Queries between the two need not be valid.
pub record Extended (f : File) (q : Query) (d : Decision) : Type 0 where
  pub later : Query
  pub contains : Contained f.pairs q later
  pub holds : valid f later ≡ true
  pub decides : decision f later ≡ number d

-- is the query valid and decided d?
abbrev pub valid_with : File → Decision → Query → Bool
valid_with f d p = valid f p && decision f p == number d

-- the same as Extended, as a test that tries every query over the file's pairs
abbrev pub is_listed : File → Query → Decision → Bool
is_listed f q d = some_query f.pairs (valid_with f d) q

-- a set of decisions as a number
abbrev pub set_code : (Decision → Bool) → ℕ
set_code has = cond (has Deny) (weight Deny) 0 + (cond (has Allow) (weight Allow) 0 + cond (has NotApplicable) (weight NotApplicable) 0)

-- the code of the extended answer to q
abbrev pub answer_code : File → Query → ℕ
answer_code f q = set_code (is_listed f q)
