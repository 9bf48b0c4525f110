-- The power of a pair over a decision.
use Rattle.std.specs.Prelude.{ℕ, Bool, not, ◌&&◌, ◌==◌}
use Rattle.policy.specs.declared.decision.Decision.{Decision}
use Rattle.policy.specs.Values.{number}
use Rattle.policy.specs.Queries.{Query, none, adding, some_pair, tally}
use Rattle.policy.specs.Policies.{File, valid, decision}
use Rattle.policy.specs.Extended.{valid_with}

-- The pair i is critical for d at a valid query that is not decided d, if with i added it is valid and decided d.
abbrev pub critical : File → Decision → ℕ → Query → Bool
critical f d i q = (valid f q && not (decision f q == number d)) && valid_with f d (adding q i)

-- the swings of the pair i for d: at how many queries i is critical
abbrev pub swings : File → ℕ → Decision → ℕ
swings f i d = tally f.pairs (critical f d i) none

-- the whole for d: how many queries have at least one critical pair
abbrev pub whole : File → Decision → ℕ
whole f d = tally f.pairs (λ q. some_pair f.pairs (λ i. critical f d i q)) none
