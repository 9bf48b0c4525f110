-- Sets of pairs as 64-bit numbers: the pair i weighs 2^i.
use Rattle.std.specs.Prelude.{◌≡◌, ℕ, ◌/◌, ◌%◌, ◌^◌, Bool, ◌&&◌, ◌==◌, nat_lt}
use Rattle.source.specs.Meanings.{Meaning, tells}

-- is the pair in the set?
abbrev pub has : ℕ → ℕ → Bool
has set i = (set / 2 ^ i) % 2 == 1

-- the query that a source tells where there are n pairs: the told pairs below n
abbrev pub QueryOf : ℕ → Meaning → ℕ → Type 0
QueryOf n m set = (i : ℕ) → has set i ≡ (nat_lt i n && tells m i)
