-- Kinds of leaf: how many codes there are, and the join that makes one code of two.
use Rattle.std.specs.Prelude.{◌≡◌, ℕ, ◌+◌, ◌*◌, ◌/◌, ◌%◌, ◌^◌, ◌<◌, ◌≤◌, Bool, List, [], ◌∷◌, ◌==◌, bit_or}
use Rattle.diagram.specs.Rules.{entry}

-- what is owed of the join of a kind whose codes are 0 to codes − 1
pub record Joins (codes : ℕ) (join : ℕ → ℕ → ℕ) : Type 0 where
  pub few : codes ≤ 8
  pub within : (x y : ℕ) → x < codes → y < codes → join x y < codes
  pub associative : (x y z : ℕ) → x < codes → y < codes → z < codes → join (join x y) z ≡ join x (join y z)
  pub commutative : (x y : ℕ) → x < codes → y < codes → join x y ≡ join y x
  pub idempotent : (x : ℕ) → x < codes → join x x ≡ x

-- the order that a join gives: joining x to y adds nothing
abbrev pub Under : (ℕ → ℕ → ℕ) → ℕ → ℕ → Type 0
Under join x y = join x y ≡ y

-- the nine entries of "or" on the truth values 0 and 1
abbrev pub or_entries : List ℕ
or_entries = 0 ∷ 1 ∷ 0 ∷ 1 ∷ 1 ∷ 0 ∷ 0 ∷ 0 ∷ 0 ∷ []

-- truth: 1 where either is 1
abbrev pub either : ℕ → ℕ → ℕ
either x y = entry or_entries (3 * x + y)

-- sets of decisions: what stands in either. The decision d, 0 deny, 1 allow, 2 not applicable, adds 2^d to the set's code
abbrev pub union : ℕ → ℕ → ℕ
union = bit_or

-- is the decision d in the set?
abbrev pub has : ℕ → ℕ → Bool
has set d = (set / 2 ^ d) % 2 == 1
