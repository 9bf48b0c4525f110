-- The rules by which two leaf codes make a third.
use Rattle.std.specs.Prelude.{◌≡◌, ℕ, zero, suc, ◌+◌, ◌*◌, ◌/◌, ◌%◌, ◌<◌, cond, List, [], ◌∷◌, ◌==◌, bit_or, slice_index}
use Rattle.diagram.specs.declared.rule.Rule.{Rule}
use Rattle.diagram.specs.declared.rule.Rule.TheVariants.{One, Two, Union, Where}

-- an entry of a rule, and 0 where there is none; only its three lowest bits count, so that it is a leaf's code
abbrev pub entry : List ℕ → ℕ → ℕ
entry entries i = slice_index entries i % 8

-- the second where the first is 1
abbrev pub where_one : ℕ → ℕ → ℕ
where_one x y = cond (x == 1) y 0

-- the code that a rule makes of the codes x and y
abbrev pub value_of : Rule → ℕ → ℕ → ℕ
value_of (One entries) x y = entry entries x
value_of (Two entries) x y = entry entries (3 * x + y)
value_of Union x y = bit_or x y
value_of Where x y = where_one x y

-- entries as the digits of one number, the first the lowest
unfoldable pub number : List ℕ → ℕ
number [] = 0
number (d ∷ ds) = d % 8 + 8 * number ds

-- a digit of n to the base 8, counted from the lowest
unfoldable pub digit : ℕ → ℕ → ℕ
digit n zero = n % 8
digit n (suc i) = digit (n / 8) i

-- a rule as one number, which is never 0
abbrev pub key_of : Rule → ℕ
key_of (One entries) = 4 * number entries + 1
key_of (Two entries) = 4 * number entries + 2
key_of Union = 3
key_of Where = 7

-- the rule that has this key
unfoldable pub keyed : ℕ → ℕ → ℕ → ℕ
keyed key x y =
    cond (key % 4 == 1) (digit (key / 4) x)
    (cond (key % 4 == 2) (digit (key / 4) (3 * x + y))
    (cond (key == 7) (where_one x y) (bit_or x y)))

-- rules with one key have the same values
abbrev pub ToldApart : Rule → Type 0
ToldApart rule = (other : Rule) → key_of other ≡ key_of rule → (x y : ℕ) → value_of other x y ≡ value_of rule x y

-- a rule takes leaves to leaves
abbrev pub Leaves : (ℕ → ℕ → ℕ) → Type 0
Leaves rule = (x y : ℕ) → x < 8 → y < 8 → rule x y < 8
