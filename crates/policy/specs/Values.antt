-- Values and operators.
--
-- A target or a policy has one of three values. Of a target, 0 is no match, 1 is match and 2 is indeterminate.
-- Of a policy, 0 is deny, 1 is allow and 2 is not applicable. Bytes are written in hexadecimal.
use Rattle.std.specs.Prelude.{ℕ, ◌+◌, ◌-◌, ◌*◌, Bool, cond, ◌&&◌, ◌||◌, List, [], ◌∷◌, length, nat_le, nat_lt, slice_index, slice_index_or}
use Rattle.policy.specs.declared.decision.Decision.{Decision}
use Rattle.policy.specs.declared.decision.Decision.TheVariants.{Deny, Allow, NotApplicable}

-- 0, 1 or 2
abbrev pub Value : Type 0
Value = ℕ

-- the value of a policy that decides so
abbrev pub number : Decision → Value
number Deny = 0
number Allow = 1
number NotApplicable = 2

-- what a decision adds to the code of a set of decisions
abbrev pub weight : Decision → ℕ
weight Deny = 1
weight Allow = 2
weight NotApplicable = 4

-- an operator by its table: three digits where it has one operand, nine where it has two
abbrev pub Digits : Type 0
Digits = List ℕ

-- the one-operand codes: what becomes of 0, 1 and 2
-- 00 exchanges 0 and 1, 01 exchanges 1 and 2, 02 turns 2 into 0
abbrev pub one_operand : List Digits
one_operand = (1 ∷ 0 ∷ 2 ∷ []) ∷ (0 ∷ 2 ∷ 1 ∷ []) ∷ (0 ∷ 1 ∷ 0 ∷ []) ∷ []

-- a one-operand code on a value
unfoldable pub change : ℕ → Value → Value
change code v = slice_index (slice_index_or one_operand code []) v

-- is it a one-operand code?
abbrev pub is_change : ℕ → Bool
is_change code = nat_le code 2

-- a two-operand operator at two values: the digit 3 × first + second
unfoldable pub apply : Digits → Value → Value → Value
apply ds first second = slice_index ds (3 * first + second)

-- the operators that every file has, with the codes 10 to 15:
-- strong conjunction, weak conjunction, deny overrides, strong disjunction, weak disjunction, allow overrides
abbrev pub standard : List Digits
standard =
    (0 ∷ 0 ∷ 0 ∷ 0 ∷ 1 ∷ 2 ∷ 0 ∷ 2 ∷ 2 ∷ [])
    ∷ (0 ∷ 0 ∷ 2 ∷ 0 ∷ 1 ∷ 2 ∷ 2 ∷ 2 ∷ 2 ∷ [])
    ∷ (0 ∷ 0 ∷ 0 ∷ 0 ∷ 1 ∷ 1 ∷ 0 ∷ 1 ∷ 2 ∷ [])
    ∷ (0 ∷ 1 ∷ 2 ∷ 1 ∷ 1 ∷ 1 ∷ 2 ∷ 1 ∷ 2 ∷ [])
    ∷ (0 ∷ 1 ∷ 2 ∷ 1 ∷ 1 ∷ 2 ∷ 2 ∷ 2 ∷ 2 ∷ [])
    ∷ (0 ∷ 1 ∷ 0 ∷ 1 ∷ 1 ∷ 1 ∷ 0 ∷ 1 ∷ 2 ∷ [])
    ∷ []

-- the codes 10 to 15 (hexadecimal)
abbrev pub is_standard : ℕ → Bool
is_standard code = nat_le 0x10 code && nat_le code 0x15

-- a file's own operators have the codes 20, 21, .. in the order of their declarations
abbrev pub is_own : List Digits → ℕ → Bool
is_own own code = nat_le 0x20 code && nat_lt code (0x20 + length own)

-- is it a two-operand code, whatever own operators a file has? There can be eight
abbrev pub is_operator : ℕ → Bool
is_operator code = is_standard code || (nat_le 0x20 code && nat_le code 0x27)

-- the operator of a two-operand code, where the file has these own operators
unfoldable pub digits_of : List Digits → ℕ → Digits
digits_of own code = cond (nat_le 0x20 code) (slice_index_or own (code - 0x20) []) (slice_index_or standard (code - 0x10) [])
