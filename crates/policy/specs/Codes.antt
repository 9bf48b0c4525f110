-- The program's enums of operators, by the codes that the format gives them.
use Rattle.std.specs.Prelude.{◌≡◌, ℕ, Bool, false, Result, MatchResult}
use Rattle.policy.specs.declared.code.UnknownCode.{UnknownCode}
use Rattle.policy.specs.declared.code.Change.{Change}
use Rattle.policy.specs.declared.code.Change.TheVariants.{Not, E1, OrDeny}
use Rattle.policy.specs.declared.code.Operator.{Operator}
use Rattle.policy.specs.declared.code.Operator.TheVariants.{And, WeakAnd, DenyOverrides, Or, WeakOr, AllowOverrides, Op20, Op21, Op22, Op23, Op24, Op25, Op26, Op27}

-- the code of a one-operand operator
abbrev pub change_code : Change → ℕ
change_code Not = 0x00
change_code E1 = 0x01
change_code OrDeny = 0x02

-- the code of a two-operand operator
abbrev pub operator_code : Operator → ℕ
operator_code And = 0x10
operator_code WeakAnd = 0x11
operator_code DenyOverrides = 0x12
operator_code Or = 0x13
operator_code WeakOr = 0x14
operator_code AllowOverrides = 0x15
operator_code Op20 = 0x20
operator_code Op21 = 0x21
operator_code Op22 = 0x22
operator_code Op23 = 0x23
operator_code Op24 = 0x24
operator_code Op25 = 0x25
operator_code Op26 = 0x26
operator_code Op27 = 0x27

-- the answer of decoding a byte: what has it for its code; or the byte back, which is no code
abbrev pub Decodes : {A : Type 0} → (A → ℕ) → (ℕ → Bool) → ℕ → Result A UnknownCode → Type 0
Decodes code is_code byte r = MatchResult r (λ x. code x ≡ byte) (λ e. (e.0 ≡ byte) × (is_code byte ≡ false))
