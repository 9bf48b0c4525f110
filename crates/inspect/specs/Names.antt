-- What operators, decisions, attributes and pairs are called.
use Rattle.std.specs.Prelude.{ℕ, ◌-◌, cond, List, [], ◌++◌, Some, None, codes, decimal, Option, ◌==◌}
use Rattle.std.specs.List.{slice_get}
use Rattle.policy.specs.declared.decision.Decision.{Decision}
use Rattle.policy.specs.declared.decision.Decision.TheVariants.{Deny, Allow, NotApplicable}
use Rattle.policy.specs.Commands.{Context}
use Rattle.policy.specs.Policies as p
use Rattle.policy.specs.Reading.{attribute_with}
use Rattle.inspect.specs.Plain.{kept}

-- a one-operand code
abbrev pub change_name : ℕ → List ℕ
change_name code = cond (code == 0x00) (codes "not") (cond (code == 0x01) (codes "E1") (codes "or-deny"))

-- a two-operand code
unfoldable pub operator_name : ℕ → List ℕ
operator_name code =
    cond (code == 0x10) (codes "and") (
    cond (code == 0x11) (codes "weak-and") (
    cond (code == 0x12) (codes "deny-overrides") (
    cond (code == 0x13) (codes "or") (
    cond (code == 0x14) (codes "weak-or") (
    cond (code == 0x15) (codes "allow-overrides") (
    cond (code == 0x20) (codes "op20") (
    cond (code == 0x21) (codes "op21") (
    cond (code == 0x22) (codes "op22") (
    cond (code == 0x23) (codes "op23") (
    cond (code == 0x24) (codes "op24") (
    cond (code == 0x25) (codes "op25") (
    cond (code == 0x26) (codes "op26") (codes "op27")))))))))))))

-- the name of a decision
abbrev pub constant_name : Decision → List ℕ
constant_name Deny = codes "deny"
constant_name Allow = codes "allow"
constant_name NotApplicable = codes "not-applicable"

-- the name without the 00 bytes that fill it up
abbrev pub attribute_name : Option p.Attribute → List ℕ
attribute_name None = []
attribute_name (Some a) = kept a.name

-- the attribute with this number
abbrev pub attribute_text : Context → ℕ → List ℕ
attribute_text x number = attribute_name (slice_get x.attributes number)

-- the name of an attribute, and which of its values the pair is
abbrev pub value_name : ℕ → Option p.Attribute → List ℕ
value_name i None = []
value_name i (Some a) = kept a.name ++ (codes "=" ++ decimal (i - a.start))

-- a pair by its attribute and its value
abbrev pub pair_text : Context → ℕ → List ℕ
pair_text x i = value_name i (attribute_with x.attributes i)
