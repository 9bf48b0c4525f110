-- Names are printable, so that a text keeps them whole.
use Rattle.std.proofs.Common.{◌≡◌, ℕ, Bool, true, false, cond, eqb, List, codes, refl}
use Rattle.policy.specs.declared.decision.Decision.{Decision}
use Rattle.policy.specs.declared.decision.Decision.TheVariants.{Deny, Allow, NotApplicable}
use Rattle.inspect.specs.Names.{change_name, operator_name, constant_name}
use Rattle.inspect.specs.Plain.{kept}

kept_cond : (b : Bool) (x y : List ℕ) → kept x ≡ x → kept y ≡ y → kept (cond b x y) ≡ cond b x y
kept_cond true x y e f = e
kept_cond false x y e f = f

pub kept_change : (code : ℕ) → kept (change_name code) ≡ change_name code
kept_change code = kept_cond (eqb code 0x00) (codes "not") _ refl (kept_cond (eqb code 0x01) (codes "E1") (codes "or-deny") refl refl)

pub kept_operator : (code : ℕ) → kept (operator_name code) ≡ operator_name code
unfolding operator_name
kept_operator code =
    kept_cond (eqb code 0x10) (codes "and") _ refl (
    kept_cond (eqb code 0x11) (codes "weak-and") _ refl (
    kept_cond (eqb code 0x12) (codes "deny-overrides") _ refl (
    kept_cond (eqb code 0x13) (codes "or") _ refl (
    kept_cond (eqb code 0x14) (codes "weak-or") _ refl (
    kept_cond (eqb code 0x15) (codes "allow-overrides") _ refl (
    kept_cond (eqb code 0x20) (codes "op20") _ refl (
    kept_cond (eqb code 0x21) (codes "op21") _ refl (
    kept_cond (eqb code 0x22) (codes "op22") _ refl (
    kept_cond (eqb code 0x23) (codes "op23") _ refl (
    kept_cond (eqb code 0x24) (codes "op24") _ refl (
    kept_cond (eqb code 0x25) (codes "op25") _ refl (
    kept_cond (eqb code 0x26) (codes "op26") (codes "op27") refl refl))))))))))))

pub kept_constant : (d : Decision) → kept (constant_name d) ≡ constant_name d
kept_constant Deny = refl
kept_constant Allow = refl
kept_constant NotApplicable = refl
