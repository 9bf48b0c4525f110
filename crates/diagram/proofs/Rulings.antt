-- Rules and their keys.
use Rattle.std.proofs.Common.{◌≡◌, ℕ, zero, suc, ◌+◌, ◌*◌, ◌/◌, ◌%◌, ◌^◌, ◌<◌, ◌≤◌, eqb, List, [], ◌∷◌, ◌++◌, length, map, reverse, Bor, sym, refl, ap, ◌∙◌, subst, arith}
use mathlib.Core.Path.{fun_ext}
use native.Mathlib.Nat.{pow-succ', pow-le-pow_right}
use lib.Bits.{bit_or, or_lt}
use Rattle.std.proofs.lemmas.Bool.{cond-true, cond-false, cond_both, eq-eqb, ne_eqb}
use Rattle.std.proofs.lemmas.List.{map_push, reverse-append}
use Rattle.diagram.specs.declared.rule.Rule.{Rule}
use Rattle.diagram.specs.declared.rule.Rule.TheVariants.{One, Two, Union, Where}
use Rattle.diagram.specs.Rules.{entry, where_one, value_of, number, digit, key_of, keyed, ToldApart, Leaves}

number_below : (ds : List ℕ) → number ds < 8 ^ length ds
unfolding number
number_below [] = omega arith
number_below (d ∷ ds) = omega (arith, number_below ds, pow-succ' 8 (length ds))

pub number_within : (ds : List ℕ) (m : ℕ) → length ds ≤ m → number ds < 8 ^ m
number_within ds m le = let up = pow-le-pow_right {n = 8} (omega arith) {i = length ds} {j = m} le in omega (arith, number_below ds)

-- the entries that were read from the last on, and one more
pub number_more : (xs : List (Bor ℕ)) (x : Bor ℕ) → 8 * number (reverse (map (λ y. y.now) xs)) + x.now % 8 ≡ number (reverse (map (λ y. y.now) (xs ++ x ∷ [])))
unfolding number
number_more xs x = rw (map_push, reverse-append) (omega arith)

digit_below : (n i : ℕ) → digit n i < 8
unfolding digit
digit_below n zero = omega arith
digit_below n (suc i) = digit_below (n / 8) i

digit_none : (i : ℕ) → digit 0 i ≡ 0
unfolding digit
digit_none zero = refl
digit_none (suc i) = digit_none i

digit-number : (ds : List ℕ) (i : ℕ) → digit (number ds) i ≡ entry ds i
unfolding digit number
digit-number [] i = digit_none i
digit-number (d ∷ ds) zero = omega arith
digit-number (d ∷ ds) (suc i) =
    let rest : (d % 8 + 8 * number ds) / 8 ≡ number ds = omega arith in
    ap (λ n. digit n i) rest ∙ digit-number ds i

-- the ways of `keyed`
module _ (key x y : ℕ) where
  keyed_one : key % 4 ≡ 1 → keyed key x y ≡ digit (key / 4) x
  unfolding keyed
  keyed_one e = cond-true _ _ _ (eq-eqb _ _ e)

  keyed_two : key % 4 ≡ 2 → keyed key x y ≡ digit (key / 4) (3 * x + y)
  unfolding keyed
  keyed_two e = cond-false _ _ _ (ne_eqb _ _ (λ (z : key % 4 ≡ 1). omega arith)) ∙ cond-true _ _ _ (eq-eqb _ _ e)

-- a rule has the values that its key gives it
pub by_key : (rule : Rule) (x y : ℕ) → keyed (key_of rule) x y ≡ value_of rule x y
unfolding keyed
by_key (One entries) x y =
    let n : ℕ = number entries in
    let div : (4 * n + 1) / 4 ≡ n = omega arith in
    keyed_one (4 * n + 1) x y (omega arith) ∙ ap (λ m. digit m x) div ∙ digit-number entries x
by_key (Two entries) x y =
    let n : ℕ = number entries in
    let div : (4 * n + 2) / 4 ≡ n = omega arith in
    keyed_two (4 * n + 2) x y (omega arith) ∙ ap (λ m. digit m (3 * x + y)) div ∙ digit-number entries (3 * x + y)
by_key Union x y = refl
by_key Where x y = refl

pub by_keys : (rule : Rule) → keyed (key_of rule) ≡ value_of rule
by_keys rule = fun_ext (λ x. fun_ext (λ y. by_key rule x y))

pub told_apart : (rule : Rule) → ToldApart rule
told_apart rule other e x y = sym (by_key other x y) ∙ ap (λ k. keyed k x y) e ∙ by_key rule x y

-- no rule has the key of an empty entry or of a fixed pair
pub key_kind : (rule : Rule) → key_of rule % 4 ≡ 0 → ⊥
key_kind (One entries) e = omega arith
key_kind (Two entries) e = omega arith
key_kind Union e = omega arith
key_kind Where e = omega arith

pub keyed_leaves : (key : ℕ) → Leaves (keyed key)
unfolding keyed
keyed_leaves key x y hx hy =
    cond_both (eqb (key % 4) 1) (digit (key / 4) x) _ (λ r. r < 8)
    (λ _. digit_below (key / 4) x)
    (λ _. cond_both (eqb (key % 4) 2) (digit (key / 4) (3 * x + y)) _ (λ r. r < 8)
    (λ _. digit_below (key / 4) (3 * x + y))
    (λ _. cond_both (eqb key 7) (where_one x y) (bit_or x y) (λ r. r < 8)
    (λ _. cond_both (eqb x 1) y 0 (λ r. r < 8) (λ _. hy) (λ _. omega arith))
    (λ _. or_lt 3 x y hx hy)))

pub value_leaves : (rule : Rule) → Leaves (value_of rule)
value_leaves rule = subst Leaves (by_keys rule) (keyed_leaves (key_of rule))
