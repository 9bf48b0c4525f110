-- Digits of operators.
use Rattle.std.proofs.Common.{◌≡◌, ℕ, zero, suc, ◌<◌, ◌≤◌, Bool, true, List, [], ◌∷◌, ◌++◌, get_or, refl, ◌∙◌, arith, lit<}
use Rattle.std.proofs.lemmas.Bool.{and_parts, and_from, leb-true}
use Rattle.std.proofs.lemmas.List.Folds.{list_all-append}
use Rattle.std.specs.List.{list_all}
use Rattle.policy.specs.Values.{Digits, standard, one_operand, change, apply}
use Rattle.policy.specs.Commands.{are_digits}

pub digits_at : (rows : List Digits) (j : ℕ) → list_all are_digits rows ≡ true → are_digits (get_or rows j []) ≡ true
digits_at [] j e = refl
digits_at (ds ∷ rest) zero e = (and_parts _ _ e).0
digits_at (ds ∷ rest) (suc j) e = digits_at rest j (and_parts _ _ e).1

pub all_push : {A : Type 0} (test : A → Bool) (xs : List A) (x : A) → list_all test xs ≡ true → test x ≡ true → list_all test (xs ++ (x ∷ [])) ≡ true
all_push test xs x e d = list_all-append test xs (x ∷ []) ∙ and_from _ _ e (and_from _ _ d refl)

pub digits_push : (rows : List Digits) (ds : Digits) → list_all are_digits rows ≡ true → are_digits ds ≡ true → list_all are_digits (rows ++ (ds ∷ [])) ≡ true
digits_push = all_push are_digits

-- one test over the whole table of the standard operators, and one over the one-operand codes
pub standard_digits : list_all are_digits standard ≡ true
standard_digits = refl

one_operand_digits : list_all are_digits one_operand ≡ true
one_operand_digits = refl

digit_below : (ds : Digits) (i : ℕ) → are_digits ds ≡ true → get_or ds i 0 < 3
digit_below [] i e = lit< tt
digit_below (d ∷ ds) zero e = let h : d ≤ 2 = leb-true _ _ (and_parts _ _ e).0 in let z : d < 3 = omega arith in z
digit_below (d ∷ ds) (suc i) e = digit_below ds i (and_parts _ _ e).1

pub change_three : (code v : ℕ) → change code v < 3
unfolding change
change_three code v = digit_below (get_or one_operand code []) v (digits_at one_operand code one_operand_digits)

pub apply_three : (ds : Digits) (a b : ℕ) → are_digits ds ≡ true → apply ds a b < 3
unfolding apply
apply_three ds a b e = digit_below ds _ e
