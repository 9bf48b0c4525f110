-- What was declared.
use Rattle.std.proofs.Common.{Bool, List, None, Option, Some, [], ap, arith, cond, false, length, map, refl, slice_get, sym, true, ℕ, ⊎_elim, ◌-◌, ◌<◌, ◌||◌, ◌∙◌, ◌∷◌, ◌≡◌, ◌≤◌}
use Rattle.std.specs.List.{list_any, list_all, find}
use Rattle.std.proofs.lemmas.Bool.Decides.{nat_tests}
use Rattle.policy.specs.Commands.{Context, Command, attribute, operator, restrict, act, push_pair, push, change, combine, guard, end, has_code, allowed, are_digits}
use Rattle.std.specs.Option.{option_map}
use Rattle.std.proofs.lemmas.List.{length-map, get_or-map}
use Rattle.std.proofs.lemmas.Option.{slice_get-get_or, slice_get_within, get_or_from_slice_get}
use Rattle.std.proofs.lemmas.Bool.{cases_lt, cond-true, cond-false, lt-leb, le-leb}
use Rattle.policy.specs.declared.operator.Row.{Row}
use Rattle.policy.specs.Values.{Digits, standard, digits_of, is_own}
use Rattle.policy.specs.Rows.{tables}
use Rattle.policy.specs.View.{StandardRow, RowOf}
use Rattle.policy.proofs.Digits.{digits_at, standard_digits}

module _ {A B : Type 0} (f : A → B) (test : B → Bool) where
  pub any_mapped : (xs : List A) → list_any test (map f xs) ≡ list_any (λ x. test (f x)) xs
  any_mapped [] = refl
  any_mapped (x ∷ xs) = ap (λ b. test (f x) || b) (any_mapped xs)

  pub find_mapped : (xs : List A) → find test (map f xs) ≡ option_map f (find (λ x. test (f x)) xs)
  find_mapped [] = refl
  find_mapped (x ∷ xs) = by (test (f x)) (find_mapped xs)
    where
      by : (t : Bool) → find test (map f xs) ≡ option_map f (find (λ x. test (f x)) xs) → cond t (Some (f x)) (find test (map f xs)) ≡ option_map f (cond t (Some x) (find (λ x. test (f x)) xs))
      by true e = refl
      by false e = e

-- a code that is none is not allowed
pub not_allowed : (x : Context) (c : Command) → length x.operators ≤ 8 → has_code c ≡ false → allowed x c ≡ false
not_allowed x (attribute name count) h e = absurd (cc)
not_allowed x (operator ds) h e = absurd (cc)
not_allowed x (restrict r) h e = absurd (cc)
not_allowed x (act (push_pair i)) h e = absurd (cc)
not_allowed x (act (push d)) h e = absurd (cc)
not_allowed x (act (change code)) h e = e
not_allowed x (act (combine code)) h e = grind (arith, nat_tests)
not_allowed x (act guard) h e = absurd (cc)
not_allowed x (act end) h e = absurd (cc)

-- ---- operators by their codes

pub by_standard : (r : Option Row) (own : List Digits) (code : ℕ) → code < 32 → StandardRow r code → RowOf r own code
unfolding digits_of
by_standard None own code h e = grind (arith, nat_tests)
by_standard (Some row) own code h e =
    let digits : row.entries ≡ digits_of own code = e.1 ∙ sym (cond-false _ _ _ (lt-leb _ _ h)) in
    (ap (λ b. b || is_own own code) e.0, digits, ap are_digits e.1 ∙ digits_at standard (code - 16) standard_digits)

pub by_own : (r : Option Row) (rows : List Row) (code : ℕ) → 32 ≤ code → r ≡ slice_get rows (code - 32) → list_all are_digits (tables rows) ≡ true → RowOf r (tables rows) code
unfolding digits_of
by_own None rows code h e d =
    let n = length-map rows (λ (row : Row). row.entries) in
    ⊎_elim
    (λ (lt : code - 32 < length rows). let s = slice_get-get_or rows (code - 32) (record { entries = [] }) lt in absurd (cc))
    (λ (le : length rows ≤ code - 32). grind (arith, nat_tests))
    (cases_lt (code - 32) (length rows))
by_own (Some row) rows code h e d =
    let lt = slice_get_within rows (code - 32) row (sym e) in
    let n = length-map rows (λ (row : Row). row.entries) in
    let at = get_or-map (λ (row : Row). row.entries) rows (code - 32) row [] lt ∙ ap (λ (row : Row). row.entries) (get_or_from_slice_get rows (code - 32) row row (sym e)) in
    (grind (arith, nat_tests), sym (cond-true _ _ _ (le-leb _ _ h) ∙ at), ap are_digits (sym at) ∙ digits_at (tables rows) (code - 32) d)
