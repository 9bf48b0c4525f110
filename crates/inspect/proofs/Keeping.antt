-- A plain text is kept whole; numbers are plain.
use Rattle.std.proofs.Common.{◌≡◌, ℕ, ◌+◌, ◌%◌, ◌^◌, ◌<◌, Bool, true, false, cond, ◌||◌, eqb, leb, List, [], ◌∷◌, decimal, refl, ap, ◌∙◌, mod-lt, arith}
use Rattle.std.proofs.lemmas.Fmt.{decimal_by_steps}
use Rattle.std.proofs.lemmas.List.Folds.{list_all-append}
use Rattle.std.proofs.lemmas.Bool.{and_from, and_parts, le-leb}
use Rattle.inspect.specs.Plain.{is_plain, all_plain, kept}

pub kept_plain : (bs : List ℕ) → all_plain bs ≡ true → kept bs ≡ bs
kept_plain [] e = refl
kept_plain (b ∷ bs) e =
    let plain = and_parts _ _ e in
    ap (λ t. cond t (b ∷ kept bs) (kept bs)) plain.0 ∙ ap (λ k. b ∷ k) (kept_plain bs plain.1)

digit_plain : (d : ℕ) → d < 10 → is_plain (48 + d) ≡ true
digit_plain d l =
    let low : leb 0x20 (48 + d) ≡ true = le-leb 0x20 (48 + d) (omega arith) in
    let high : leb (48 + d) 0x7E ≡ true = le-leb (48 + d) 0x7E (omega arith) in
    by (eqb (48 + d) 10) (and_from _ _ low high)
  where
    by : (t : Bool) {u : Bool} → u ≡ true → t || u ≡ true
    by true e = refl
    by false e = e

one_plain : (d : ℕ) → d < 10 → all_plain ((48 + d) ∷ []) ≡ true
one_plain d l = and_from _ _ (digit_plain d l) refl

pub plain_decimal : (n : ℕ) → n < 2 ^ 64 → all_plain (decimal n) ≡ true
plain_decimal =
    decimal_by_steps (λ n ds. all_plain ds ≡ true) one_plain
    (λ n ds l h. list_all-append is_plain ds ((48 + n % 10) ∷ []) ∙ and_from _ _ h (one_plain (n % 10) (mod-lt n (omega arith))))

pub kept_decimal : (n : ℕ) → n < 2 ^ 64 → kept (decimal n) ≡ decimal n
kept_decimal n l = kept_plain (decimal n) (plain_decimal n l)
