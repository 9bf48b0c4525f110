-- Sets of pairs in the bits of a number.
use Rattle.std.proofs.Common.{◌≡◌, ℕ, zero, suc, ◌+◌, ◌-◌, ◌/◌, ◌%◌, ◌^◌, ◌<◌, ◌≤◌, false, ◌||◌, eqb, sym, refl, ap, ◌∙◌, ⊎_elim, add-zero, one-mul, arith, lit<, pow_mono}
use lib.Bits.{bit_or}
use Rattle.std.proofs.lemmas.Nat.{or_shr, or_mod, pow_pos, pow-add, shl-shr, mod_low, mod_below, div_below, pow_below}
use Rattle.std.proofs.lemmas.Bool.{eq-eqb, ne_eqb, cases_lt, cases_eq}
use Rattle.source.specs.Sets.{has}

-- a number below 2^i has no pair i
small : (n i : ℕ) → n < 2 ^ i → has n i ≡ false
small n i h =
    let less = div_below n (2 ^ i) 1 (pow_pos i) (rw one-mul h) in
    let z : n / 2 ^ i ≡ 0 = omega arith in
    ap (λ q. eqb (q % 2) 1) z

-- a 64-bit number has no pair from 64 on
pub none_above : (set i : ℕ) → set < 2 ^ 64 → 64 ≤ i → has set i ≡ false
none_above set i h w = let m : 2 ^ 64 ≤ 2 ^ i = pow_mono w in small set i (omega arith)

-- ---- a union

or_bit : (x y : ℕ) → x < 2 → y < 2 → eqb (bit_or x y) 1 ≡ (eqb x 1 || eqb y 1)
or_bit zero zero h k = refl
or_bit zero (suc zero) h k = refl
or_bit (suc zero) zero h k = refl
or_bit (suc zero) (suc zero) h k = refl
or_bit zero (suc (suc y)) h k = absurd (omega arith)
or_bit (suc zero) (suc (suc y)) h k = absurd (omega arith)
or_bit (suc (suc x)) y h k = absurd (omega arith)

pub has_or : (a b i : ℕ) → has (bit_or a b) i ≡ (has a i || has b i)
has_or a b i =
    ap (λ n. eqb (n % 2) 1) (or_shr a b i) ∙ ap (λ n. eqb n 1) (or_mod (a / 2 ^ i) (b / 2 ^ i) 1) ∙
    or_bit ((a / 2 ^ i) % 2) ((b / 2 ^ i) % 2) (mod_below (a / 2 ^ i) 2 (lit< tt)) (mod_below (b / 2 ^ i) 2 (lit< tt))

-- ---- the set of one pair

-- 2^k by 2^i, where i is j below k
quotient : (j i : ℕ) → 2 ^ (j + i) / 2 ^ i ≡ 2 ^ j
quotient j i = ap (λ n. n / 2 ^ i) (pow-add 2 j i) ∙ shl-shr (2 ^ j) i

even : (j : ℕ) → 2 ^ (j + 1) % 2 ≡ 0
even j = ap (λ n. n % 2) (pow-add 2 j 1 ∙ sym (add-zero _)) ∙ mod_low (2 ^ j) 1 0 (lit< tt)

pub has_one : (k i : ℕ) → has (2 ^ k) i ≡ eqb i k
has_one k i =
    ⊎_elim
    (λ (lt : i < k).
    let d : k ≡ (k - i - 1 + 1) + i = omega arith in
    let ne : i ≡ k → ⊥ = λ e. omega arith in
    ap (λ n. has (2 ^ n) i) d ∙ ap (λ q. eqb (q % 2) 1) (quotient (k - i - 1 + 1) i) ∙ ap (λ m. eqb m 1) (even (k - i - 1)) ∙ sym (ne_eqb _ _ ne))
    (λ (le : k ≤ i). ⊎_elim
    (λ (e : i ≡ k). ap (λ j. has (2 ^ k) j) e ∙ ap (λ q. eqb (q % 2) 1) (ap (λ n. n / 2 ^ k) (sym (one-mul (2 ^ k))) ∙ shl-shr 1 k) ∙ sym (eq-eqb _ _ e))
    (λ (ne : i ≡ k → ⊥). let lt : k < i = omega arith in small (2 ^ k) i (pow_below k i lt) ∙ sym (ne_eqb _ _ ne))
    (cases_eq i k))
    (cases_lt i k)
