-- Asking a source for one pair more.
use Rattle.std.proofs.Common.{◌≡◌, ℕ, ◌+◌, ◌*◌, ◌%◌, ◌^◌, ◌<◌, ◌≤◌, Bool, true, false, ◌&&◌, ◌||◌, ltb, sym, refl, ap, ◌∙◌, ⊎_elim, arith}
use lib.Bits.{bit_or}
use Rattle.std.proofs.lemmas.Nat.{one_shl}
use Rattle.std.proofs.lemmas.Bool.{cases_lt, cases_eq, lt-ltb, le-ltb, eq-eqb, ne_eqb}
use Rattle.source.specs.Meanings.{Meaning, tells}
use Rattle.source.specs.Sets.{has, QueryOf}
use Rattle.source.proofs.Bits.{has_or, has_one}

-- pairs other than p are below p + 1 where they are below p
same_below : (p k : ℕ) → (k ≡ p → ⊥) → ltb k p ≡ ltb k (p + 1)
same_below p k ne =
    ⊎_elim
    (λ (lt : k < p). let up : k < p + 1 = omega arith in lt-ltb _ _ lt ∙ sym (lt-ltb _ _ up))
    (λ (le : p ≤ k). let up : p + 1 ≤ k = omega arith in le-ltb _ _ le ∙ sym (le-ltb _ _ up))
    (cases_lt k p)

or_false : (b : Bool) → (b || false) ≡ b
or_false true = refl
or_false false = refl

true_or : (b : Bool) → (b || true) ≡ true
true_or true = refl
true_or false = refl

module _ (m : Meaning) (set p : ℕ) (inv : QueryOf p m set) where
  pub asked_silent : tells m p ≡ false → QueryOf (p + 1) m set
  asked_silent s k =
      ⊎_elim
      (λ (e : k ≡ p).
      let here : ltb k p ≡ false = le-ltb _ _ (omega arith) in
      let there : ltb k (p + 1) ≡ true = lt-ltb _ _ (omega arith) in
      inv k ∙ ap (λ b. b && tells m k) here ∙ sym (ap (λ b. b && tells m k) there ∙ ap (tells m) e ∙ s))
      (λ (ne : k ≡ p → ⊥). inv k ∙ ap (λ b. b && tells m k) (same_below p k ne))
      (cases_eq k p)

  pub asked_told : p < 64 → tells m p ≡ true → QueryOf (p + 1) m (bit_or set ((1 * 2 ^ p) % 2 ^ 64))
  asked_told h t k =
      ap (λ n. has (bit_or set n) k) (one_shl p 64 h) ∙ has_or set (2 ^ p) k ∙ ap (λ b. has set k || b) (has_one p k) ∙
      ⊎_elim
      (λ (e : k ≡ p).
      let there : ltb k (p + 1) ≡ true = lt-ltb _ _ (omega arith) in
      ap (λ b. has set k || b) (eq-eqb _ _ e) ∙ true_or (has set k) ∙ sym (ap (λ b. b && tells m k) there ∙ ap (tells m) e ∙ t))
      (λ (ne : k ≡ p → ⊥). ap (λ b. has set k || b) (ne_eqb _ _ ne) ∙ or_false (has set k) ∙ inv k ∙ ap (λ b. b && tells m k) (same_below p k ne))
      (cases_eq k p)
