-- The laws of a join, by one test that goes through all codes.
use Rattle.std.specs.Prelude.{◌≡◌, ℕ, zero, suc, ◌<◌, ◌≤◌, Bool, true, ◌&&◌, ◌==◌, nat_lt, refl}
use Rattle.std.proofs.Common.{ap, ◌∙◌, ⊎_elim, arith}
use Rattle.std.proofs.lemmas.Bool.{and_parts, eqb-true, ltb-true, cases_eq}
use Rattle.diagram.specs.Kinds.{Joins, either, union}

-- does every number below n pass?
unfoldable pub all : ℕ → (ℕ → Bool) → Bool
all zero test = true
all (suc n) test = test n && all n test

-- what passes a test at all numbers below n passes it at each
pub all_at : (n : ℕ) (test : ℕ → Bool) → all n test ≡ true → (x : ℕ) → x < n → test x ≡ true
unfolding all
all_at zero test e x h = absurd (omega arith)
all_at (suc n) test e x h =
    let p = and_parts (test n) (all n test) e in
    ⊎_elim
    (λ (is : x ≡ n). ap test is ∙ p.0)
    (λ (ne : x ≡ n → ⊥). all_at n test p.1 x (omega arith))
    (cases_eq x n)

-- owed of three codes: the join is associative
abbrev third : (ℕ → ℕ → ℕ) → ℕ → ℕ → ℕ → Bool
third join x y z = join (join x y) z == join x (join y z)

-- owed of two codes: the join is a code and commutative, and what is owed with each third
abbrev second : ℕ → (ℕ → ℕ → ℕ) → ℕ → ℕ → Bool
second codes join x y = nat_lt (join x y) codes && (join x y == join y x && all codes (third join x y))

-- owed of a code: the join is idempotent, and what is owed with each second
abbrev first : ℕ → (ℕ → ℕ → ℕ) → ℕ → Bool
first codes join x = join x x == x && all codes (second codes join x)

-- do all codes keep the laws?
lawful : ℕ → (ℕ → ℕ → ℕ) → Bool
lawful codes join = all codes (first codes join)

joins_by : (codes : ℕ) (join : ℕ → ℕ → ℕ) → codes ≤ 8 → lawful codes join ≡ true → Joins codes join
unfolding lawful
joins_by codes join few test = record {
  few = few;
  within = λ x y hx hy. ltb-true (join x y) codes (two x y hx hy).0;
  associative = λ x y z hx hy hz. eqb-true _ _ (all_at codes (third join x y) (two_more x y hx hy).1 z hz);
  commutative = λ x y hx hy. eqb-true _ _ (two_more x y hx hy).0;
  idempotent = λ x hx. eqb-true _ _ (one x hx).0;
}
  where
    one : (x : ℕ) → x < codes → ((join x x == x) ≡ true) × (all codes (second codes join x) ≡ true)
    one x hx = and_parts _ _ (all_at codes (first codes join) test x hx)

    two : (x y : ℕ) → x < codes → y < codes → (nat_lt (join x y) codes ≡ true) × ((join x y == join y x && all codes (third join x y)) ≡ true)
    two x y hx hy = and_parts _ _ (all_at codes (second codes join x) (one x hx).1 y hy)

    two_more : (x y : ℕ) → x < codes → y < codes → ((join x y == join y x) ≡ true) × (all codes (third join x y) ≡ true)
    two_more x y hx hy = and_parts _ _ (two x y hx hy).1

-- the joins of truth and of sets of decisions
pub either_joins : Joins 2 either
unfolding all lawful
either_joins = joins_by 2 either (omega arith) refl

-- union is a join of the eight codes of sets
pub union_joins : Joins 8 union
unfolding all lawful
union_joins = joins_by 8 union (omega arith) refl
