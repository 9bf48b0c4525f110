-- Trying every query: some query that contains q passes a test just where the enumeration finds one.
use Rattle.std.proofs.Common.{◌≡◌, ℕ, zero, suc, ◌<◌, ◌≤◌, Bool, true, false, cond, ◌||◌, eqb, ltb, sym, refl, ap, ◌∙◌, ⊎_elim, arith}
use Rattle.std.proofs.lemmas.Bool.{cond-true, cond-false, cases_Bool, cases_lt, lt-ltb, le-ltb, eq-eqb, ne_eqb, true≢false}
use Rattle.policy.specs.Queries.{Query, Contained, Agree, adding, some_query}

-- a query that has all of q and passes the test
pub record Found (test : Query → Bool) (q : Query) : Type 0 where
  pub later : Query
  pub contains : (i : ℕ) → q i ≡ true → later i ≡ true
  pub passes : test later ≡ true

or_true : (a b : Bool) → a ≡ true → (a || b) ≡ true
or_true a b e = ap (λ t. t || b) e

true_or : (a b : Bool) → b ≡ true → (a || b) ≡ true
true_or true b e = refl
true_or false b e = e

adding_keeps : (q : Query) (k i : ℕ) → q i ≡ true → adding q k i ≡ true
adding_keeps q k i e = true_or (eqb i k) (q i) e

pub finds : (n : ℕ) (test : Query → Bool) (q : Query) → some_query n test q ≡ true → Found test q
unfolding some_query
finds zero test q e = record { later = q; contains = λ i h. h; passes = e }
finds (suc k) test q e = by (some_query k test q) refl (finds k test q) (finds k test (adding q k))
  where
    with_k : Found test (adding q k) → Found test q
    with_k f = record { later = f.later; contains = λ i h. f.contains i (adding_keeps q k i h); passes = f.passes }

    by : (b : Bool) → some_query k test q ≡ b → (some_query k test q ≡ true → Found test q) → (some_query k test (adding q k) ≡ true → Found test (adding q k)) → Found test q
    by true t without with = without t
    by false t without with = with_k (with (sym (ap (λ b. b || some_query k test (adding q k)) t) ∙ e))

-- p has all of q, and nothing else from n on
pub record JustBelow (n : ℕ) (q p : Query) : Type 0 where
  pub contains : Contained n q p
  pub same : (i : ℕ) → n ≤ i → p i ≡ q i

module _ (test : Query → Bool) (alike : (p q : Query) → ((i : ℕ) → p i ≡ q i) → test p ≡ test q) where
  pub tried : (n : ℕ) (q p : Query) → JustBelow n q p → test p ≡ true → some_query n test q ≡ true
  unfolding some_query
  tried zero q p b e = alike q p (λ i. sym (b.same i (omega arith))) ∙ e
  tried (suc k) q p b e = ⊎_elim (present (λ r j. tried k r p j e)) (absent (λ r j. tried k r p j e)) (cases_Bool (p k))
    where
      below : (i : ℕ) → i < k → adding q k i ≡ true → p i ≡ true
      below i h t =
          let ne : i ≡ k → ⊥ = λ z. omega arith in
          b.contains i (omega arith) (sym (ap (λ x. x || q i) (ne_eqb _ _ ne)) ∙ t)

      from : p k ≡ true → (i : ℕ) → k ≤ i → p i ≡ adding q k i
      from t i h =
          ⊎_elim
          (λ (lt : k < i). let ne : i ≡ k → ⊥ = λ z. omega arith in b.same i lt ∙ sym (ap (λ x. x || q i) (ne_eqb _ _ ne)))
          (λ (le : i ≤ k). let z : i ≡ k = omega arith in ap p z ∙ t ∙ sym (ap (λ x. x || q i) (eq-eqb _ _ z)))
          (cases_lt k i)

      present : ((r : Query) → JustBelow k r p → some_query k test r ≡ true) → p k ≡ true → some_query (suc k) test q ≡ true
      present fewer t = true_or _ _ (fewer (adding q k) (record { contains = below; same = from t }))

      missing : p k ≡ false → q k ≡ false
      missing t = ⊎_elim (λ (y : q k ≡ true). absurd (true≢false (sym (b.contains k (omega arith) y) ∙ t))) (λ (z : q k ≡ false). z) (cases_Bool (q k))

      same : p k ≡ false → (i : ℕ) → k ≤ i → p i ≡ q i
      same t i h =
          ⊎_elim
          (λ (lt : k < i). b.same i lt)
          (λ (le : i ≤ k). let z : i ≡ k = omega arith in ap p z ∙ t ∙ sym (ap q z ∙ missing t))
          (cases_lt k i)

      absent : ((r : Query) → JustBelow k r p → some_query k test r ≡ true) → p k ≡ false → some_query (suc k) test q ≡ true
      absent fewer t = or_true _ _ (fewer q (record { contains = λ i h y. b.contains i (omega arith) y; same = same t }))

-- p below n and q from there on
pub below_of : ℕ → Query → Query → Query
below_of n p q i = cond (ltb i n) (p i) (q i)

pub below_agrees : (n : ℕ) (p q : Query) → Agree n p (below_of n p q)
unfolding below_of
below_agrees n p q i h = sym (cond-true _ _ _ (lt-ltb _ _ h))

pub just_below : (n : ℕ) (q p : Query) → Contained n q p → JustBelow n q (below_of n p q)
unfolding below_of
just_below n q p c =
    record {
      contains = λ i h t. cond-true _ _ _ (lt-ltb _ _ h) ∙ c i h t;
      same = λ i h. cond-false _ _ _ (le-ltb _ _ h);
    }
