-- What may still come: from least upper bounds to a query that shows it.
use Rattle.std.proofs.Common.{◌≡◌, ℕ, zero, suc, ◌-◌, ◌^◌, ◌<◌, ◌≤◌, Bool, true, false, cond, not, ◌&&◌, eqb, ltb, ◌⊎◌, ◌↔◌, sym, refl, ap, ◌∙◌, inl, inr, ⊎_elim, arith}
use mathlib.Core.Path.{fun_ext}
use Rattle.std.proofs.lemmas.Bool.{cond-true, cond-false, cases_Bool, cases_eq, cases_lt, lt-ltb, le-ltb, eqb-true, eqb-false, eq-eqb, ltb-true, and_from, true≢false, false≢true}
use Rattle.diagram.specs.Closing.{Contains, ContainedIn, Coded, Bound}
use Rattle.diagram.specs.Kinds.{either, union, has}
use Rattle.diagram.specs.Store.{Query, put}
use Rattle.diagram.proofs.Canonical.{put_same, put_other}
use Rattle.diagram.specs.Joining.{all, all_at}

-- p has all of q, and is q from n on
record Above (n : ℕ) (q p : Query) : Type 0 where
  pub contains : (i : ℕ) → q i ≡ true → p i ≡ true
  pub same : (i : ℕ) → n ≤ i → p i ≡ q i

-- p has k, or q has as little of it as p
above_with : (k : ℕ) (q p : Query) → Above (suc k) q p → p k ≡ true → Above k (put q k true) p
above_with k q p ab e = record {
  contains = λ i t. ⊎_elim (λ (is : i ≡ k). ap p is ∙ e) (λ (ne : i ≡ k → ⊥). ab.contains i (sym (put_other q k true i ne) ∙ t)) (cases_eq i k);
  same = λ i h. ⊎_elim
      (λ (is : i ≡ k). ap p is ∙ e ∙ sym (ap (put q k true) is ∙ put_same q k true))
      (λ (ne : i ≡ k → ⊥). ab.same i (omega arith) ∙ sym (put_other q k true i ne))
      (cases_eq i k);
}

above_without : (k : ℕ) (q p : Query) → Above (suc k) q p → p k ≡ false → Above k q p
above_without k q p ab e = record {
  contains = ab.contains;
  same = λ i h. ⊎_elim
      (λ (is : i ≡ k). ap p is ∙ e ∙ sym (ap q is ∙ lacks))
      (λ (ne : i ≡ k → ⊥). ab.same i (omega arith))
      (cases_eq i k);
}
  where
    lacks : q k ≡ false
    lacks = ⊎_elim (λ (t : q k ≡ true). absurd (true≢false (sym (ab.contains k t) ∙ e))) (λ (f : q k ≡ false). f) (cases_Bool (q k))

put_more : (k : ℕ) (q p : Query) → Above k (put q k true) p → Above (suc k) q p
put_more k q p ab = record {
  contains = λ i t. ab.contains i (⊎_elim (λ (is : i ≡ k). ap (put q k true) is ∙ put_same q k true) (λ (ne : i ≡ k → ⊥). put_other q k true i ne ∙ t) (cases_eq i k));
  same = λ i h. ab.same i (omega arith) ∙ put_other q k true i (λ e. omega arith);
}

-- among the queries that have all of q and whichever pairs below n besides, some passes the test or none does
sought : (n : ℕ) (test : Query → Bool) (q : Query) → ((p : Query) × Above n q p × (test p ≡ true)) ⊎ ((p : Query) → Above n q p → test p ≡ false)
sought zero test q =
    ⊎_elim
    (λ (e : test q ≡ true). inl (q, record { contains = λ i t. t; same = λ i h. refl }, e))
    (λ (e : test q ≡ false). inr (λ p ab. ap test (fun_ext (λ i. ab.same i (omega arith))) ∙ e))
    (cases_Bool (test q))
sought (suc k) test q = elim (sought k test q) [
  | inl f ↦ inl (f.0, record { contains = f.1.contains; same = λ i h. f.1.same i (omega arith) }, f.2)
  | inr none ↦ elim (sought k test (put q k true)) [
    | inl f ↦ inl (f.0, put_more k q f.0 f.1, f.2)
    | inr none_with ↦ inr (λ p ab. ⊎_elim (λ (e : p k ≡ true). none_with p (above_with k q p ab e)) (λ (e : p k ≡ false). none p (above_without k q p ab e)) (cases_Bool (p k)))
  ]
]

-- p below 48, and q from there on
within : Query → Query → Query
within q p i = cond (ltb i 48) (p i) (q i)

within_below : (q p : Query) (i : ℕ) → i < 48 → within q p i ≡ p i
unfolding within
within_below q p i h = cond-true _ _ _ (lt-ltb i 48 h)

within_above : (q p : Query) → Contains p q → Above 48 q (within q p)
unfolding within
within_above q p c = record {
  contains = λ i t. ⊎_elim (λ (h : i < 48). within_below q p i h ∙ c i h t) (λ (h : 48 ≤ i). cond-false _ _ _ (le-ltb i 48 h) ∙ t) (cases_lt i 48);
  same = λ i h. cond-false _ _ _ (le-ltb i 48 h);
}

-- the set without the decision d
abbrev without : ℕ → ℕ → ℕ
without u d = cond (has u d) (u - 2 ^ d) u

-- sets and decisions are few, so that what holds of all of them is computed
abbrev implies : Bool → Bool → Bool
implies a b = cond a b true

implied : (a b : Bool) → implies a b ≡ true → a ≡ true → b ≡ true
implied a b i e = sym (cond-true a b true e) ∙ i

each : (test : ℕ → ℕ → ℕ → Bool) → all 3 (λ d. all 8 (λ u. all 8 (test d u))) ≡ true → (d : ℕ) → d < 3 → (u : ℕ) → u < 8 → (x : ℕ) → x < 8 → test d u x ≡ true
each test e d hd u hu x hx = all_at 8 (test d u) (all_at 8 (λ u. all 8 (test d u)) (all_at 3 (λ d. all 8 (λ u. all 8 (test d u))) e d hd) u hu) x hx

member_up : (d : ℕ) → d < 3 → (x : ℕ) → x < 8 → (u : ℕ) → u < 8 → union x u ≡ u → has x d ≡ true → has u d ≡ true
unfolding all
member_up d hd x hx u hu under e =
    implied (eqb (union x u) u && has x d) (has u d) (each (λ d u x. implies (eqb (union x u) u && has x d) (has u d)) refl d hd u hu x hx) (and_from _ _ (eq-eqb _ _ under) e)

under_without : (d : ℕ) → d < 3 → (x : ℕ) → x < 8 → (u : ℕ) → u < 8 → union x u ≡ u → has x d ≡ false → union x (without u d) ≡ without u d
unfolding all
under_without d hd x hx u hu under e =
    eqb-true _ _ (implied (eqb (union x u) u && not (has x d)) (eqb (union x (without u d)) (without u d))
    (each (λ d u x. implies (eqb (union x u) u && not (has x d)) (eqb (union x (without u d)) (without u d))) refl d hd u hu x hx)
    (and_from _ _ (eq-eqb _ _ under) (ap not e)))

without_code : (d : ℕ) → d < 3 → (u : ℕ) → u < 8 → without u d < 8
unfolding all
without_code d hd u hu = ltb-true _ _ (each (λ d u x. ltb (without u d) 8) refl d hd u hu 0 (omega arith))

without_less : (d : ℕ) → d < 3 → (u : ℕ) → u < 8 → has u d ≡ true → union u (without u d) ≡ without u d → ⊥
unfolding all
without_less d hd u hu e under =
    false≢true (sym (ap not (eq-eqb _ _ under)) ∙ implied (has u d) (not (eqb (union u (without u d)) (without u d))) (each (λ d u x. implies (has u d) (not (eqb (union u (without u d)) (without u d)))) refl d hd u hu 0 (omega arith)) e)

module _ (f : Query → ℕ) (depends : (p q : Query) → ((i : ℕ) → i < 48 → p i ≡ q i) → f p ≡ f q) (q : Query) where
  some_or_none : (test : ℕ → Bool) → ContainedIn (λ p. test (f p) ≡ true) q ⊎ ((p : Query) → Contains p q → test (f p) ≡ false)
  some_or_none test = elim (sought 48 (λ p. test (f p)) q) [
    | inl w ↦ inl (record { later = w.0; contains = λ i h t. w.1.contains i t; holds = w.2 })
    | inr none ↦ inr (λ p c. ap test (sym (depends (within q p) p (within_below q p))) ∙ none (within q p) (within_above q p c))
  ]

  -- truth
  pub truth_possible : (u : ℕ) → Coded 2 f → Bound 2 either f q u → (u ≡ 1) ↔ ContainedIn (λ p. f p ≡ 1) q
  truth_possible u coded bound = (shows, upper)
    where
      zero_is : (x : ℕ) → x < 2 → (x ≡ 1 → ⊥) → x ≡ 0
      zero_is x h ne = omega arith

      shows : u ≡ 1 → ContainedIn (λ p. f p ≡ 1) q
      shows e = elim (some_or_none (λ x. eqb x 1)) [
        | inl w ↦ record { later = w.later; contains = w.contains; holds = eqb-true _ 1 w.holds }
        | inr none ↦
            let zeros : (p : Query) → Contains p q → f p ≡ 0 = λ p c. zero_is (f p) (coded p) (eqb-false (f p) 1 (none p c)) in
            let least : either u 0 ≡ 0 = bound.least 0 (omega arith) (λ p c. ap (λ x. either x 0) (zeros p c)) in
            let one : ◌≡◌ {A = ℕ} 1 0 = sym (ap (λ x. either x 0) e) ∙ least in
            absurd (omega arith)
      ]

      upper : ContainedIn (λ p. f p ≡ 1) q → u ≡ 1
      upper w =
          let over : either 1 u ≡ u = ap (λ x. either x u) (sym w.holds) ∙ bound.upper w.later w.contains in
          let code = bound.code in
          ⊎_elim
          (λ (e : u ≡ 0). let z : ◌≡◌ {A = ℕ} 1 0 = ap (either 1) (sym e) ∙ over ∙ e in absurd (omega arith))
          (λ (ne : u ≡ 0 → ⊥). omega arith)
          (cases_eq u 0)

  -- sets of decisions
  module _ (u : ℕ) (d : ℕ) (small : d < 3) (coded : Coded 8 f) (bound : Bound 8 union f q u) where
    pub decision_possible : (has u d ≡ true) ↔ ContainedIn (λ p. has (f p) d ≡ true) q
    decision_possible = (shows, upper)
      where
        upper : ContainedIn (λ p. has (f p) d ≡ true) q → has u d ≡ true
        upper w = member_up d small (f w.later) (coded w.later) u bound.code (bound.upper w.later w.contains) w.holds

        shows : has u d ≡ true → ContainedIn (λ p. has (f p) d ≡ true) q
        shows e = elim (some_or_none (λ x. has x d)) [
          | inl w ↦ w
          | inr none ↦ absurd (without_less d small u bound.code e (bound.least (without u d) (without_code d small u bound.code) (λ p c. under_without d small (f p) (coded p) u bound.code (bound.upper p c) (none p c))))
        ]
