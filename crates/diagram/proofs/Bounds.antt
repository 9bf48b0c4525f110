-- Least upper bounds over the queries that contain a query, for every join.
use Rattle.std.proofs.Common.{◌≡◌, ℕ, ◌<◌, Bool, true, false, cond, sym, ap, ◌∙◌, subst, ⊎_elim}
use Rattle.std.proofs.lemmas.Bool.{cond-true, cond-false, cases_Bool, cases_eq, true≢false}
use Rattle.diagram.specs.Closing.{Contains, Coded, Bound}
use Rattle.diagram.specs.Kinds.{Joins, Under}
use Rattle.diagram.specs.Store.{Query, put}
use Rattle.diagram.proofs.Canonical.{put_other}

-- a pair that q lacks may be put into p, or taken out of it
pub contains_put : (p q : Query) (v : ℕ) (b : Bool) → q v ≡ false → Contains p q → Contains (put p v b) q
contains_put p q v b lacks c i below e =
    ⊎_elim
    (λ (is : i ≡ v). absurd (true≢false (sym e ∙ ap q is ∙ lacks)))
    (λ (ne : i ≡ v → ⊥). put_other p v b i ne ∙ c i below e)
    (cases_eq i v)

module _ (codes : ℕ) (join : ℕ → ℕ → ℕ) (laws : Joins codes join) where
  under_left : (x y : ℕ) → x < codes → y < codes → Under join x (join x y)
  under_left x y hx hy = sym (laws.associative x x y hx hx hy) ∙ ap (λ z. join z y) (laws.idempotent x hx)

  under_right : (x y : ℕ) → x < codes → y < codes → Under join y (join x y)
  under_right x y hx hy = subst (Under join y) (laws.commutative y x hy hx) (under_left y x hy hx)

  under_trans : (x y z : ℕ) → x < codes → y < codes → z < codes → Under join x y → Under join y z → Under join x z
  under_trans x y z hx hy hz xy yz = ap (join x) (sym yz) ∙ sym (laws.associative x y z hx hy hz) ∙ ap (λ w. join w z) xy ∙ yz

  under_both : (x y z : ℕ) → x < codes → y < codes → z < codes → Under join x z → Under join y z → Under join (join x y) z
  under_both x y z hx hy hz xz yz = laws.associative x y z hx hy hz ∙ ap (join x) yz ∙ xz

  -- what is the same at every query is its own bound
  pub bound_constant : (f : Query → ℕ) (c : ℕ) → c < codes → ((p : Query) → f p ≡ c) → (q : Query) → Bound codes join f q (f q)
  bound_constant f c hc same q = record {
    code = subst (λ x. x < codes) (sym (same q)) hc;
    upper = λ p k. subst (λ x. Under join x (f q)) (same q ∙ sym (same p)) (laws.idempotent (f q) (subst (λ x. x < codes) (sym (same q)) hc));
    least = λ b hb each. each q (λ i below e. e);
  }

  -- f goes by the pair v to one of two parts, neither of which looks at v
  module _ (v : ℕ) (small : v < 48) (f low high : Query → ℕ) (parts : (p : Query) → f p ≡ cond (p v) (high p) (low p))
      (side : (b : Bool) (p : Query) → f (put p v b) ≡ cond b (high p) (low p)) (coded : Coded codes f) where
    goes : (b : Bool) (p : Query) → p v ≡ b → f p ≡ cond b (high p) (low p)
    goes b p e = parts p ∙ ap (λ c. cond c (high p) (low p)) e

    pub coded_side : (b : Bool) (p : Query) → cond b (high p) (low p) < codes
    coded_side b p = subst (λ x. x < codes) (side b p) (coded (put p v b))

    -- the bounds of the parts, each above what f says where the pair is so
    upper_at : (q : Query) (u : ℕ) (b : Bool) → ((p : Query) → Contains p q → Under join (cond b (high p) (low p)) u) → (p : Query) → Contains p q → p v ≡ b → Under join (f p) u
    upper_at q u b each p c e = subst (λ x. Under join x u) (sym (goes b p e)) (each p c)

    bound_present : (q : Query) (h : ℕ) → q v ≡ true → Bound codes join high q h → Bound codes join f q h
    bound_present q h has bound = record {
      code = bound.code;
      upper = λ p c. upper_at q h true bound.upper p c (c v small has);
      least = λ b hb each. bound.least b hb (λ p c. subst (λ x. Under join x b) (goes true p (c v small has)) (each p c));
    }

    bound_absent : (q : Query) (l h : ℕ) → q v ≡ false → Bound codes join low q l → Bound codes join high q h → Bound codes join f q (join l h)
    bound_absent q l h lacks lows highs =
        let hl = lows.code in
        let hh = highs.code in
        let hj = laws.within l h hl hh in
        record {
          code = hj;
          upper = λ p c.
              ⊎_elim
              (upper_at q (join l h) true (λ p c. under_trans (high p) h (join l h) (coded_side true p) hh hj (highs.upper p c) (under_right l h hl hh)) p c)
              (upper_at q (join l h) false (λ p c. under_trans (low p) l (join l h) (coded_side false p) hl hj (lows.upper p c) (under_left l h hl hh)) p c)
              (cases_Bool (p v));
          least = λ b hb each.
              let at : (c : Bool) (p : Query) → Contains p q → Under join (cond c (high p) (low p)) b = λ c p k. subst (λ x. Under join x b) (side c p) (each (put p v c) (contains_put p q v c lacks k)) in
              under_both l h b hl hh hb (lows.least b hb (at false)) (highs.least b hb (at true));
        }

    -- the rule of closing
    pub bound_node : (q : Query) (l h : ℕ) → Bound codes join low q l → Bound codes join high q h → Bound codes join f q (cond (q v) h (join l h))
    bound_node q l h lows highs =
        ⊎_elim
        (λ (e : q v ≡ true). subst (Bound codes join f q) (sym (cond-true (q v) h (join l h) e)) (bound_present q h e highs))
        (λ (e : q v ≡ false). subst (Bound codes join f q) (sym (cond-false (q v) h (join l h) e)) (bound_absent q l h e lows highs))
        (cases_Bool (q v))
