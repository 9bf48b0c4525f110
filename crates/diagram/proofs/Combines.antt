-- What combining gives.
use Rattle.std.proofs.Common.{◌≡◌, ℕ, zero, suc, ◌<◌, ◌≤◌, Bool, true, false, cond, eqb, ltb, sym, refl, ap, ◌∙◌, subst, ap₂, ⊎_elim, arith}
use Rattle.std.proofs.lemmas.Bool.{eqb-true, eqb-false, cond-true, cond-false, lt-ltb, le-ltb, cases_Bool, cases_lt}
use Rattle.diagram.specs.Combining.{low_at, high_at, first, combining}
use Rattle.diagram.specs.declared.rule.Rule.{Rule}
use Rattle.diagram.specs.Rules.{value_of, Leaves}
use Rattle.diagram.specs.Store.{Store, Query, mark, node_of, top, low_part, high_part, eval, Outcome, done, bind, made, Later, Sound, Grown}
use Rattle.diagram.proofs.Descents.{Descent, Descends, Ends, Goes, Way, ends, goes}
use Rattle.diagram.proofs.Makes.{either, node_after}
use Rattle.diagram.proofs.Rulings.{value_leaves}
use Rattle.diagram.proofs.Stands.{grown_length, top_grown, low_grown, high_grown, eval_grown, top_leaf, eval_leaf, top_small, is_leaf, parts}

-- the parts of a at v
record At (s : Store) (v a : ℕ) : Type 0 where
  pub low : Later s v (low_at s v a)
  pub high : Later s v (high_at s v a)
  pub means : (q : Query) → eval s a q ≡ cond (q v) (eval s (high_at s v a) q) (eval s (low_at s v a) q)

at_parts : (s : Store) (v a : ℕ) → Sound s → a < mark s → v ≤ top s a → v < 48 → At s v a
at_parts s v a so below le small =
    ⊎_elim
    (λ e.
    let is = eqb-true (top s a) v e in
    let p = parts s so a below (omega arith) in
    let el = cond-true (eqb (top s a) v) (low_part s a) a e in
    let eh = cond-true (eqb (top s a) v) (high_part s a) a e in
    record {
      low = subst (Later s v) (sym el) (subst (λ x. Later s x (low_part s a)) is p.low);
      high = subst (Later s v) (sym eh) (subst (λ x. Later s x (high_part s a)) is p.high);
      means = λ q. p.means q ∙ ap (λ x. cond (q x) (eval s (high_part s a) q) (eval s (low_part s a) q)) is ∙ ap (λ x. cond (q v) (eval s x q) (eval s (low_part s a) q)) (sym eh) ∙ ap (λ x. cond (q v) (eval s (high_at s v a) q) (eval s x q)) (sym el);
    })
    (λ e.
    let ne = eqb-false (top s a) v e in
    let el = cond-false (eqb (top s a) v) (low_part s a) a e in
    let eh = cond-false (eqb (top s a) v) (high_part s a) a e in
    let keep : Later s v a = record { below = below; later = omega arith } in
    record {
      low = subst (Later s v) (sym el) keep;
      high = subst (Later s v) (sym eh) keep;
      means = λ q. either (q v) (eval s a q) ∙ ap (λ x. cond (q v) (eval s x q) (eval s a q)) (sym eh) ∙ ap (λ x. cond (q v) (eval s (high_at s v a) q) (eval s x q)) (sym el);
    })
    (cases_Bool (eqb (top s a) v))

low_at_grown : {s t : Store} → Grown s t → (v a : ℕ) → a < mark s → low_at t v a ≡ low_at s v a
low_at_grown {s} {t} g v a h = ap (λ x. cond (eqb x v) (low_part t a) a) (top_grown g a h) ∙ ap (λ x. cond (eqb (top s a) v) x a) (low_grown g a h)

high_at_grown : {s t : Store} → Grown s t → (v a : ℕ) → a < mark s → high_at t v a ≡ high_at s v a
high_at_grown {s} {t} g v a h = ap (λ x. cond (eqb x v) (high_part t a) a) (top_grown g a h) ∙ ap (λ x. cond (eqb (top s a) v) x a) (high_grown g a h)

first_grown : {s t : Store} → Grown s t → (a b : ℕ) → a < mark s → b < mark s → first t a b ≡ first s a b
first_grown g a b ha hb = omega (arith, top_grown g a ha, top_grown g b hb)

-- the node case of combining, once the pair and the parts are known
abbrev step : ℕ → ℕ → Store → (ℕ → ℕ → ℕ) → ℕ → ℕ → ℕ → ℕ → ℕ → Outcome
step f room s rule v la lb xa xb = bind (combining f room s rule la lb) (λ s₁ l. bind (combining f room s₁ rule xa xb) (λ s₂ h. made room s₂ (node_of v l h)))

at_node : (f room : ℕ) (s : Store) (rule : ℕ → ℕ → ℕ) (a b v la lb xa xb : ℕ) → first s a b ≡ v → v < 48 →
    low_at s v a ≡ la → low_at s v b ≡ lb → high_at s v a ≡ xa → high_at s v b ≡ xb → combining (suc f) room s rule a b ≡ step f room s rule v la lb xa xb
unfolding combining
at_node f room s rule a b v la lb xa xb e small ea eb ec ed =
    cond-true (ltb (first s a b) 48) _ _ (lt-ltb (first s a b) 48 (omega arith))
    ∙ ap (λ x. step f room s rule x (low_at s x a) (low_at s x b) (high_at s x a) (high_at s x b)) e
    ∙ (λ i. step f room s rule v (ea i) (eb i) (ec i) (ed i))

at_leaves : (f room : ℕ) (s : Store) (rule : ℕ → ℕ → ℕ) (a b : ℕ) → 48 ≤ first s a b → combining f room s rule a b ≡ done s (rule a b)
unfolding combining
at_leaves zero room s rule a b h = refl
at_leaves (suc f) room s rule a b h = cond-false (ltb (first s a b) 48) _ _ (le-ltb (first s a b) 48 h)

abbrev pub combines : (ℕ → ℕ → ℕ) → Descent (ℕ × ℕ)
combines rule = record {
  build = λ f room s x. combining f room s rule x.0 x.1;
  Stands = λ s x. (x.0 < mark s) × (x.1 < mark s);
  level = λ s x. first s x.0 x.1;
  Means = λ s x g. (q : Query) → g q ≡ rule (eval s x.0 q) (eval s x.1 q);
  after = λ v l h room s. made room s (node_of v l h);
  joining = λ l h. l;
}

module _ (rule : ℕ → ℕ → ℕ) (leaves : Leaves rule) (s : Store) (a b : ℕ) (so : Sound s) (ha : a < mark s) (hb : b < mark s) where
  -- two leaves give the rule's code
  pub combine_leaves : 48 ≤ first s a b → Ends (combines rule) s (a, b) (rule a b)
  combine_leaves h =
      let la = is_leaf s so a ha (omega arith) in
      let lb = is_leaf s so b hb (omega arith) in
      let lr = leaves a b la lb in
      record {
        below = omega arith;
        later = omega (arith, top_leaf s (rule a b) lr, top_small s so a);
        means = λ q. eval_leaf s (rule a b) q lr ∙ sym (λ i. rule (eval_leaf s a q la i) (eval_leaf s b q lb i));
        is = λ f room u enough g. at_leaves f room u rule a b (omega (arith, first_grown g a b ha hb));
      }

  -- otherwise their parts at the first pair are combined
  pub combine_node : (v la lb xa xb : ℕ) → first s a b ≡ v → v < 48 → low_at s v a ≡ la → low_at s v b ≡ lb → high_at s v a ≡ xa → high_at s v b ≡ xb →
      Goes (combines rule) s (a, b) v (la, lb) (xa, xb)
  combine_node v la lb xa xb is small ea eb ec ed =
      let pa = at_parts s v a so ha (omega arith) small in
      let pb = at_parts s v b so hb (omega arith) small in
      let low_a = subst (Later s v) ea pa.low in
      let low_b = subst (Later s v) eb pb.low in
      let high_a = subst (Later s v) ec pa.high in
      let high_b = subst (Later s v) ed pb.high in
      record {
        at = is;
        small = small;
        low_stands = (low_a.below, low_b.below);
        low_later = omega (arith, low_a.later, low_b.later);
        high_stands = (high_a.below, high_b.below);
        high_later = omega (arith, high_a.later, high_b.later);
        is = λ f room u g.
            at_node f room u rule a b v la lb xa xb (first_grown g a b ha hb ∙ is) small
            (low_at_grown g v a ha ∙ ea) (low_at_grown g v b hb ∙ eb) (high_at_grown g v a ha ∙ ec) (high_at_grown g v b hb ∙ ed);
        means = λ x y mx my q.
            ap₂ (λ (h l : ℕ). cond (q v) h l) (my q) (mx q)
            ∙ both (q v) (eval s xa q) (eval s xb q) (eval s la q) (eval s lb q)
            ∙ sym (λ i. rule (means_at v a la xa pa ea ec q i) (means_at v b lb xb pb eb ed q i));
      }
    where
      both : (c : Bool) (x y z w : ℕ) → cond c (rule x y) (rule z w) ≡ rule (cond c x z) (cond c y w)
      both true x y z w = refl
      both false x y z w = refl

      means_at : (v r lo hi : ℕ) → At s v r → low_at s v r ≡ lo → high_at s v r ≡ hi → (q : Query) → eval s r q ≡ cond (q v) (eval s hi q) (eval s lo q)
      means_at v r lo hi p el eh q = p.means q ∙ (λ i. cond (q v) (eval s (eh i) q) (eval s (el i) q))

  combine_way : Way (combines rule) s (a, b)
  combine_way =
      ⊎_elim
      (λ (lt : first s a b < 48). goes (first s a b) _ _ (combine_node (first s a b) _ _ _ _ refl lt refl refl refl refl))
      (λ (ge : 48 ≤ first s a b). ends (rule a b) (combine_leaves ge))
      (cases_lt (first s a b) 48)

pub combines_so : (rule : ℕ → ℕ → ℕ) → Leaves rule → Descends (combines rule)
combines_so rule leaves = record {
  stands_grown = λ g x h. (omega (arith, grown_length g, h.0), omega (arith, grown_length g, h.1));
  level_grown = λ g x h. first_grown g x.0 x.1 h.0 h.1;
  means_grown = λ g x h f m q. m q ∙ (λ i. rule (eval_grown g x.0 q h.0 i) (eval_grown g x.1 q h.1 i));
  way = λ s x so h. combine_way rule leaves s x.0 x.1 so h.0 h.1;
  after_holds = node_after;
}

-- a rule takes leaves to leaves
pub combines_rule : (rule : Rule) → Descends (combines (value_of rule))
combines_rule rule = combines_so (value_of rule) (value_leaves rule)
