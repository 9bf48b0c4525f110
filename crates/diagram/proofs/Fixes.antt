-- What fixing a pair gives.
use Rattle.std.proofs.Common.{◌≡◌, ℕ, zero, suc, ◌+◌, ◌<◌, ◌≤◌, Bool, true, cond, eqb, ltb, sym, refl, ap, ◌∙◌, subst, ap₂, ⊎_elim, arith}
use Rattle.std.proofs.lemmas.Bool.{eq-eqb, ne_eqb, cond-true, cond-false, lt-ltb, le-ltb, cases_order}
use Rattle.diagram.specs.Fixing.{fixing}
use Rattle.diagram.specs.Store.{Store, Query, put, mark, node_of, top, low_part, high_part, eval, Outcome, done, bind, made, Sound}
use Rattle.diagram.proofs.Canonical.{put_above, put_same, put_other}
use Rattle.diagram.proofs.Descents.{Descent, Descends, Ends, Goes, Way, ends, goes}
use Rattle.diagram.proofs.Makes.{node_after}
use Rattle.diagram.proofs.Stands.{grown_length, top_grown, low_grown, high_grown, eval_grown, parts, parts_of}

-- the node case, once the pair and the parts are known
abbrev step : ℕ → ℕ → Store → ℕ → ℕ → ℕ → ℕ → Outcome
step f room s j v lo hi = bind (fixing f room s j lo) (λ s₁ l. bind (fixing f room s₁ j hi) (λ s₂ h. made room s₂ (node_of v l h)))

at_node : (f room : ℕ) (s : Store) (j r v lo hi : ℕ) → top s r ≡ v → low_part s r ≡ lo → high_part s r ≡ hi → v < j → fixing (suc f) room s j r ≡ step f room s j v lo hi
unfolding fixing
at_node f room s j r v lo hi e el eh h =
    cond-false (eqb (top s r) j) _ _ (ne_eqb (top s r) j (λ x. omega arith)) ∙ cond-false (ltb j (top s r)) _ _ (le-ltb j (top s r) (omega arith)) ∙ (λ i. step f room s j (e i) (el i) (eh i))

at_pair : (f room : ℕ) (s : Store) (j r hi : ℕ) → top s r ≡ j → j < 48 → 48 ≤ f + top s r → high_part s r ≡ hi → fixing f room s j r ≡ done s hi
unfolding fixing
at_pair zero room s j r hi e small enough eh = absurd (omega arith)
at_pair (suc f) room s j r hi e small enough eh = cond-true (eqb (top s r) j) _ _ (eq-eqb (top s r) j e) ∙ ap (done s) eh

at_later : (f room : ℕ) (s : Store) (j r : ℕ) → j < top s r → fixing f room s j r ≡ done s r
unfolding fixing
at_later zero room s j r h = refl
at_later (suc f) room s j r h = cond-false (eqb (top s r) j) _ _ (ne_eqb (top s r) j (λ x. omega arith)) ∙ cond-true (ltb j (top s r)) _ _ (lt-ltb j (top s r) h)

abbrev pub fixes : ℕ → Descent ℕ
fixes j = record {
  build = λ f room s r. fixing f room s j r;
  Stands = λ s r. r < mark s;
  level = top;
  Means = λ s r g. (q : Query) → g q ≡ eval s r (put q j true);
  after = λ v l h room s. made room s (node_of v l h);
  joining = λ l h. l;
}

module _ (j : ℕ) (small : j < 48) (s : Store) (r : ℕ) (so : Sound s) (h : r < mark s) where
  -- a node of a later pair, or a leaf, stays
  pub fix_later : j < top s r → Ends (fixes j) s r r
  fix_later over = record {
    below = h;
    later = omega arith;
    means = λ q. sym (put_above s so j r (record { below = h; later = over }) q true);
    is = λ f room u enough g. at_later f room u j r (omega (arith, top_grown g r h));
  }

  -- a node of the pair gives its high part
  pub fix_pair : top s r ≡ j → Ends (fixes j) s r (high_part s r)
  fix_pair is =
      let p = parts s so r h (omega arith) in
      let over = subst (λ v. v < top s (high_part s r)) is p.high.later in
      record {
        below = p.high.below;
        later = omega (arith, p.high.later);
        means = λ q. sym (p.means (put q j true) ∙ ap (λ (b : Bool). cond b (eval s (high_part s r) (put q j true)) (eval s (low_part s r) (put q j true))) (ap (put q j true) is ∙ put_same q j true) ∙ put_above s so j (high_part s r) (record { below = p.high.below; later = over }) q true);
        is = λ f room u enough g. at_pair f room u j r (high_part s r) (top_grown g r h ∙ is) small (omega (arith, top_grown g r h)) (high_grown g r h);
      }

  -- a node of an earlier pair is built anew
  pub fix_node : (v lo hi : ℕ) → top s r ≡ v → v < j → low_part s r ≡ lo → high_part s r ≡ hi → Goes (fixes j) s r v lo hi
  fix_node v lo hi is less el eh =
      let p = parts_of s so r h v lo hi is (omega arith) el eh in
      record {
        at = is;
        small = omega arith;
        low_stands = p.low.below;
        low_later = p.low.later;
        high_stands = p.high.below;
        high_later = p.high.later;
        is = λ f room u g. at_node f room u j r v lo hi (top_grown g r h ∙ is) (low_grown g r h ∙ el) (high_grown g r h ∙ eh) less;
        means = λ x y mx my q.
            ap₂ (λ (a b : ℕ). cond (q v) a b) (my q) (mx q)
            ∙ sym (p.means (put q j true) ∙ ap (λ (b : Bool). cond b (eval s hi (put q j true)) (eval s lo (put q j true))) (put_other q j true v (λ e. omega arith)));
      }

  fix_way : Way (fixes j) s r
  fix_way =
      ⊎_elim
      (λ (is : top s r ≡ j). ends (high_part s r) (fix_pair is))
      (⊎_elim (λ (less : top s r < j). goes (top s r) (low_part s r) (high_part s r) (fix_node (top s r) _ _ refl less refl refl)) (λ (over : j < top s r). ends r (fix_later over)))
      (cases_order (top s r) j)

pub fixes_so : (j : ℕ) → j < 48 → Descends (fixes j)
fixes_so j small = record {
  stands_grown = λ g r h. omega (arith, grown_length g);
  level_grown = top_grown;
  means_grown = λ g r h f m q. m q ∙ eval_grown g r (put q j true) h;
  way = fix_way j small;
  after_holds = node_after;
}
