-- What closing gives.
use Rattle.std.proofs.Common.{◌≡◌, ℕ, zero, suc, ◌<◌, ◌≤◌, Bool, true, false, cond, ltb, sym, refl, ap, ◌∙◌, subst, ap₂, ⊎_elim, arith}
use mathlib.Core.Path.{fun_ext}
use Rattle.std.proofs.lemmas.Bool.{cond-true, cond-false, lt-ltb, le-ltb, cases_lt}
use Rattle.diagram.specs.Closing.{closing, Coded, Bound}
use Rattle.diagram.specs.Combining.{combined}
use Rattle.diagram.specs.Kinds.{Joins}
use Rattle.diagram.specs.declared.rule.Rule.{Rule}
use Rattle.diagram.specs.Rules.{value_of, Leaves}
use Rattle.diagram.specs.Store.{Store, Query, put, mark, node_of, top, low_part, high_part, eval, Outcome, done, bind, made, Later, Sound}
use Rattle.diagram.proofs.Bounds.{bound_constant, bound_node, coded_side}
use Rattle.diagram.proofs.Builds.{Holds, holds_by, holds_then, Built}
use Rattle.diagram.proofs.Canonical.{part_at}
use Rattle.diagram.proofs.Combines.{combines, combines_so}
use Rattle.diagram.proofs.Descents.{Descent, Descends, Ends, Goes, Way, ends, goes, holds}
use Rattle.diagram.proofs.Makes.{Made, node_after}
use Rattle.diagram.proofs.Rulings.{value_leaves}
use Rattle.diagram.proofs.Stands.{grown_length, top_grown, low_grown, high_grown, eval_grown, eval_leaf, is_leaf, later_grown, pick, parts, parts_of}

-- the join of the closed parts, and their node
abbrev pub joined : (ℕ → ℕ → ℕ) → ℕ → ℕ → ℕ → ℕ → Store → Outcome
joined join v l h room s = bind (combined room s join l h) (λ s₁ j. made room s₁ (node_of v j h))

abbrev step : ℕ → ℕ → Store → (ℕ → ℕ → ℕ) → ℕ → ℕ → ℕ → Outcome
step f room s join v lo hi = bind (closing f room s join lo) (λ s₁ l. bind (closing f room s₁ join hi) (λ s₂ h. joined join v l h room s₂))

at_node : (f room : ℕ) (s : Store) (join : ℕ → ℕ → ℕ) (r v lo hi : ℕ) → top s r ≡ v → low_part s r ≡ lo → high_part s r ≡ hi → v < 48 → closing (suc f) room s join r ≡ step f room s join v lo hi
unfolding closing
at_node f room s join r v lo hi e el eh h = cond-true (ltb (top s r) 48) _ _ (lt-ltb (top s r) 48 (omega arith)) ∙ (λ i. step f room s join (e i) (el i) (eh i))

at_leaf : (f room : ℕ) (s : Store) (join : ℕ → ℕ → ℕ) (r : ℕ) → 48 ≤ top s r → closing f room s join r ≡ done s r
unfolding closing
at_leaf zero room s join r h = refl
at_leaf (suc f) room s join r h = cond-false (ltb (top s r) 48) _ _ (le-ltb (top s r) 48 h)

-- g is at every query the least upper bound of what r says at the queries that contain it, whatever the codes are
abbrev pub Bounds : (ℕ → ℕ → ℕ) → Store → ℕ → (Query → ℕ) → Type 0
Bounds join s r g = (codes : ℕ) → Joins codes join → Coded codes (eval s r) → (q : Query) → Bound codes join (eval s r) q (g q)

abbrev pub closes : (ℕ → ℕ → ℕ) → Descent ℕ
closes join = record {
  build = λ f room s r. closing f room s join r;
  Stands = λ s r. r < mark s;
  level = top;
  Means = Bounds join;
  after = joined join;
  joining = join;
}

module _ (join : ℕ → ℕ → ℕ) (s : Store) (r : ℕ) (so : Sound s) (h : r < mark s) where
  -- a leaf stays
  pub close_leaf : 48 ≤ top s r → Ends (closes join) s r r
  close_leaf ge =
      let leaf = is_leaf s so r h ge in
      record {
        below = h;
        later = omega arith;
        means = λ codes laws coded q. bound_constant codes join laws (eval s r) (eval s r q) (coded q) (λ p. eval_leaf s r p leaf ∙ sym (eval_leaf s r q leaf)) q;
        is = λ f room u enough g. at_leaf f room u join r (omega (arith, top_grown g r h));
      }

  -- of a node the parts are closed
  pub close_node : (v lo hi : ℕ) → top s r ≡ v → v < 48 → low_part s r ≡ lo → high_part s r ≡ hi → Goes (closes join) s r v lo hi
  close_node v lo hi is small el eh =
      let p = parts_of s so r h v lo hi is small el eh in
      let side : (b : Bool) (q : Query) → eval s r (put q v b) ≡ cond b (eval s hi q) (eval s lo q) =
      λ b q. ap (λ w. eval s r (put q w b)) (sym is) ∙ part_at s so r (parts s so r h (omega arith)) q b ∙ pick s b (high_part s r) (low_part s r) q ∙ (λ i. cond b (eval s (eh i) q) (eval s (el i) q)) in
      record {
        at = is;
        small = small;
        low_stands = p.low.below;
        low_later = p.low.later;
        high_stands = p.high.below;
        high_later = p.high.later;
        is = λ f room u g. at_node f room u join r v lo hi (top_grown g r h ∙ is) (low_grown g r h ∙ el) (high_grown g r h ∙ eh) small;
        means = λ x y mx my codes laws coded q.
            let within : (b : Bool) (q : Query) → cond b (eval s hi q) (eval s lo q) < codes = coded_side codes join laws v small (eval s r) (eval s lo) (eval s hi) p.means side coded in
            bound_node codes join laws v small (eval s r) (eval s lo) (eval s hi) p.means side coded q (x q) (y q) (mx codes laws (within false) q) (my codes laws (within true) q);
      }

  close_way : Way (closes join) s r
  close_way =
      ⊎_elim
      (λ (lt : top s r < 48). goes (top s r) (low_part s r) (high_part s r) (close_node (top s r) _ _ refl lt refl refl))
      (λ (ge : 48 ≤ top s r). ends r (close_leaf ge))
      (cases_lt (top s r) 48)

-- two references are combined, and then their node is made
joined_holds : (join : ℕ → ℕ → ℕ) → Leaves join → (v l h : ℕ) (s : Store) → Sound s → v < 48 → Later s v l → Later s v h → (room : ℕ) →
    Holds (Built (joined join v l h) v (λ g. (q : Query) → g q ≡ cond (q v) (eval s h q) (join (eval s l q) (eval s h q))) s) (joined join v l h room s)
unfolding combined
joined_holds join leaves v l h s so small low high room =
    holds_then (λ room u. combined room u join l h) (λ j room u. made room u (node_of v j h)) _ v _ _ room s
    (holds (combines join) (combines_so join leaves) 48 room s (l, h) so (low.below, high.below) (omega arith))
    (λ t j one.
    let lows = low.later in
    let highs = high.later in
    let later : v < top t j = omega (arith, one.later) in
    holds_by (Made t (node_of v j h)) (Built (λ room u. made room u (node_of v j h)) v _ t) (made room t (node_of v j h))
    (node_after v j h t one.sound small (record { below = one.below; later = later }) (later_grown one.grown v h high) room)
    (λ u r node. record {
      grown = node.grown;
      sound = node.sound;
      below = node.below;
      later = node.later;
      means = λ q. node.means q ∙ ap₂ (λ (x y : ℕ). cond (q v) x y) (eval_grown one.grown h q high.below) (one.means q);
      stable = node.stable;
    }))

pub closes_so : (join : ℕ → ℕ → ℕ) → Leaves join → Descends (closes join)
closes_so join leaves = record {
  stands_grown = λ g r h. omega (arith, grown_length g);
  level_grown = top_grown;
  means_grown = λ {s} {t} g r h f m. subst (λ k. (codes : ℕ) → Joins codes join → Coded codes k → (q : Query) → Bound codes join k q (f q)) (fun_ext (λ q. eval_grown g r q h)) m;
  way = close_way join;
  after_holds = joined_holds join leaves;
}

pub closes_rule : (rule : Rule) → Descends (closes (value_of rule))
closes_rule rule = closes_so (value_of rule) (value_leaves rule)
