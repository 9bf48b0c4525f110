-- Recursions that go down to two parts, the low one first, and build a node of what came of them.
-- Combining, fixing and closing are such, and what is the same in them is proved here.
use Rattle.std.proofs.Common.{◌≡◌, ℕ, zero, suc, ◌+◌, ◌<◌, ◌≤◌, cond, sym, ap, ◌∙◌, subst, arith}
use mathlib.Core.Path.{fun_ext}
use Rattle.diagram.specs.Store.{Store, Query, mark, top, eval, Outcome, done, bind, Later, Sound, Grown, still}
use Rattle.diagram.proofs.Builds.{Holds, holds_by, holds_at, bind_same, holds_then, Built}
use Rattle.diagram.proofs.Stands.{grown_trans, eval_grown, later_grown}

-- what such a recursion does with an X: a reference, or two
pub record Descent (X : Type 0) : Type 1 where
  -- so deep, with so much room
  pub build : ℕ → ℕ → Store → X → Outcome
  -- the references of x stand in the store
  pub Stands : Store → X → Type 0
  -- the first pair that x tests
  pub level : Store → X → ℕ
  -- what the result has to evaluate to
  pub Means : Store → X → (Query → ℕ) → Type 0
  -- of the pair and the two results
  pub after : ℕ → ℕ → ℕ → ℕ → Store → Outcome
  -- where the pair is absent
  pub joining : ℕ → ℕ → ℕ

module _ {X : Type 0} (d : Descent X) where
  -- what is built of the parts lo and hi at the pair v
  abbrev pub of_parts : ℕ → ℕ → X → X → ℕ → Store → Outcome
  of_parts f v lo hi room u = bind (d.build f room u lo) (λ u₁ l. bind (d.build f room u₁ hi) (λ u₂ h. d.after v l h room u₂))

  -- x is the reference r, and nothing is built
  pub record Ends (s : Store) (x : X) (r : ℕ) : Type 0 where
    pub below : r < mark s
    pub later : d.level s x ≤ top s r
    pub means : d.Means s x (eval s r)
    pub is : (f room : ℕ) (u : Store) → 48 ≤ f + d.level s x → Grown s u → d.build f room u x ≡ done u r

  -- x has the parts lo and hi
  pub record Goes (s : Store) (x : X) (v : ℕ) (lo hi : X) : Type 0 where
    pub at : d.level s x ≡ v
    pub small : v < 48
    pub low_stands : d.Stands s lo
    pub low_later : v < d.level s lo
    pub high_stands : d.Stands s hi
    pub high_later : v < d.level s hi
    pub is : (f room : ℕ) (u : Store) → Grown s u → d.build (suc f) room u x ≡ of_parts f v lo hi room u
    pub means : (g h : Query → ℕ) → d.Means s lo g → d.Means s hi h → d.Means s x (λ q. cond (q v) (h q) (d.joining (g q) (h q)))

  pub data Way (s : Store) (x : X) : Type 0 where
    ends : (r : ℕ) → Ends s x r → Way s x
    goes : (v : ℕ) (lo hi : X) → Goes s x v lo hi → Way s x

  -- what a recursion owes
  pub record Descends : Type 0 where
    pub stands_grown : {s t : Store} → Grown s t → (x : X) → d.Stands s x → d.Stands t x
    pub level_grown : {s t : Store} → Grown s t → (x : X) → d.Stands s x → d.level t x ≡ d.level s x
    pub means_grown : {s t : Store} → Grown s t → (x : X) → d.Stands s x → (g : Query → ℕ) → d.Means t x g → d.Means s x g
    pub way : (s : Store) (x : X) → Sound s → d.Stands s x → Way s x
    pub after_holds : (v l h : ℕ) (s : Store) → Sound s → v < 48 → Later s v l → Later s v h → (room : ℕ) →
        Holds (Built (d.after v l h) v (λ g. (q : Query) → g q ≡ cond (q v) (eval s h q) (d.joining (eval s l q) (eval s h q))) s) (d.after v l h room s)

  -- what came of x
  abbrev pub Ran : ℕ → Store → X → Store → ℕ → Type 0
  Ran f s x = Built (λ room u. d.build f room u x) (d.level s x) (d.Means s x) s

  module _ (o : Descends) where
    ran_ends : (f room : ℕ) (s : Store) (x : X) (r : ℕ) → Sound s → 48 ≤ f + d.level s x → Ends s x r → Holds (Ran f s x) (d.build f room s x)
    ran_ends f room s x r so enough e = subst (Holds (Ran f s x)) (sym (e.is f room s enough still)) (record {
      grown = still;
      sound = so;
      below = e.below;
      later = e.later;
      means = e.means;
      stable = λ room u g su. e.is f room u enough g;
    })

    -- one node's worth, by what the recursion gives at the parts
    module _ (f room : ℕ) (s : Store) (x : X) (v : ℕ) (lo hi : X) (so : Sound s) (go : Goes s x v lo hi)
        (deeper : (t : Store) (y : X) → Sound t → d.Stands t y → v < d.level t y → Holds (Ran f t y) (d.build f room t y)) where
      -- the results, at the store before their node is built
      combine_means : (s₁ s₂ : Store) (l h : ℕ) → Ran f s lo s₁ l → Ran f s₁ hi s₂ h → d.Means s x (λ q. cond (q v) (eval s₂ h q) (d.joining (eval s₂ l q) (eval s₂ h q)))
      combine_means s₁ s₂ l h one two =
          go.means (eval s₂ l) (eval s₂ h)
          (subst (d.Means s lo) (sym (fun_ext (λ q. eval_grown two.grown l q one.below))) one.means)
          (o.means_grown one.grown hi go.high_stands (eval s₂ h) two.means)

      node_holds : (s₁ s₂ : Store) (l h : ℕ) → Ran f s lo s₁ l → Ran f s₁ hi s₂ h → Holds (Built (d.after v l h) v (d.Means s x) s₂) (d.after v l h room s₂)
      node_holds s₁ s₂ l h one two =
          let lows = go.low_later in
          let highs = go.high_later in
          let up = o.level_grown one.grown hi go.high_stands in
          let low_later : v < top s₁ l = omega (arith, one.later) in
          let high_later : v < top s₂ h = omega (arith, two.later) in
          let low : Later s₂ v l = later_grown two.grown v l (record { below = one.below; later = low_later }) in
          let high : Later s₂ v h = record { below = two.below; later = high_later } in
          holds_by _ _ (d.after v l h room s₂) (o.after_holds v l h s₂ two.sound go.small low high room)
          (λ t r node. record {
            grown = node.grown;
            sound = node.sound;
            below = node.below;
            later = node.later;
            means = subst (d.Means s x) (sym (fun_ext node.means)) (combine_means s₁ s₂ l h one two);
            stable = node.stable;
          })

      parts_hold : Holds (Built (of_parts f v lo hi) v (d.Means s x) s) (of_parts f v lo hi room s)
      parts_hold =
          holds_then (λ r u. d.build f r u lo) (λ l r u₁. bind (d.build f r u₁ hi) (λ u₂ h. d.after v l h r u₂)) _ v _ (d.Means s x) room s
          (deeper s lo so go.low_stands go.low_later)
          (λ s₁ l one.
          let highs = go.high_later in
          holds_then (λ r u. d.build f r u hi) (λ h r u₂. d.after v l h r u₂) _ v _ (d.Means s x) room s₁
          (deeper s₁ hi one.sound (o.stands_grown one.grown hi go.high_stands) (omega (arith, o.level_grown one.grown hi go.high_stands)))
          (λ s₂ h two. node_holds s₁ s₂ l h one two))

      ran_goes : Holds (Ran (suc f) s x) (d.build (suc f) room s x)
      ran_goes =
          subst (Holds (Ran (suc f) s x)) (sym (go.is f room s still))
          (holds_by (Built (of_parts f v lo hi) v (d.Means s x) s) (Ran (suc f) s x) (of_parts f v lo hi room s) parts_hold
          (λ t r b. record {
            grown = b.grown;
            sound = b.sound;
            below = b.below;
            later = omega (arith, b.later, go.at);
            means = b.means;
            stable = λ room u g su. go.is f room u (grown_trans b.grown g) ∙ b.stable room u g su;
          }))

    pub holds : (f room : ℕ) (s : Store) (x : X) → Sound s → d.Stands s x → 48 ≤ f + d.level s x → Holds (Ran f s x) (d.build f room s x)
    holds zero room s x so st enough = elim (o.way s x so st) [
      | ends r e ↦ ran_ends 0 room s x r so enough e
      | goes v lo hi go ↦ absurd (omega (arith, go.at, go.small))
    ]
    holds (suc f) room s x so st enough = elim (o.way s x so st) [
      | ends r e ↦ ran_ends (suc f) room s x r so enough e
      | goes v lo hi go ↦ ran_goes f room s x v lo hi so go (λ t y su sy lt. holds f room t y su sy (omega (arith, go.at)))
    ]

    -- the parts may be built to another depth, where that makes no difference to them
    parts_same : (f g room : ℕ) (s : Store) (x : X) (v : ℕ) (lo hi : X) → Sound s → Goes s x v lo hi → 48 ≤ suc f + v →
        ((t : Store) (y : X) → Sound t → d.Stands t y → v < d.level t y → d.build f room t y ≡ d.build g room t y) →
        of_parts f v lo hi room s ≡ of_parts g v lo hi room s
    parts_same f g room s x v lo hi so go enough same =
        let lows = go.low_later in
        let highs = go.high_later in
        bind_same (Ran f s lo) (d.build f room s lo) (d.build g room s lo) _ _
        (same s lo so go.low_stands go.low_later)
        (holds f room s lo so go.low_stands (omega arith))
        (λ s₁ l one.
        ap (λ p. bind p (λ u₂ h. d.after v l h room u₂))
        (same s₁ hi one.sound (o.stands_grown one.grown hi go.high_stands) (omega (arith, o.level_grown one.grown hi go.high_stands))))

    -- a greater bound on the depth does not matter
    pub deep_same : (f g room : ℕ) (s : Store) (x : X) → Sound s → d.Stands s x → 48 ≤ f + d.level s x → 48 ≤ g + d.level s x → d.build f room s x ≡ d.build g room s x
    deep_same zero g room s x so st ef eg = elim (o.way s x so st) [
      | ends r e ↦ e.is 0 room s ef still ∙ sym (e.is g room s eg still)
      | goes v lo hi go ↦ absurd (omega (arith, go.at, go.small))
    ]
    deep_same (suc f) zero room s x so st ef eg = elim (o.way s x so st) [
      | ends r e ↦ e.is (suc f) room s ef still ∙ sym (e.is 0 room s eg still)
      | goes v lo hi go ↦ absurd (omega (arith, go.at, go.small))
    ]
    deep_same (suc f) (suc g) room s x so st ef eg = elim (o.way s x so st) [
      | ends r e ↦ e.is (suc f) room s ef still ∙ sym (e.is (suc g) room s eg still)
      | goes v lo hi go ↦
          go.is f room s still
          ∙ parts_same f g room s x v lo hi so go (omega (arith, go.at)) (λ t y su sy lt. deep_same f g room t y su sy (omega (arith, go.at)) (omega (arith, go.at)))
          ∙ sym (go.is g room s still)
    ]

    -- at the depth of all pairs: what came of x
    pub ran_at : (room : ℕ) (s : Store) (x : X) → Sound s → d.Stands s x → (t : Store) (r : ℕ) → d.build 48 room s x ≡ done t r → Ran 48 s x t r
    ran_at room s x so st t r e = holds_at (Ran 48 s x) (d.build 48 room s x) t r (holds 48 room s x so st (omega arith)) e

    -- and where x has parts, what is built of those, to the same depth
    module _ (room : ℕ) {s : Store} {x : X} {v : ℕ} {lo hi : X} (so : Sound s) (go : Goes s x v lo hi) where
      pub at_node : d.build 48 room s x ≡ of_parts 48 v lo hi room s
      at_node = go.is 47 room s still ∙ parts_same 47 48 room s x v lo hi so go (omega arith) (λ t y su sy lt. deep_same 47 48 room t y su sy (omega arith) (omega arith))
