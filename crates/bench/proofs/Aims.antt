-- The steps of the code that makes a target.
use Rattle.std.proofs.Common.{◌≡◌, ℕ, ◌+◌, ◌-◌, ◌<◌, ◌≤◌, Result, sym, ap, ◌∙◌, subst, arith}
use Rattle.std.proofs.lemmas.Bool.{cond-true, cond-false, lt-ltb, le-ltb}
use Rattle.diagram.specs.declared.table.TableFull.{TableFull}
use Rattle.diagram.specs.Store.{Store, eval, full, done, bind, node_of, made, Later, Sound}
use Rattle.diagram.proofs.Builds.{holds_at, bind_full, bind_done}
use Rattle.diagram.proofs.Makes.{Made, made_at}
use Rattle.policy.specs.Policies.{pair, value, present_from}
use Rattle.bench.specs.Building.{From, IsTarget, chain, earlier, target}
use Rattle.diagram.specs.Told.{Told}
use Rattle.bench.proofs.Answering.{told_gives}
use Rattle.bench.proofs.Targets.{unless, chain_holds, target_holds}
use Rattle.bench.proofs.Yielding.{Yields, yields_from, from_grown, from_later, leaf_from, leaf_later}

-- i is one of the attribute's pairs, which are all below 48, and s is sound
pub record Aim (s : Store) (start count i : ℕ) : Type 0 where
  pub from : start ≤ i
  pub to : i < start + count
  pub small : start + count ≤ 48
  pub sound : Sound s

module _ (room : ℕ) {s : Store} {start count i : ℕ} (aim : Aim s start count i) where
  pub target_means : (t : Store) (r : Result ℕ TableFull) → Told (target room s start count i) t r → IsTarget t start count i r
  target_means t r told a es ec =
      let at_start = subst (λ n. Told (target room s n count i) t r) (sym es) told in
      told_gives t s a.start (value (pair a i)) (target room s a.start a.count i) r (target_holds a i (omega arith) (omega arith) room s aim.sound (omega arith)) (subst (λ n. Told (target room s a.start n i) t r) (sym ec) at_start)

  -- the pairs after i cannot be made
  pub no_after : chain room s (i + 1) (start + count - (i + 1)) 2 0 ≡ full → target room s start count i ≡ full
  unfolding target
  no_after e = ap (λ o. bind o (λ t x. bind (made room t (node_of i x 1)) (λ u y. earlier room u start i y))) e

  -- the pairs after i are made
  module _ {t : Store} {x : ℕ} (after : chain room s (i + 1) (start + count - (i + 1)) 2 0 ≡ done t x) where
    yields : Yields s (i + 1) (λ q. unless (present_from q (i + 1) (start + count - (i + 1))) (eval s 2 q) (eval s 0 q)) t x
    yields =
        let n = start + count - (i + 1) in
        holds_at (Yields s (i + 1) (λ q. unless (present_from q (i + 1) n) (eval s 2 q) (eval s 0 q))) (chain room s (i + 1) n 2 0) t x
        (chain_holds n (i + 1) room s 2 0 aim.sound (omega arith) (leaf_from s _ 2 (omega arith) (omega arith)) (leaf_from s _ 0 (omega arith) (omega arith))) after

    pub after_later : Later t i x
    after_later = from_later (omega arith) (yields_from yields)

    module _ {left : ℕ} (same : left ≡ room) where
      then_here : target room s start count i ≡ bind (made left t (node_of i x 1)) (λ u y. earlier room u start i y)
      unfolding target
      then_here =
          ap (λ o. bind o (λ t x. bind (made room t (node_of i x 1)) (λ u y. earlier room u start i y))) after
          ∙ ap (λ n. bind (made n t (node_of i x 1)) (λ u y. earlier room u start i y)) (sym same)

      pub no_here : made left t (node_of i x 1) ≡ full → target room s start count i ≡ full
      no_here e = bind_full _ then_here e

      -- the pair itself is made
      module _ {u : Store} {y : ℕ} (here : made left t (node_of i x 1) ≡ done u y) where
        made_here : Made t (node_of i x 1) u y
        made_here = made_at t (node_of i x 1) yields.sound (record { low = after_later; high = leaf_later t i 1 (omega arith) (omega arith); small = omega arith }) left u y here

        then_earlier : target room s start count i ≡ earlier room u start i y
        then_earlier = bind_done _ then_here here

        pub none_earlier : start ≡ i → target room s start count i ≡ done u y
        unfolding earlier
        none_earlier e = then_earlier ∙ cond-false _ _ _ (le-ltb start i (omega arith))

        module _ {left₁ : ℕ} (same₁ : left₁ ≡ left) (apart : start ≡ i → ⊥) where
          some_earlier : target room s start count i ≡ bind (made left₁ u (node_of i 0 1)) (λ w o. chain room w start (i - start) y o)
          unfolding earlier
          some_earlier =
              then_earlier ∙ cond-true _ _ _ (lt-ltb start i (omega arith))
              ∙ ap (λ n. bind (made n u (node_of i 0 1)) (λ w o. chain room w start (i - start) y o)) (sym (same₁ ∙ same))

          pub no_only : made left₁ u (node_of i 0 1) ≡ full → target room s start count i ≡ full
          no_only e = bind_full _ some_earlier e

          -- the pair alone is made, for the pairs before it
          module _ {w : Store} {o : ℕ} (only : made left₁ u (node_of i 0 1) ≡ done w o) where
            made_only : Made u (node_of i 0 1) w o
            made_only = made_at u (node_of i 0 1) made_here.sound (record { low = leaf_later u i 0 (omega arith) (omega arith); high = leaf_later u i 1 (omega arith) (omega arith); small = omega arith }) left₁ w o only

            pub here_from : From w i y
            here_from = from_grown made_only.grown (record { below = made_here.below; later = made_here.later })

            pub only_from : From w i o
            only_from = record { below = made_only.below; later = made_only.later }

            pub then_chain : {left₂ : ℕ} → left₂ ≡ left₁ → target room s start count i ≡ chain left₂ w start (i - start) y o
            then_chain same₂ = bind_done _ some_earlier only ∙ ap (λ n. chain n w start (i - start) y o) (sym (same₂ ∙ same₁ ∙ same))
