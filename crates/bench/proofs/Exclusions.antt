-- The exclusion of two pairs.
use Rattle.std.proofs.Common.{◌≡◌, ℕ, ◌<◌, Bool, true, false, cond, not, ◌&&◌, Result, sym, refl, ap, ◌∙◌, ap₂, arith}
use Rattle.diagram.specs.Store.{Store, Query, node_of, full, done, bind, made, Later, Sound, still}
use Rattle.diagram.proofs.Builds.{Holds, bind_holds, holds_by}
use Rattle.diagram.proofs.Makes.{Made, made_at}
use Rattle.diagram.proofs.Stands.{grown_trans, eval_leaf}
use Rattle.policy.specs.Policies.{never_both, meets}
use Rattle.diagram.specs.declared.table.TableFull.{TableFull}
use Rattle.bench.specs.Building.{IsExclusion, exclusion}
use Rattle.diagram.specs.Told.{Told}
use Rattle.bench.proofs.Answering.{told_gives}
use Rattle.bench.proofs.Yielding.{Yields, yields_as, leaf_from, leaf_later, node_over}

not_both : (x y : Bool) → ◌≡◌ {A = ℕ} (cond x (cond y 0 1) 1) (cond (not (x && y)) 1 0)
not_both true true = refl
not_both true false = refl
not_both false y = refl

pub exclusion_holds : (i j room : ℕ) (s : Store) → Sound s → i < j → j < 48 → Holds (Yields s i (λ q. cond (meets (never_both i j) q) 1 0)) (exclusion room s i j)
unfolding exclusion meets
exclusion_holds i j room s so order small =
    bind_holds (Made s (node_of j 1 0)) (Yields s i _) (made room s (node_of j 1 0)) _
    (node_over room s j 48 1 0 so small (omega arith) (leaf_from s 48 1 (omega arith) (omega arith)) (leaf_from s 48 0 (omega arith) (omega arith)))
    (λ t x m. holds_by (Made t (node_of i 1 x)) (Yields s i _) (made room t (node_of i 1 x))
    (node_over room t i j 1 x m.sound order (omega arith) (leaf_from t j 1 (omega arith) (omega arith)) (record { below = m.below; later = m.later }))
    (λ u r n. record {
      grown = grown_trans m.grown n.grown;
      sound = n.sound;
      below = n.below;
      later = n.later;
      means = λ q.
          n.means q ∙ ap₂ (cond (q i)) (m.means q ∙ ap₂ (cond (q j)) (eval_leaf s 0 q (omega arith)) (eval_leaf s 1 q (omega arith))) (eval_leaf t 1 q (omega arith))
          ∙ not_both (q i) (q j);
    }))

-- in either order of the pairs
pub either_order : (i j : ℕ) (q : Query) → meets (never_both i j) q ≡ meets (never_both j i) q
unfolding meets
either_order i j q = turned (q i) (q j)
  where
    turned : (x y : Bool) → not (x && y) ≡ not (y && x)
    turned true true = refl
    turned true false = refl
    turned false true = refl
    turned false false = refl

-- the steps of the code
module _ (room : ℕ) (s : Store) (i j : ℕ) (order : i < j) (small : j < 48) (so : Sound s) where
  pub exclusion_means : (t : Store) (r : Result ℕ TableFull) → Told (exclusion room s i j) t r → IsExclusion t i j r
  exclusion_means t r told =
      let h = exclusion_holds i j room s so order small in
      let turned : Query → ℕ = λ q. cond (meets (never_both j i) q) 1 0 in (
        told_gives t s i (λ q. cond (meets (never_both i j) q) 1 0) (exclusion room s i j) r h told,
        told_gives t s i turned (exclusion room s i j) r (holds_by (Yields s i _) (Yields s i turned) (exclusion room s i j) h (λ u x. yields_as still (omega arith) (λ q. ap (λ b. cond b 1 0) (either_order i j q)))) told,
      )

  pub no_second : made room s (node_of j 1 0) ≡ full → exclusion room s i j ≡ full
  unfolding exclusion
  no_second e = ap (λ o. bind o (λ t x. made room t (node_of i 1 x))) e

  module _ {t : Store} {x : ℕ} (second : made room s (node_of j 1 0) ≡ done t x) where
    pub second_later : Later t i x
    second_later =
        let m = made_at s (node_of j 1 0) so (record { low = leaf_later s j 1 small (omega arith); high = leaf_later s j 0 small (omega arith); small = small }) room t x second in
        record { below = m.below; later = omega (arith, m.later) }

    pub then_first : {left : ℕ} → left ≡ room → exclusion room s i j ≡ made left t (node_of i 1 x)
    unfolding exclusion
    then_first same = ap (λ o. bind o (λ t x. made room t (node_of i 1 x))) second ∙ ap (λ n. made n t (node_of i 1 x)) (sym same)
