-- What making a node gives.
use Rattle.std.proofs.Common.{◌≡◌, ℕ, ◌<◌, ◌≤◌, Bool, true, false, cond, eqb, ltb, ◌∷◌, length, Some, None, Option, sym, refl, ap, ◌∙◌, arith}
use Rattle.std.proofs.lemmas.Bool.{eqb-true, eqb-false, ne_eqb, eq-eqb, cond-true, cond-false, cond_both, le-ltb, lt-ltb}
use Rattle.diagram.specs.declared.node.Node.{Node}
use Rattle.diagram.specs.Store.{Store, Query, mark, node_of, eval, found, full, done, placed, made, Later, Fits, Sound, Grown, still, newer}
use Rattle.diagram.proofs.Builds.{Holds, holds_at, Built}
use Rattle.diagram.proofs.Stands.{eval_grown, parts, found_standing, found_grown, found_new}

-- r refers to the node n in t, which grew out of s
abbrev pub Made : Store → Node → Store → ℕ → Type 0
Made s n = Built (λ room u. made room u n) n.pair (λ g. (q : Query) → g q ≡ cond (q n.pair) (eval s n.high q) (eval s n.low q)) s

pub either : {A : Type 0} (b : Bool) (x : A) → x ≡ cond b x x
either true x = refl
either false x = refl

-- the ways of `made`
module _ (room : ℕ) (s : Store) (n : Node) where
  pub made_same : n.low ≡ n.high → made room s n ≡ done s n.low
  unfolding made
  made_same e = cond-true _ _ _ (eq-eqb _ _ e)

  made_other : (n.low ≡ n.high → ⊥) → (o : Option ℕ) → found s n ≡ o → made room s n ≡ placed room s n o
  unfolding made
  made_other ne o is = cond-false _ _ _ (ne_eqb _ _ ne) ∙ ap (placed room s n) is

  pub made_found : (n.low ≡ n.high → ⊥) → (r : ℕ) → found s n ≡ Some r → made room s n ≡ done s r
  unfolding placed
  made_found ne r is = made_other ne (Some r) is

  pub made_full : (n.low ≡ n.high → ⊥) → found s n ≡ None → room ≤ length s → made room s n ≡ full
  unfolding placed
  made_full ne is h = made_other ne None is ∙ cond-false _ _ _ (le-ltb _ _ h)

  pub made_new : (n.low ≡ n.high → ⊥) → found s n ≡ None → length s < room → made room s n ≡ done (n ∷ s) (mark s)
  unfolding placed
  made_new ne is h = made_other ne None is ∙ cond-true _ _ _ (lt-ltb _ _ h)

module _ (s : Store) (n : Node) (so : Sound s) (fits : Fits s n) where
  same_made : n.low ≡ n.high → Made s n s n.low
  same_made e = record {
    grown = still;
    sound = so;
    below = fits.low.below;
    later = omega (arith, fits.low.later);
    means = λ q. either (q n.pair) (eval s n.low q) ∙ ap (λ x. cond (q n.pair) (eval s x q) (eval s n.low q)) e;
    stable = λ room u g su. made_same room u n e;
  }

  -- a node that equals n stands in t
  standing_made : (t : Store) (r : ℕ) → (n.low ≡ n.high → ⊥) → Grown s t → Sound t → found t n ≡ Some r → Made s n t r
  standing_made t r ne g sound is =
      let st = found_standing t n r is in
      let small = fits.small in
      let p = parts t sound r st.below (omega (arith, st.pairs)) in
      record {
        grown = g;
        sound = sound;
        below = st.below;
        later = omega (arith, st.pairs);
        means = λ q. rw (← eval_grown g n.low q fits.low.below, ← eval_grown g n.high q fits.high.below, ← st.pairs, ← st.lows, ← st.highs) (p.means q);
        stable = λ room u k su. made_found room u n ne r (found_grown k su n r is);
      }

  placed_holds : (room : ℕ) → (n.low ≡ n.high → ⊥) → (o : Option ℕ) → found s n ≡ o → Holds (Made s n) (placed room s n o)
  unfolding placed
  placed_holds room ne (Some r) e = standing_made s r ne still so e
  placed_holds room ne None e =
      cond_both (ltb (length s) room) (done (n ∷ s) (mark s)) full (Holds (Made s n))
      (λ _. standing_made (n ∷ s) (mark s) ne (newer n still) (fits, ne, (λ r f. never r (sym e ∙ f)), so) (found_new s n))
      (λ _. tt)
    where
      never : (r : ℕ) → None ≡ Some r → ⊥
      never r f = let z : ◌≡◌ {A = ℕ} 0 1 = cc in omega arith

  pub made_holds : (room : ℕ) → Holds (Made s n) (made room s n)
  unfolding made
  made_holds room =
      cond_both (eqb n.low n.high) (done s n.low) (placed room s n (found s n)) (Holds (Made s n))
      (λ e. same_made (eqb-true _ _ e))
      (λ e. placed_holds room (eqb-false _ _ e) (found s n) refl)

  pub made_at : (room : ℕ) (t : Store) (r : ℕ) → made room s n ≡ done t r → Made s n t r
  made_at room t r e = holds_at (Made s n) (made room s n) t r (made_holds room) e

-- the node of v and two references that test later pairs
pub node_after : (v l h : ℕ) (s : Store) → Sound s → v < 48 → Later s v l → Later s v h → (room : ℕ) → Holds (Made s (node_of v l h)) (made room s (node_of v l h))
node_after v l h s so small low high room = made_holds s (node_of v l h) so (record { low = low; high = high; small = small }) room
