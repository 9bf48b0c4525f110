-- Facts that a struct's field holds with no proof to tell apart from another, taken out again.
use Rattle.std.proofs.Common.{◌≡◌, ℕ, Bool, true, false, ◌&&◌, eqb, List, [], ◌∷◌, sym, refl, subst, ap₂}
use mathlib.Core.Bool.{Bool-set}
use mathlib.Core.HLevel.{Π_prop, ⊥_prop, Unit-prop}
use mathlib.Core.Logic.{∥∥₁_elim}
use native.Mathlib.Bridge.{le_prop}
use Rattle.std.proofs.lemmas.Bool.{false≢true, and_parts, and_from, eqb-true, eq-eqb}
use Rattle.diagram.specs.declared.node.Node.{Node}
use Rattle.diagram.specs.Memo.{Remembers}
use Rattle.diagram.specs.Store.{Store, Outcome, full, done, same, Later, Fits, Sound}
use Rattle.diagram.proofs.Stands.{same_is, same_from}

later_prop : (s : Store) (v x : ℕ) → IsProp (Later s v x)
later_prop s v x a b = λ i. record { below = le_prop a.below b.below i; later = le_prop a.later b.later i }

fits_prop : (s : Store) (n : Node) → IsProp (Fits s n)
fits_prop s n a b = λ i. record {
  low = later_prop s n.pair n.low a.low b.low i;
  high = later_prop s n.pair n.high a.high b.high i;
  small = le_prop a.small b.small i;
}

sound_prop : (s : Store) → IsProp (Sound s)
sound_prop [] = Unit-prop
sound_prop (n ∷ s) = λ a b i. (
  fits_prop s n a.0 b.0 i,
  Π_prop (λ e. ⊥_prop) a.1 b.1 i,
  Π_prop (λ r. Π_prop (λ e. ⊥_prop)) a.2 b.2 i,
  sound_prop s a.3 b.3 i,
)

pub sound_of : (s : Store) → ∥ Sound s ∥₁ → Sound s
sound_of s t = ∥∥₁_elim t (sound_prop s) (λ so. so)

-- equal stores and outcomes, by a test
alike : Store → Store → Bool
alike [] [] = true
alike [] (m ∷ t) = false
alike (n ∷ s) [] = false
alike (n ∷ s) (m ∷ t) = same n m && alike s t

alike_is : (s t : Store) → alike s t ≡ true → s ≡ t
unfolding alike
alike_is [] [] e = refl
alike_is [] (m ∷ t) e = absurd (false≢true e)
alike_is (n ∷ s) [] e = absurd (false≢true e)
alike_is (n ∷ s) (m ∷ t) e = let p = and_parts _ _ e in ap₂ (λ (x : Node) (y : Store). x ∷ y) (same_is n m p.0) (alike_is s t p.1)

alike_self : (s : Store) → alike s s ≡ true
unfolding alike
alike_self [] = refl
alike_self (n ∷ s) = and_from _ _ (same_from n n refl refl refl) (alike_self s)

comes_to : Outcome → Store → ℕ → Bool
comes_to full s r = false
comes_to (done t x) s r = alike t s && eqb x r

comes_is : (o : Outcome) (s : Store) (r : ℕ) → comes_to o s r ≡ true → o ≡ done s r
unfolding comes_to
comes_is full s r e = absurd (false≢true e)
comes_is (done t x) s r e = let p = and_parts _ _ e in ap₂ done (alike_is t s p.0) (eqb-true x r p.1)

comes_from : (o : Outcome) (s : Store) (r : ℕ) → o ≡ done s r → comes_to o s r ≡ true
unfolding comes_to
comes_from o s r e = subst (λ p. comes_to p s r ≡ true) (sym e) (and_from _ _ (alike_self s) (eq-eqb r r refl))

outcome_of : (P : Type 0) (o : Outcome) (s : Store) (r : ℕ) → ∥ P ∥₁ → (P → o ≡ done s r) → o ≡ done s r
outcome_of P o s r t get = comes_is o s r (∥∥₁_elim t (Bool-set _ _) (λ p. comes_from o s r (get p)))

pub remembers_of : (s : Store) (memo : List ℕ) → ∥ Remembers s memo ∥₁ → Remembers s memo
remembers_of s memo t k h some = (
  ∥∥₁_elim t le_prop (λ m. (m k h some).0),
  ∥∥₁_elim t le_prop (λ m. (m k h some).1),
  (λ e. ∥∥₁_elim t le_prop (λ m. (m k h some).2 e)),
  (λ room. outcome_of (Remembers s memo) _ s _ t (λ m. (m k h some).3 room)),
)
