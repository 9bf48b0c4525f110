-- A reference's parts, as the words have them.
use Rattle.std.proofs.Common.{◌≡◌, ℕ, eqb, sym, ◌∙◌}
use Rattle.std.proofs.lemmas.Bool.{cond-true, cond-false, eq-eqb, ne_eqb}
use Rattle.diagram.specs.Combining.{low_at, high_at}
use Rattle.diagram.specs.Store.{Store, top, low_part, high_part}

module _ (s : Store) (v r : ℕ) where
  pub low_other : (top s r ≡ v → ⊥) → r ≡ low_at s v r
  low_other ne = sym (cond-false (eqb (top s r) v) (low_part s r) r (ne_eqb (top s r) v ne))

  pub high_other : (top s r ≡ v → ⊥) → r ≡ high_at s v r
  high_other ne = sym (cond-false (eqb (top s r) v) (high_part s r) r (ne_eqb (top s r) v ne))

  pub low_here : (x : ℕ) → top s r ≡ v → low_part s r ≡ x → x ≡ low_at s v r
  low_here x e is = sym (cond-true (eqb (top s r) v) (low_part s r) r (eq-eqb (top s r) v e) ∙ is)

  pub high_here : (x : ℕ) → top s r ≡ v → high_part s r ≡ x → x ≡ high_at s v r
  high_here x e is = sym (cond-true (eqb (top s r) v) (high_part s r) r (eq-eqb (top s r) v e) ∙ is)

  -- where r tests v, these are its parts
  pub low_is : v ≡ top s r → low_part s r ≡ low_at s v r
  low_is e = sym (cond-true (eqb (top s r) v) (low_part s r) r (eq-eqb _ _ (sym e)))

  pub high_is : v ≡ top s r → high_part s r ≡ high_at s v r
  high_is e = sym (cond-true (eqb (top s r) v) (high_part s r) r (eq-eqb _ _ (sym e)))
