-- The loops over the opening, a name and nine digits.
use Rattle.std.proofs.Common.{◌≡◌, ℕ, ◌+◌, ◌<◌, ◌≤◌, Bool, true, cond, ◌&&◌, eqb, List, ◌∷◌, length, get_or, drop, Some, None, Option, sym, ap, ◌∙◌}
use Rattle.std.proofs.lemmas.List.{drop_more, drop_all}
use Rattle.std.proofs.lemmas.Bool.{eq-eqb, ne_eqb, cond-true, cond-false}
use Rattle.policy.specs.Commands.{zeros, padded, printable}
use Rattle.policy.specs.Reading.{differs}

-- ---- names

module _ (bs : List ℕ) (i : ℕ) (h : i < length bs) where
  at : padded (drop i bs) ≡ cond (eqb (get_or bs i 0) 0) (zeros (drop (i + 1) bs)) (printable (get_or bs i 0) && padded (drop (i + 1) bs))
  unfolding padded
  at = ap padded (drop_more bs i 0 h)

  -- from the first 00 on nothing else may stand
  pub padded_zero : get_or bs i 0 ≡ 0 → padded (drop i bs) ≡ zeros (drop i bs)
  padded_zero e = at ∙ cond-true _ _ _ (eq-eqb _ _ e) ∙ sym (ap zeros (drop_more bs i 0 h) ∙ ap (λ t. t && zeros (drop (i + 1) bs)) (eq-eqb _ _ e))

  pub padded_more : (get_or bs i 0 ≡ 0 → ⊥) → (t : Bool) → printable (get_or bs i 0) ≡ t → padded (drop i bs) ≡ (t && padded (drop (i + 1) bs))
  padded_more ne t e = at ∙ cond-false _ _ _ (ne_eqb _ _ ne) ∙ ap (λ u. u && padded (drop (i + 1) bs)) e

pub padded_end : (bs : List ℕ) (i : ℕ) → length bs ≤ i → padded (drop i bs) ≡ true
unfolding padded
padded_end bs i h = ap padded (drop_all i bs h)

-- ---- the opening

module _ (os bs : List ℕ) (i : ℕ) where
  abbrev two_drops : ℕ → Option ℕ
  two_drops j = differs (drop j os) (drop j bs) j

  both_there : i < length os → i < length bs → two_drops i ≡ cond (eqb (get_or bs i 0) (get_or os i 0)) (two_drops (i + 1)) (Some i)
  unfolding differs
  both_there h k =
      ap (λ x. differs x (drop i bs) i) (drop_more os i 0 h) ∙ ap (λ y. differs (get_or os i 0 ∷ drop (i + 1) os) y i) (drop_more bs i 0 k)

  pub opening_more : i < length os → i < length bs → get_or bs i 0 ≡ get_or os i 0 → two_drops i ≡ two_drops (i + 1)
  opening_more h k e = both_there h k ∙ cond-true _ _ _ (eq-eqb _ _ e)

  pub opening_wrong : i < length os → i < length bs → (get_or bs i 0 ≡ get_or os i 0 → ⊥) → two_drops i ≡ Some i
  opening_wrong h k e = both_there h k ∙ cond-false _ _ _ (ne_eqb _ _ e)

  pub opening_short : i < length os → length bs ≤ i → two_drops i ≡ Some i
  unfolding differs
  opening_short h k =
      ap (λ x. differs x (drop i bs) i) (drop_more os i 0 h) ∙ ap (λ y. differs (get_or os i 0 ∷ drop (i + 1) os) y i) (drop_all i bs k)

  pub opening_all : length os ≤ i → two_drops i ≡ None
  unfolding differs
  opening_all h = ap (λ x. differs x (drop i bs) i) (drop_all i os h)
