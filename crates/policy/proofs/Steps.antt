-- Steps of reading.
use Rattle.std.proofs.Common.{◌≡◌, ℕ, ◌+◌, ◌<◌, ◌≤◌, true, false, eqb, List, [], ◌∷◌, length, Some, None, ◌∙◌, ⊎_elim, arith}
use Rattle.std.proofs.lemmas.Bool.{cond-true, cond-false, le-leb, ne_eqb, cases_Bool}
use Rattle.policy.specs.Reading.{Progress, refused, step, command_step, differs}

-- ---- the opening

pub differs_long : (os bs : List ℕ) (i : ℕ) → None ≡ differs os bs i → length os ≤ length bs
unfolding differs
differs_long [] bs i e = omega arith
differs_long (o ∷ os) [] i e = absurd (let z : ◌≡◌ {A = ℕ} 0 1 = cc in omega arith)
differs_long (o ∷ os) (b ∷ bs) i e =
    ⊎_elim
    (λ (t : eqb b o ≡ true). let rest = differs_long os bs (i + 1) (e ∙ cond-true _ _ _ t) in omega arith)
    (λ (t : eqb b o ≡ false). let s : None ≡ Some i = e ∙ cond-false _ _ _ t in absurd (let z : ◌≡◌ {A = ℕ} 0 1 = cc in omega arith))
    (cases_Bool (eqb b o))

module _ (k : Progress) (file : List ℕ) (p : ℕ) where
  pub step_later : 0 < k.part → step k file p ≡ command_step k file p
  unfolding step
  step_later h = let ne : k.part ≡ 0 → ⊥ = λ e. omega arith in cond-false _ _ _ (ne_eqb _ _ ne)

  pub command_past : length file ≤ p → command_step k file p ≡ refused 4 (length file)
  unfolding command_step
  command_past h = cond-true _ _ _ (le-leb _ _ h)
