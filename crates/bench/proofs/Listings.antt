-- The steps of closing a shelf.
use Rattle.std.proofs.Common.{◌≡◌, ℕ, sym, ap, ◌∙◌}
use Rattle.diagram.specs.Closing.{closed}
use Rattle.diagram.specs.Combining.{combined}
use Rattle.diagram.specs.Kinds.{either, union}
use Rattle.diagram.specs.Rules.{where_one}
use Rattle.diagram.specs.Store.{Store, full, done}
use Rattle.bench.specs.declared.shelf.Draft.{Draft}
use Rattle.bench.specs.Closing.{Listing, no_lists, lists_done, then_lists, set_where, listing}

module _ (room : ℕ) (s : Store) (d : Draft) where
  abbrev after_lists : Store → ℕ → Listing
  after_lists s₃ lists = then_lists (closed room s₃ either d.valid) (λ s₄ reaches. lists_done s₄ lists reaches)

  abbrev after_unions : Store → ℕ → Listing
  after_unions s₂ unions = then_lists (combined room s₂ where_one d.valid unions) after_lists

  abbrev after_sets : Store → ℕ → Listing
  after_sets s₁ sets = then_lists (closed room s₁ union sets) after_unions

  pub no_sets : combined room s set_where d.valid d.decides ≡ full → listing room s d ≡ no_lists
  unfolding listing
  no_sets e = ap (λ o. then_lists o after_sets) e

  module _ {s₁ : Store} {x : ℕ} (one : combined room s set_where d.valid d.decides ≡ done s₁ x) (room₁ : ℕ) (same₁ : room₁ ≡ room) where
    first : listing room s d ≡ after_sets s₁ x
    unfolding listing
    first = ap (λ o. then_lists o after_sets) one

    pub no_unions : closed room₁ s₁ union x ≡ full → listing room s d ≡ no_lists
    no_unions e = first ∙ ap (λ o. then_lists o after_unions) (ap (λ n. closed n s₁ union x) (sym same₁) ∙ e)

    module _ {s₂ : Store} {u : ℕ} (two : closed room₁ s₁ union x ≡ done s₂ u) (room₂ : ℕ) (same₂ : room₂ ≡ room) where
      second : listing room s d ≡ after_unions s₂ u
      second = first ∙ ap (λ o. then_lists o after_unions) (ap (λ n. closed n s₁ union x) (sym same₁) ∙ two)

      pub no_valid : combined room₂ s₂ where_one d.valid u ≡ full → listing room s d ≡ no_lists
      no_valid e = second ∙ ap (λ o. then_lists o after_lists) (ap (λ n. combined n s₂ where_one d.valid u) (sym same₂) ∙ e)

      module _ {s₃ : Store} {l : ℕ} (three : combined room₂ s₂ where_one d.valid u ≡ done s₃ l) (room₃ : ℕ) (same₃ : room₃ ≡ room) where
        third : listing room s d ≡ after_lists s₃ l
        third = second ∙ ap (λ o. then_lists o after_lists) (ap (λ n. combined n s₂ where_one d.valid u) (sym same₂) ∙ three)

        pub no_reaches : closed room₃ s₃ either d.valid ≡ full → listing room s d ≡ no_lists
        no_reaches e = third ∙ ap (λ o. then_lists o (λ s₄ r. lists_done s₄ l r)) (ap (λ n. closed n s₃ either d.valid) (sym same₃) ∙ e)

        pub all_listed : {s₄ : Store} {r : ℕ} → closed room₃ s₃ either d.valid ≡ done s₄ r → listing room s d ≡ lists_done s₄ l r
        all_listed e = third ∙ ap (λ o. then_lists o (λ s₄ r. lists_done s₄ l r)) (ap (λ n. closed n s₃ either d.valid) (sym same₃) ∙ e)
