-- The steps of a recursion that goes down to two parts, in diagrams: what holds after each of its calls.
use Rattle.std.proofs.Common.{◌≡◌, ℕ, ◌<◌, Ok, Err, Result, sym, refl, ap, ◌∙◌, subst, arith}
use Rattle.diagram.specs.declared.diagrams.Diagrams.{Diagrams}
use Rattle.diagram.specs.declared.table.TableFull.{TableFull}
use Rattle.diagram.specs.Building.{Builds}
use Rattle.diagram.specs.Held.{store_of, room_of}
use Rattle.diagram.specs.Store.{Store, Outcome, done, bind, Fits, Later, Grown, still, node_of}
use Rattle.diagram.specs.Told.{Told}
use Rattle.diagram.proofs.Descents.{Descent, Descends, Ends, Goes, Ran, ran_at, at_node}
use Rattle.diagram.proofs.Standing.{standing}
use Rattle.diagram.proofs.Stands.{grown_trans, later_grown}

-- nothing was built
pub builds_none : {o : Outcome} {d : Diagrams} {r : ℕ} → o ≡ done (store_of d) r → Builds o d d (Ok r)
builds_none e = record { told = e; room = refl; grown = still }

-- the same store in other diagrams
pub builds_same : {o : Outcome} {old mid new : Diagrams} {r : Result ℕ TableFull} → Builds o old mid r → store_of new ≡ store_of mid → room_of new ≡ room_of mid → Builds o old new r
builds_same {o} {old} {mid} {new} {r} b same room = record {
  told = subst (λ t. Told o t r) (sym same) b.told;
  room = room ∙ b.room;
  grown = subst (Grown (store_of old)) (sym same) b.grown;
}

-- the same outcome, said otherwise
pub builds_by : {o p : Outcome} {old new : Diagrams} {r : Result ℕ TableFull} → p ≡ o → Builds o old new r → Builds p old new r
builds_by {o} {p} {old} {new} {r} e b = subst (λ x. Builds x old new r) (sym e) b

-- one building after another
module _ {o : Outcome} (k : Store → ℕ → Outcome) {old mid : Diagrams} where
  pub builds_full : {e f : TableFull} → Builds o old mid (Err e) → Builds (bind o k) old mid (Err f)
  builds_full b = record { told = ap (λ x. bind x k) b.told; room = b.room; grown = b.grown }

  pub builds_then : {new : Diagrams} {x : ℕ} {r : Result ℕ TableFull} → Builds o old mid (Ok x) → Builds (k (store_of mid) x) mid new r → Builds (bind o k) old new r
  builds_then {new} {x} {r} a b = record {
    told = subst (λ p. Told p (store_of new) r) (sym (ap (λ p. bind p k) a.told)) b.told;
    room = b.room ∙ a.room;
    grown = grown_trans a.grown b.grown;
  }

-- what building x comes to
abbrev pub comes : {X : Type 0} → Descent X → Diagrams → X → Outcome
comes d from x = d.build 48 (room_of from) (store_of from) x

-- x is the reference r
pub ended : {X : Type 0} (d : Descent X) {old : Diagrams} {x : X} {r : ℕ} → Ends d (store_of old) x r → Builds (comes d old x) old old (Ok r)
ended d {old} e = builds_none (e.is 48 (room_of old) (store_of old) (omega arith) still)

module _ {X : Type 0} {d : Descent X} (o : Descends d) where
  -- what came of x
  pub came : {old new : Diagrams} {x : X} {r : ℕ} → d.Stands (store_of old) x → Builds (comes d old x) old new (Ok r) → Ran d 48 (store_of old) x (store_of new) r
  came {old} {new} {x} {r} st b = ran_at d o (room_of old) (store_of old) x (standing old) st (store_of new) r b.told

  module _ {old : Diagrams} {x : X} {v : ℕ} {lo hi : X} (go : Goes d (store_of old) x v lo hi) where
    -- what is built of the parts
    by_parts : {new : Diagrams} {r : Result ℕ TableFull} →
        Builds (bind (comes d old lo) (λ u₁ l. bind (d.build 48 (room_of old) u₁ hi) (λ u₂ h. d.after v l h (room_of old) u₂))) old new r → Builds (comes d old x) old new r
    by_parts b = builds_by (at_node d o (room_of old) (standing old) go) b

    pub low_full : {one : Diagrams} {e f : TableFull} → Builds (comes d old lo) old one (Err e) → Builds (comes d old x) old one (Err f)
    low_full b = by_parts (builds_full _ b)

    -- the low part is done
    module _ {one : Diagrams} {l : ℕ} (low : Builds (comes d old lo) old one (Ok l)) where
      first : Ran d 48 (store_of old) lo (store_of one) l
      first = came go.low_stands low

      pub high_stands : d.Stands (store_of one) hi
      high_stands = o.stands_grown low.grown hi go.high_stands

      pub high_later : v < d.level (store_of one) hi
      high_later = let later = go.high_later in omega (arith, o.level_grown low.grown hi go.high_stands)

      then_high : {new : Diagrams} {r : Result ℕ TableFull} → Builds (bind (comes d one hi) (λ u₂ h. d.after v l h (room_of old) u₂)) one new r → Builds (comes d old x) old new r
      then_high {new} {r} b =
          by_parts (builds_then _ low (subst (λ n. Builds (bind (d.build 48 n (store_of one) hi) (λ u₂ h. d.after v l h (room_of old) u₂)) one new r) low.room b))

      pub high_full : {two : Diagrams} {e f : TableFull} → Builds (comes d one hi) one two (Err e) → Builds (comes d old x) old two (Err f)
      high_full b = then_high (builds_full _ b)

      -- the high part is done
      module _ {two : Diagrams} {h : ℕ} (high : Builds (comes d one hi) one two (Ok h)) where
        pub low_fits : Later (store_of two) v l
        low_fits =
            let later = go.low_later in
            later_grown high.grown v l (record { below = first.below; later = omega (arith, first.later) })

        pub high_fits : Later (store_of two) v h
        high_fits =
            let second = came high_stands high in
            let later = high_later in
            record { below = second.below; later = omega (arith, second.later) }

        pub node_fits : Fits (store_of two) (node_of v l h)
        node_fits = record { low = low_fits; high = high_fits; small = go.small }

        pub then_after : {new : Diagrams} {r : Result ℕ TableFull} → Builds (d.after v l h (room_of two) (store_of two)) two new r → Builds (comes d old x) old new r
        then_after {new} {r} b =
            then_high (builds_then _ high (subst (λ n. Builds (d.after v l h n (store_of two)) two new r) (high.room ∙ low.room) b))
