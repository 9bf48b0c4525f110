-- What a call's tests say.
use Rattle.std.proofs.Common.{◌≡◌, ℕ, ◌<◌, true, ◌&&◌, eqb, ◌↔◌, sym, ◌∙◌, arith}
use Rattle.std.proofs.lemmas.Bool.{and_parts, eqb-true, eq-eqb, ltb-true}
use Rattle.diagram.specs.declared.node.Node.{Node}
use Rattle.diagram.specs.Calls.{stands, ordered}
use Rattle.diagram.specs.Combining.{first}
use Rattle.diagram.specs.Store.{Store, Query, mark, eval, Outcome, full, done, Fits, Sound, Grown}
use Rattle.diagram.proofs.Canonical.{canonicity}
use Rattle.diagram.proofs.Stands.{eval_grown, grown_length, top_small}

pub known_parts : (s : Store) (a b : ℕ) → (stands s a && stands s b) ≡ true → (a < mark s) × (b < mark s)
known_parts s a b e = let p = and_parts (stands s a) (stands s b) e in (ltb-true a (mark s) p.0, ltb-true b (mark s) p.1)

pub fits_from : (s : Store) (n : Node) → Sound s → (stands s n.low && stands s n.high) ≡ true → ordered s n ≡ true → Fits s n
fits_from s n so known orders =
    let p = known_parts s n.low n.high known in
    let less = ltb-true n.pair (first s n.low n.high) orders in
    record {
      low = record { below = p.0; later = omega arith };
      high = record { below = p.1; later = omega arith };
      small = omega (arith, top_small s so n.low);
    }

-- a reference that was built evaluates as another exactly when they are equal
pub compared : (r c : ℕ) {s t : Store} {o : Outcome} (value : Query → ℕ) → Sound t → Grown s t → o ≡ done t r → r < mark t → ((q : Query) → eval t r q ≡ value q) → c < mark s →
    (o ≡ full → ⊥) × ((eqb r c ≡ true) ↔ ((q : Query) → value q ≡ eval s c q))
compared r c {s} {t} {o} value so g is below means hc =
    let one = canonicity t so r c below (omega (arith, grown_length g)) in (
      (λ e. let z : ◌≡◌ {A = ℕ} 0 1 = cc in omega arith),
      (
        (λ e q. sym (means q) ∙ one.0 (eqb-true r c e) q ∙ eval_grown g c q hc),
        (λ same. eq-eqb r c (one.1 (λ q. means q ∙ same q ∙ sym (eval_grown g c q hc)))),
      ),
    )
