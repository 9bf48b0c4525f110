-- The turns of a loop that makes a chain.
use Rattle.std.proofs.Common.{◌≡◌, ℕ, suc, ◌+◌, ◌-◌, ◌<◌, ◌≤◌, sym, refl, ap, ◌∙◌, arith}
use Rattle.diagram.specs.Store.{Store, node_of, full, done, bind, made, Later, Sound, Grown, still}
use Rattle.diagram.proofs.Makes.{made_at}
use Rattle.diagram.proofs.Builds.{bind_full, bind_done}
use Rattle.diagram.proofs.Stands.{grown_trans}
use Rattle.bench.specs.Building.{From, chain}
use Rattle.bench.proofs.Yielding.{from_grown, from_earlier, from_later}

-- the pairs from j on are done: what is left is the chain of the pairs before, over x
pub record Turn (room : ℕ) (s : Store) (first end a h left : ℕ) (t : Store) (j x : ℕ) : Type 0 where
  pub order : first ≤ j
  pub told : chain room s first (end - first) a h ≡ chain room t first (j - first) x h
  pub same : left ≡ room
  pub grown : Grown s t
  pub low : From t j x
  pub high : From t j h

-- the last pair of a chain
chain_step : (room : ℕ) (t : Store) (first j x h : ℕ) → first < j → chain room t first (j - first) x h ≡ bind (made room t (node_of (j - 1) x h)) (λ u y. chain room u first (j - 1 - first) y h)
unfolding chain
chain_step room t first j x h lt =
    let more : j - first ≡ suc (j - 1 - first) = omega arith in
    let last : first + (j - 1 - first) ≡ j - 1 = omega arith in
    ap (λ k. chain room t first k x h) more ∙ ap (λ v. bind (made room t (node_of v x h)) (λ u y. chain room u first (j - 1 - first) y h)) last

chain_end : (room : ℕ) (t : Store) (first j x h : ℕ) → j ≤ first → chain room t first (j - first) x h ≡ done t x
unfolding chain
chain_end room t first j x h le = let none : j - first ≡ 0 = omega arith in ap (λ k. chain room t first k x h) none

pub turn_start : (room : ℕ) (s : Store) (first end a h : ℕ) → first ≤ end → From s end a → From s end h → Turn room s first end a h room s end a
turn_start room s first end a h order low high = record { order = order; told = refl; same = refl; grown = still; low = low; high = high }

module _ {room : ℕ} {s : Store} {first end a h left : ℕ} {t : Store} {j x : ℕ} (turn : Turn room s first end a h left t j x) where
  step : first < j → chain room s first (end - first) a h ≡ bind (made left t (node_of (j - 1) x h)) (λ u y. chain room u first (j - 1 - first) y h)
  step lt = turn.told ∙ chain_step room t first j x h lt ∙ ap (λ n. bind (made n t (node_of (j - 1) x h)) (λ u y. chain room u first (j - 1 - first) y h)) (sym turn.same)

  pub turn_low : first < j → Later t (j - 1) x
  turn_low lt = from_later (omega arith) turn.low

  pub turn_high : first < j → Later t (j - 1) h
  turn_high lt = from_later (omega arith) turn.high

  pub turn_full : first < j → made left t (node_of (j - 1) x h) ≡ full → chain room s first (end - first) a h ≡ full
  turn_full lt e = bind_full _ (step lt) e

  pub turn_next : (left₁ : ℕ) (u : Store) (y : ℕ) → first < j → j ≤ 48 → Sound t → made left t (node_of (j - 1) x h) ≡ done u y → left₁ ≡ left → Turn room s first end a h left₁ u (j - 1) y
  turn_next left₁ u y lt small so e same =
      let m = made_at t (node_of (j - 1) x h) so (record { low = turn_low lt; high = turn_high lt; small = omega arith }) left u y e in
      record {
        order = omega arith;
        told = bind_done _ (step lt) e;
        same = same ∙ turn.same;
        grown = grown_trans turn.grown m.grown;
        low = record { below = m.below; later = m.later };
        high = from_earlier (omega arith) (from_grown m.grown turn.high);
      }

  pub turn_end : j ≤ first → chain room s first (end - first) a h ≡ done t x
  turn_end le = turn.told ∙ chain_end room t first j x h le
