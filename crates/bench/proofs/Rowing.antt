-- The turns of the loop that makes a row.
use Rattle.std.proofs.Common.{◌≡◌, ℕ, suc, ◌+◌, ◌-◌, ◌<◌, ◌≤◌, ◌≢◌, List, get_or, set, sym, refl, ap, ◌∙◌, arith, get_or-set_other}
use Rattle.diagram.specs.Store.{Store, node_of, full, done, made, Later, Sound, Grown, still}
use Rattle.diagram.proofs.Makes.{made_at}
use Rattle.diagram.proofs.Stands.{grown_trans}
use Rattle.bench.specs.Building.{From, FromAll, no_row, row, bind_row, next_row}
use Rattle.bench.proofs.Yielding.{from_grown, from_later}

-- the entries below c are done: what is left is the row from c on
pub record RowTurn (room : ℕ) (s : Store) (j n : ℕ) (xs : List ℕ) (left : ℕ) (t : Store) (c : ℕ) (ys : List ℕ) : Type 0 where
  pub told : next_row room s j 0 n xs ≡ next_row room t j c (n - c) ys
  pub same : left ≡ room
  pub grown : Grown s t
  pub later : (i : ℕ) → c ≤ i → i ≤ n → From t (j + 1) (get_or ys i 0)

-- the entry at c, then those after it
row_step : (room : ℕ) (t : Store) (j n c : ℕ) (ys : List ℕ) → c < n →
    next_row room t j c (n - c) ys ≡ bind_row (made room t (node_of j (get_or ys c 0) (get_or ys (c + 1) 0))) (λ u x. next_row room u j (c + 1) (n - (c + 1)) (set ys c x))
unfolding next_row
row_step room t j n c ys lt = let more : n - c ≡ suc (n - (c + 1)) = omega arith in ap (λ k. next_row room t j c k ys) more

row_none : (room : ℕ) (t : Store) (j n c : ℕ) (ys : List ℕ) → n ≤ c → next_row room t j c (n - c) ys ≡ row t ys
unfolding next_row
row_none room t j n c ys le = let none : n - c ≡ 0 = omega arith in ap (λ k. next_row room t j c k ys) none

pub row_start : (room : ℕ) (s : Store) (j n : ℕ) (xs : List ℕ) → FromAll s (j + 1) n xs → RowTurn room s j n xs room s 0 xs
row_start room s j n xs all = record { told = ap (λ k. next_row room s j 0 k xs) (let e : n ≡ n - 0 = omega arith in e); same = refl; grown = still; later = λ i _ h. all i h }

module _ {room : ℕ} {s : Store} {j n : ℕ} {xs : List ℕ} {left : ℕ} {t : Store} {c : ℕ} {ys : List ℕ} (turn : RowTurn room s j n xs left t c ys) where
  step : c < n → next_row room s j 0 n xs ≡ bind_row (made left t (node_of j (get_or ys c 0) (get_or ys (c + 1) 0))) (λ u x. next_row room u j (c + 1) (n - (c + 1)) (set ys c x))
  step lt =
      turn.told ∙ row_step room t j n c ys lt
      ∙ ap (λ m. bind_row (made m t (node_of j (get_or ys c 0) (get_or ys (c + 1) 0))) (λ u x. next_row room u j (c + 1) (n - (c + 1)) (set ys c x))) (sym turn.same)

  pub row_low : c < n → Later t j (get_or ys c 0)
  row_low lt = from_later (omega arith) (turn.later c (omega arith) (omega arith))

  pub row_high : c < n → Later t j (get_or ys (c + 1) 0)
  row_high lt = from_later (omega arith) (turn.later (c + 1) (omega arith) (omega arith))

  pub row_full : c < n → made left t (node_of j (get_or ys c 0) (get_or ys (c + 1) 0)) ≡ full → next_row room s j 0 n xs ≡ no_row
  row_full lt e = step lt ∙ ap (λ o. bind_row o (λ u x. next_row room u j (c + 1) (n - (c + 1)) (set ys c x))) e

  pub row_next : (left₁ : ℕ) (u : Store) (x : ℕ) → c < n → j < 48 → Sound t → made left t (node_of j (get_or ys c 0) (get_or ys (c + 1) 0)) ≡ done u x → left₁ ≡ left → RowTurn room s j n xs left₁ u (c + 1) (set ys c x)
  row_next left₁ u x lt small so e same =
      let m = made_at t (node_of j (get_or ys c 0) (get_or ys (c + 1) 0)) so (record { low = row_low lt; high = row_high lt; small = small }) left u x e in
      record {
        told = step lt ∙ ap (λ o. bind_row o (λ u x. next_row room u j (c + 1) (n - (c + 1)) (set ys c x))) e;
        same = same ∙ turn.same;
        grown = grown_trans turn.grown m.grown;
        later = λ i from to.
            let ne : i ≢ c = λ e. omega arith in
            rw get_or-set_other (from_grown m.grown (turn.later i (omega arith) to));
      }

  pub row_end : n ≤ c → next_row room s j 0 n xs ≡ row t ys
  row_end le = turn.told ∙ row_none room t j n c ys le
