-- The turns of the loop that makes the rows of a limit.
use Rattle.std.proofs.Common.{◌≡◌, ℕ, suc, ◌+◌, ◌-◌, ◌<◌, ◌≤◌, cond, List, length, get_or, Result, sym, refl, ap, ◌∙◌, subst, arith}
use Rattle.diagram.specs.declared.table.TableFull.{TableFull}
use Rattle.bench.specs.declared.build.Limit.{Limit}
use Rattle.diagram.specs.Store.{Store, Query, eval, full, done, Sound, Grown, still}
use Rattle.diagram.proofs.Stands.{grown_trans}
use Rattle.policy.specs.Policies.{meets}
use Rattle.bench.specs.Building.{From, FromAll, IsLimit, is_met, leaves, no_row, row, with_row, next_row, rows, limited, limits}
use Rattle.diagram.specs.Told.{Told}
use Rattle.bench.proofs.Answering.{told_gives}
use Rattle.bench.proofs.Limits.{Rowed, row_holds_at, next_row_holds, leaf_entry, limited_holds}

-- the rows of the pairs from j on are done: what is left are the rows of the pairs before, from ys on
pub record RowsTurn (room : ℕ) (s : Store) (start count : ℕ) (xs : List ℕ) (left : ℕ) (t : Store) (j : ℕ) (ys : List ℕ) : Type 0 where
  pub order : start ≤ j
  pub told : rows room s start count xs ≡ rows room t start (j - start) ys
  pub same : left ≡ room
  pub grown : Grown s t
  pub size : length ys ≡ 49
  pub later : FromAll t j (j - start) ys

rows_step : (room : ℕ) (t : Store) (start j : ℕ) (ys : List ℕ) → start < j →
    rows room t start (j - start) ys ≡ with_row (next_row room t (j - 1) 0 (j - 1 - start + 1) ys) (λ u zs. rows room u start (j - 1 - start) zs)
unfolding rows
rows_step room t start j ys lt =
    let more : j - start ≡ suc (j - 1 - start) = omega arith in
    let last : start + (j - 1 - start) ≡ j - 1 = omega arith in
    let one : suc (j - 1 - start) ≡ j - 1 - start + 1 = omega arith in
    ap (λ k. rows room t start k ys) more ∙ (λ i. with_row (next_row room t (last i) 0 (one i) ys) (λ u zs. rows room u start (j - 1 - start) zs))

rows_none : (room : ℕ) (t : Store) (start j : ℕ) (ys : List ℕ) → j ≤ start → rows room t start (j - start) ys ≡ done t (get_or ys 0 0)
unfolding rows
rows_none room t start j ys le = let none : j - start ≡ 0 = omega arith in ap (λ k. rows room t start k ys) none

pub rows_start : (room : ℕ) (s : Store) (start count : ℕ) (xs : List ℕ) → length xs ≡ 49 → FromAll s (start + count) count xs → RowsTurn room s start count xs room s (start + count) xs
rows_start room s start count xs size all =
    let e : count ≡ start + count - start = omega arith in
    record { order = omega arith; told = ap (λ k. rows room s start k xs) e; same = refl; grown = still; size = size; later = λ c h. all c (omega arith) }

module _ {room : ℕ} {s : Store} {start count : ℕ} {xs : List ℕ} {left : ℕ} {t : Store} {j : ℕ} {ys : List ℕ} (turn : RowsTurn room s start count xs left t j ys) where
  step : start < j → rows room s start count xs ≡ with_row (next_row left t (j - 1) 0 (j - 1 - start + 1) ys) (λ u zs. rows room u start (j - 1 - start) zs)
  step lt = turn.told ∙ rows_step room t start j ys lt ∙ ap (λ n. with_row (next_row n t (j - 1) 0 (j - 1 - start + 1) ys) (λ u zs. rows room u start (j - 1 - start) zs)) (sym turn.same)

  pub rows_later : start < j → FromAll t (j - 1 + 1) (j - 1 - start + 1) ys
  rows_later lt c h = let is : j ≡ j - 1 + 1 = omega arith in subst (λ v. From t v (get_or ys c 0)) is (turn.later c (omega arith))

  pub rows_full : start < j → next_row left t (j - 1) 0 (j - 1 - start + 1) ys ≡ no_row → rows room s start count xs ≡ full
  rows_full lt e = step lt ∙ ap (λ o. with_row o (λ u zs. rows room u start (j - 1 - start) zs)) e

  pub rows_next : (left₁ : ℕ) (u : Store) (zs : List ℕ) → start < j → j ≤ 48 → Sound t → next_row left t (j - 1) 0 (j - 1 - start + 1) ys ≡ row u zs → left₁ ≡ left → RowsTurn room s start count xs left₁ u (j - 1) zs
  rows_next left₁ u zs lt small so e same =
      let f : ℕ → Query → ℕ = λ i q. eval t (get_or ys i 0) q in
      let n = j - 1 - start + 1 in
      let size = turn.size in
      let w = row_holds_at (Rowed t (j - 1) f n (length ys)) (next_row left t (j - 1) 0 n ys) u zs
      (next_row_holds (j - 1) (omega arith) f n left t ys so (omega arith) (λ i h. record { from = rows_later lt i h; means = λ q. refl })) e in
      record {
        order = omega arith;
        told = step lt ∙ ap (λ o. with_row o (λ u zs. rows room u start (j - 1 - start) zs)) e;
        same = same ∙ turn.same;
        grown = grown_trans turn.grown w.grown;
        size = w.size ∙ turn.size;
        later = λ c h. (w.entries c (omega arith)).from;
      }

  pub rows_end : j ≤ start → rows room s start count xs ≡ done t (get_or ys 0 0)
  rows_end le = turn.told ∙ rows_none room t start j ys le

-- the steps of the code that makes a limit
module _ (room : ℕ) (s : Store) (start count : ℕ) (limit : Limit) (small : start + count ≤ 48) where
  pub leaves_later : (xs : List ℕ) → xs ≡ leaves (is_met limit) 0 49 → FromAll s (start + count) count xs
  leaves_later xs is c h = subst (λ ys. From s (start + count) (get_or ys c 0)) (sym is) (leaf_entry (is_met limit) s (start + count) c 49 small (omega arith)).from

  pub from_leaves : (xs : List ℕ) → xs ≡ leaves (is_met limit) 0 49 → limited room s start count limit ≡ rows room s start count xs
  unfolding limited
  from_leaves xs is = ap (rows room s start count) (sym is)

  pub limit_means : (t : Store) (r : Result ℕ TableFull) → Sound s → Told (limited room s start count limit) t r → IsLimit t start count limit r
  limit_means t r so told a es ec =
      let at_start = subst (λ n. Told (limited room s n count limit) t r) (sym es) told in
      told_gives t s a.start (λ q. cond (meets (limits limit a) q) 1 0) (limited room s a.start a.count limit) r (limited_holds limit a room s so (omega arith)) (subst (λ n. Told (limited room s a.start n limit) t r) (sym ec) at_start)
