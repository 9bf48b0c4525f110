-- A limit on an attribute: the rows, and what their entries mean.
use Rattle.std.proofs.Common.{◌≡◌, ℕ, zero, suc, ◌+◌, ◌<◌, ◌≤◌, Bool, true, false, cond, ◌≢◌, List, length, get_or, set, sym, refl, ap, ◌∙◌, subst, ap₂, ⊎_elim, add-zero, zero-add, arith, length-set, get_or-set_other, get_or-set_same}
use Rattle.std.proofs.lemmas.Bool.{cond_both, cases_eq}
use Rattle.diagram.specs.Store.{Store, Query, node_of, eval, Outcome, full, done, made, Sound, Grown, still}
use Rattle.diagram.proofs.Builds.{Holds, holds_by}
use Rattle.diagram.proofs.Makes.{Made}
use Rattle.diagram.proofs.Stands.{grown_trans, eval_grown, eval_leaf}
use Rattle.policy.specs.Policies.{Attribute, present_from, meets}
use Rattle.bench.specs.declared.build.Limit.{Limit}
use Rattle.bench.specs.declared.build.Limit.TheVariants.{AtMost, AtLeast}
use Rattle.bench.specs.Building.{From, is_met, leaves, Row, no_row, row, bind_row, with_row, next_row, rows, limited, limits}
use Rattle.bench.proofs.Present.{present_none}
use Rattle.bench.proofs.Yielding.{Yields, yields_as, from_grown, leaf_from, node_over}

-- P of the store and the row, where there is one
abbrev pub HoldsRow : (Store → List ℕ → Type 0) → Row → Type 0
HoldsRow P no_row = Unit {0}
HoldsRow P (row s xs) = P s xs

bind_row_holds : (P : Store → ℕ → Type 0) (Q : Store → List ℕ → Type 0) (o : Outcome) (k : Store → ℕ → Row) → Holds P o → ((s : Store) (r : ℕ) → P s r → HoldsRow Q (k s r)) → HoldsRow Q (bind_row o k)
bind_row_holds P Q full k h more = tt
bind_row_holds P Q (done s r) k h more = more s r h

row_holds_by : (P Q : Store → List ℕ → Type 0) (o : Row) → HoldsRow P o → ((s : Store) (xs : List ℕ) → P s xs → Q s xs) → HoldsRow Q o
row_holds_by P Q no_row h more = tt
row_holds_by P Q (row s xs) h more = more s xs h

with_row_holds : (P : Store → List ℕ → Type 0) (Q : Store → ℕ → Type 0) (o : Row) (k : Store → List ℕ → Outcome) → HoldsRow P o → ((s : Store) (xs : List ℕ) → P s xs → Holds Q (k s xs)) → Holds Q (with_row o k)
with_row_holds P Q no_row k h more = tt
with_row_holds P Q (row s xs) k h more = more s xs h

pub row_holds_at : (P : Store → List ℕ → Type 0) (o : Row) (s : Store) (xs : List ℕ) → HoldsRow P o → o ≡ row s xs → P s xs
row_holds_at P o s xs h e = subst (HoldsRow P) e h

-- x tests no pair before v, and is f at every query
pub record Entry (s : Store) (v : ℕ) (f : Query → ℕ) (x : ℕ) : Type 0 where
  pub from : From s v x
  pub means : (q : Query) → eval s x q ≡ f q

entry_as : {s t : Store} {v x : ℕ} {f g : Query → ℕ} → Grown s t → ((q : Query) → f q ≡ g q) → Entry s v f x → Entry t v g x
entry_as grow e x = record { from = from_grown grow x.from; means = λ q. eval_grown grow _ q x.from.below ∙ x.means q ∙ e q }

-- over a row whose entry at each place is f there, the row of the pair j came to t and ys, with n new entries
pub record Rowed (s : Store) (j : ℕ) (f : ℕ → Query → ℕ) (n long : ℕ) (t : Store) (ys : List ℕ) : Type 0 where
  pub grown : Grown s t
  pub sound : Sound t
  pub size : length ys ≡ long
  pub entries : (i : ℕ) → i < n → Entry t j (λ q. cond (q j) (f (i + 1) q) (f i q)) (get_or ys i 0)

module _ (j : ℕ) (small : j < 48) (f : ℕ → Query → ℕ) where
  -- k entries from c on: those below c are new, those from c on are of the row before
  entries_hold : (k c room : ℕ) (s : Store) (xs : List ℕ) → Sound s → c + k < length xs →
      ((i : ℕ) → i < c → Entry s j (λ q. cond (q j) (f (i + 1) q) (f i q)) (get_or xs i 0)) → ((i : ℕ) → c ≤ i → i ≤ c + k → Entry s (j + 1) (f i) (get_or xs i 0)) →
      HoldsRow (Rowed s j f (c + k) (length xs)) (next_row room s j c k xs)
  unfolding next_row
  entries_hold zero c room s xs so long new old = record { grown = still; sound = so; size = refl; entries = λ i h. new i (omega arith) }
  entries_hold (suc k) c room s xs so long new old =
      let n = node_of j (get_or xs c 0) (get_or xs (c + 1) 0) in
      let low = old c (omega arith) (omega arith) in
      let high = old (c + 1) (omega arith) (omega arith) in
      bind_row_holds (Made s n) (Rowed s j f (c + suc k) (length xs)) (made room s n) _
      (node_over room s j (j + 1) (get_or xs c 0) (get_or xs (c + 1) 0) so (omega arith) (omega arith) low.from high.from)
      (λ t x m.
      let lt : c < length xs = omega arith in
      let here : Entry t j (λ q. cond (q j) (f (c + 1) q) (f c q)) x = record { from = record { below = m.below; later = m.later }; means = λ q. m.means q ∙ ap₂ (cond (q j)) (high.means q) (low.means q) } in
      row_holds_by (Rowed t j f (c + 1 + k) (length (set xs c x))) (Rowed s j f (c + suc k) (length xs)) (next_row room t j (c + 1) k (set xs c x))
      (entries_hold k (c + 1) room t (set xs c x) m.sound (rw length-set (omega arith))
      (λ i h. ⊎_elim
      (λ (e : i ≡ c). subst (λ n. Entry t j (λ q. cond (q j) (f (n + 1) q) (f n q)) (get_or (set xs c x) n 0)) (sym e) (rw get_or-set_same here))
      (λ (ne : i ≡ c → ⊥). rw get_or-set_other (entry_as m.grown (λ q. refl) (new i (omega arith))))
      (cases_eq i c))
      (λ i from to. let ne : i ≢ c = λ e. omega arith in rw get_or-set_other (entry_as m.grown (λ q. refl) (old i (omega arith) (omega arith)))))
      (λ u ys w. record { grown = grown_trans m.grown w.grown; sound = w.sound; size = w.size ∙ length-set _ _ _; entries = λ i h. w.entries i (omega arith) }))

  pub next_row_holds : (n room : ℕ) (s : Store) (xs : List ℕ) → Sound s → n < length xs → ((i : ℕ) → i ≤ n → Entry s (j + 1) (f i) (get_or xs i 0)) → HoldsRow (Rowed s j f n (length xs)) (next_row room s j 0 n xs)
  next_row_holds n room s xs so long all =
      subst (λ k. HoldsRow (Rowed s j f k (length xs)) (next_row room s j 0 n xs)) (zero-add n) (entries_hold n 0 room s xs so (omega arith) (λ i h. absurd (omega arith)) (λ i from to. all i (omega arith)))

-- at place c, whether the limit is met where c pairs are present and those from e on, of which there are m
abbrev seen : (ℕ → Bool) → ℕ → ℕ → ℕ → Query → ℕ
seen met e m c q = cond (met (c + present_from q e m)) 1 0

-- with one more pair
seen_more : (met : ℕ → Bool) (j m c : ℕ) (q : Query) → cond (q j) (seen met (j + 1) m (c + 1) q) (seen met (j + 1) m c q) ≡ seen met j (suc m) c q
unfolding present_from
seen_more met j m c q = by (q j) (present_from q (j + 1) m)
  where
    by : (b : Bool) (n : ℕ) → ◌≡◌ {A = ℕ} (cond b (cond (met (c + 1 + n)) 1 0) (cond (met (c + n)) 1 0)) (cond (met (c + (cond b 1 0 + n))) 1 0)
    by true n = ap (λ x. cond (met x) 1 0) (let e : c + 1 + n ≡ c + (1 + n) = omega arith in e)
    by false n = ap (λ x. cond (met x) 1 0) (let e : c + n ≡ c + (0 + n) = omega arith in e)

-- the rows of k pairs from start on; m pairs from e on are counted
rows_hold : (met : ℕ → Bool) (k start e m room : ℕ) (s : Store) (xs : List ℕ) → Sound s → e ≡ start + k → e ≤ 48 → k < length xs → ((i : ℕ) → i ≤ k → Entry s e (seen met e m i) (get_or xs i 0)) →
    Holds (Yields s start (λ q. cond (met (present_from q start (k + m))) 1 0)) (rows room s start k xs)
unfolding rows
rows_hold met zero start e m room s xs so is small long all =
    let first = all 0 (omega arith) in
    let here : e ≡ start = omega arith in
    record {
      grown = still;
      sound = so;
      below = first.from.below;
      later = omega (arith, first.from.later);
      means = λ q. first.means q ∙ ap (λ n. cond (met n) 1 0) (zero-add (present_from q e m) ∙ ap₂ (present_from q) here (sym (zero-add m)));
    }
rows_hold met (suc k) start e m room s xs so is small long all =
    let j = start + k in
    let next : e ≡ j + 1 = omega arith in
    let f = seen met (j + 1) m in
    with_row_holds (Rowed s j f (suc k) (length xs)) (Yields s start _) (next_row room s j 0 (suc k) xs) _
    (next_row_holds j (omega arith) f (suc k) room s xs so long (λ i h. subst (λ v. Entry s v (seen met v m i) (get_or xs i 0)) next (all i h)))
    (λ t ys w.
    let size = w.size in
    holds_by (Yields t start _) (Yields s start _) (rows room t start k ys)
    (rows_hold met k start j (suc m) room t ys w.sound refl (omega arith) (omega arith) (λ i h. entry_as still (seen_more met j m i) (w.entries i (omega arith))))
    (λ u x. yields_as w.grown (omega arith) (λ q. ap (λ n. cond (met (present_from q start n)) 1 0) (let e : k + suc m ≡ suc k + m = omega arith in e))))

-- the row of leaves
pub leaves_length : (met : ℕ → Bool) (c k : ℕ) → length (leaves met c k) ≡ k
unfolding leaves
leaves_length met c zero = refl
leaves_length met c (suc k) = ap suc (leaves_length met (c + 1) k)

pub leaves_at : (met : ℕ → Bool) (c k i : ℕ) → i < k → get_or (leaves met c k) i 0 ≡ cond (met (c + i)) 1 0
unfolding leaves
leaves_at met c zero i h = absurd (omega arith)
leaves_at met c (suc k) zero h = ap (λ n. cond (met n) 1 0) (sym (add-zero c))
leaves_at met c (suc k) (suc i) h = leaves_at met (c + 1) k i (omega arith) ∙ ap (λ n. cond (met n) 1 0) (let e : c + 1 + i ≡ c + suc i = omega arith in e)

leaf_below : (b : Bool) → cond b 1 0 < 8
leaf_below b = cond_both b 1 0 (λ x. x < 8) (λ _. omega arith) (λ _. omega arith)

pub leaf_entry : (met : ℕ → Bool) (s : Store) (e i k : ℕ) → e ≤ 48 → i < k → Entry s e (seen met e 0 i) (get_or (leaves met 0 k) i 0)
leaf_entry met s e i k small h =
    let leaf = leaf_below (met i) in
    let is : get_or (leaves met 0 k) i 0 ≡ cond (met i) 1 0 = leaves_at met 0 k i h ∙ ap (λ n. cond (met n) 1 0) (zero-add i) in
    subst (Entry s e (seen met e 0 i)) (sym is) (record {
      from = leaf_from s e (cond (met i) 1 0) small leaf;
      means = λ q. eval_leaf s (cond (met i) 1 0) q leaf ∙ ap (λ n. cond (met n) 1 0) (sym (ap (λ n. i + n) (present_none q e) ∙ add-zero i));
    })

kept : (limit : Limit) (a : Attribute) (q : Query) → is_met limit (present_from q a.start a.count) ≡ meets (limits limit a) q
unfolding meets
kept (AtMost k) a q = refl
kept (AtLeast k) a q = refl

pub limited_holds : (limit : Limit) (a : Attribute) (room : ℕ) (s : Store) → Sound s → a.start + a.count ≤ 48 → Holds (Yields s a.start (λ q. cond (meets (limits limit a) q) 1 0)) (limited room s a.start a.count limit)
unfolding limited
limited_holds limit a room s so small =
    let met = is_met limit in
    let e = a.start + a.count in
    holds_by (Yields s a.start (λ q. cond (met (present_from q a.start (a.count + 0))) 1 0)) (Yields s a.start _) (rows room s a.start a.count (leaves met 0 49))
    (rows_hold met a.count a.start e 0 room s (leaves met 0 49) so refl small (omega (arith, leaves_length met 0 49)) (λ i h. leaf_entry met s e i 49 small (omega arith)))
    (λ t x. yields_as still (omega arith) (λ q. ap (λ n. cond (met (present_from q a.start n)) 1 0) (add-zero a.count) ∙ ap (λ b. cond b 1 0) (kept limit a q)))
