-- The chains through the buckets.
use Rattle.std.proofs.Common.{◌≡◌, ℕ, zero, suc, ◌+◌, ◌*◌, ◌/◌, ◌<◌, ◌≤◌, true, false, cond, eqb, ◌≢◌, List, length, get_or, set, Some, None, sym, refl, ap, ◌∙◌, ⊎_elim, add-one, arith, length-set, get_or-set_other, get_or-set_same}
use Rattle.std.proofs.lemmas.Bool.{eq-eqb, ne_eqb, cases_eq, cases_lt, cond-true, cond-false}
use Rattle.diagram.specs.declared.node.Node.{Node}
use Rattle.diagram.specs.Store.{same, found}
use Rattle.diagram.specs.Words.{bucket, capacity, node_at, putting, stored, last, bucket_at, Chained}
use Rattle.diagram.proofs.Stands.{same_not}
use Rattle.diagram.proofs.Words.{node_same, putting_long, putting_other, putting_node, stored_ext, found_here, found_none}

-- ---- the last below

pub last_le : (f : ℕ → ℕ) (m b : ℕ) → last f m b ≤ m
unfolding last
last_le f zero b = omega arith
last_le f (suc m) b =
    elim (eqb (f m) b) as (λ t. cond t (suc m) (last f m b) ≤ suc m) [ true ↦ omega arith | false ↦ omega (arith, last_le f m b) ]

pub last_here : (f : ℕ → ℕ) (m b : ℕ) → f m ≡ b → last f (suc m) b ≡ suc m
unfolding last
last_here f m b e = cond-true _ _ _ (eq-eqb _ _ e)

pub last_skip : (f : ℕ → ℕ) (m b : ℕ) → (f m ≡ b → ⊥) → last f (suc m) b ≡ last f m b
unfolding last
last_skip f m b e = cond-false _ _ _ (ne_eqb _ _ e)

pub last_ext : (f g : ℕ → ℕ) (m b : ℕ) → ((k : ℕ) → k < m → f k ≡ g k) → last f m b ≡ last g m b
unfolding last
last_ext f g zero b e = refl
last_ext f g (suc m) b e =
    let rest = last_ext f g m b (λ k h. e k (omega arith)) in
    let here = e m (omega arith) in
    cc

-- no node from the last on up has bucket b
pub last_none : (f : ℕ → ℕ) (m b k : ℕ) → last f m b ≤ k → k < m → f k ≡ b → ⊥
last_none f zero b k le lt e = omega arith
last_none f (suc m) b k le lt e =
    ⊎_elim
    (λ (h : f m ≡ b). omega (arith, last_here f m b h))
    (λ (h : f m ≡ b → ⊥). ⊎_elim
    (λ (s : k ≡ m). h (ap f (sym s) ∙ e))
    (λ (s : k ≡ m → ⊥). last_none f m b k (omega (arith, last_skip f m b h)) (omega arith) e)
    (cases_eq k m))
    (cases_eq (f m) b)

-- the last has bucket b
pub last_is : (f : ℕ → ℕ) (m b k : ℕ) → last f m b ≡ k + 1 → f k ≡ b
last_is f zero b k e = absurd (omega (arith, last_le f zero b))
last_is f (suc m) b k e =
    ⊎_elim
    (λ (h : f m ≡ b). let s : k ≡ m = omega (arith, last_here f m b h) in ap f s ∙ h)
    (λ (h : f m ≡ b → ⊥). last_is f m b k (sym (last_skip f m b h) ∙ e))
    (cases_eq (f m) b)

-- ---- the walk: `at` is one more than the node to look at next, or 0

pub record Walk (ws : List ℕ) (fill b : ℕ) (x : Node) (at : ℕ) : Type 0 where
  pub low : at ≤ fill
  pub chain : (k : ℕ) → at ≡ k + 1 → bucket_at ws k ≡ b
  pub above : (j : ℕ) → at ≤ j → j < fill → same (node_at ws j) x ≡ false

module _ (ws : List ℕ) (fill b : ℕ) (x : Node) (here : b ≡ bucket (capacity ws) x) where
  walk_last : (m at : ℕ) → m ≤ fill → at ≡ last (bucket_at ws) m b → ((j : ℕ) → m ≤ j → j < fill → same (node_at ws j) x ≡ false) → Walk ws fill b x at
  unfolding bucket_at
  walk_last m at le is above = record {
    low = omega (arith, last_le (bucket_at ws) m b);
    chain = λ k e. last_is (bucket_at ws) m b k (sym is ∙ e);
    above = λ j l h. ⊎_elim
        (λ (s : j < m). same_not (node_at ws j) x (λ e. last_none (bucket_at ws) m b j (omega arith) s (ap (bucket (capacity ws)) e ∙ sym here)))
        (λ (s : m ≤ j). above j s h)
        (cases_lt j m);
  }

  pub walk_start : (chained : Chained ws fill) → b < capacity ws → Walk ws fill b x (get_or ws (7 * b + 3) 0)
  walk_start chained lt = walk_last fill _ (omega arith) (chained.heads b lt) (λ j l h. absurd (omega arith))

  module _ (chained : Chained ws fill) (at k : ℕ) (is : at ≡ k + 1) (old : Walk ws fill b x at) where
    walk_next : get_or ws (7 * k + 4) 0 ≡ last (bucket_at ws) k b
    walk_next = chained.links k (omega (arith, old.low)) ∙ ap (last (bucket_at ws) k) (old.chain k is)

    pub walk_less : get_or ws (7 * k + 4) 0 < at
    walk_less = omega (arith, walk_next, last_le (bucket_at ws) k b)

    pub walk_again : same (node_at ws k) x ≡ false → Walk ws fill b x (get_or ws (7 * k + 4) 0)
    walk_again not = walk_last k _ (omega (arith, old.low)) walk_next (λ j l h. ⊎_elim
        (λ (s : j ≡ k). ap (λ i. same (node_at ws i) x) s ∙ not)
        (λ (s : j ≡ k → ⊥). old.above j (omega arith) h)
        (cases_eq j k))

    pub walk_found : same (node_at ws k) x ≡ true → Some (8 + k) ≡ found (stored ws fill) x
    walk_found equal = sym (found_here ws fill x k (omega (arith, old.low)) equal (λ j l h. old.above j (omega arith) h))

  pub walk_end : Walk ws fill b x 0 → None ≡ found (stored ws fill) x
  walk_end old = sym (found_none ws fill x (λ j h. old.above j (omega arith) h))

-- ---- words that differ elsewhere

-- the chains depend on the nodes in use, the heads and the links
pub chained_by : (ws vs : List ℕ) (f : ℕ) → length vs ≡ length ws → ((k : ℕ) → k < f → node_at vs k ≡ node_at ws k) → ((b : ℕ) → get_or vs (7 * b + 3) 0 ≡ get_or ws (7 * b + 3) 0) →
    ((k : ℕ) → k < f → get_or vs (7 * k + 4) 0 ≡ get_or ws (7 * k + 4) 0) → Chained ws f → Chained vs f
unfolding bucket_at
chained_by ws vs f long nodes heads links ch =
    let buckets : (k : ℕ) → k < f → bucket_at ws k ≡ bucket_at vs k = λ k h i. bucket (sym long i / 7) (sym (nodes k h) i) in
    let lasts : (m b : ℕ) → m ≤ f → last (bucket_at ws) m b ≡ last (bucket_at vs) m b = λ m b le. last_ext (bucket_at ws) (bucket_at vs) m b (λ j h. buckets j (omega arith)) in
    record {
      few = omega (arith, ch.few);
      within = omega (arith, ch.within);
      heads = λ b h. heads b ∙ ch.heads b (omega arith) ∙ lasts f b (omega arith);
      links = λ k h. links k h ∙ ch.links k h ∙ lasts k (bucket_at ws k) (omega arith) ∙ ap (last (bucket_at vs) k) (buckets k h);
    }

-- ---- a node more

-- the words of the node that is to come do not matter to the chains
pub put_chained : (ws : List ℕ) (f : ℕ) (n : Node) → Chained ws f → Chained (putting ws f n) f
put_chained ws f n = chained_by ws (putting ws f n) f (putting_long ws f n) (λ k h. putting_node ws f n k (omega arith))
    (λ b. putting_other ws f n (7 * b + 3) (omega arith) (omega arith) (omega arith)) (λ k h. putting_other ws f n (7 * k + 4) (omega arith) (omega arith) (omega arith))

-- the newest node, k, goes to the head of its bucket's chain
module _ (ws : List ℕ) (k b : ℕ) (chained : Chained ws k) (room : k < capacity ws) (bin : b < capacity ws) (is : b ≡ bucket_at ws k) where
  abbrev linked : List ℕ
  linked = set ws (7 * k + 4) (get_or ws (7 * b + 3) 0)

  abbrev entered : List ℕ
  entered = set linked (7 * b + 3) (k + 1)

  entered_other : (i : ℕ) → i ≢ 7 * b + 3 → i ≢ 7 * k + 4 → get_or entered i 0 ≡ get_or ws i 0
  entered_other i n₃ n₄ = get_or-set_other linked (7 * b + 3) i (k + 1) 0 n₃ ∙ get_or-set_other ws (7 * k + 4) i (get_or ws (7 * b + 3) 0) 0 n₄

  entered_long : length entered ≡ length ws
  entered_long = simp length-set

  pub entered_node : (j : ℕ) → node_at entered j ≡ node_at ws j
  entered_node j = node_same ws entered j (λ i lo hi. entered_other i (omega arith) (omega arith))

  entered_bucket : (j : ℕ) → bucket_at ws j ≡ bucket_at entered j
  unfolding bucket_at
  entered_bucket j = λ i. bucket (sym entered_long i / 7) (sym (entered_node j) i)

  entered_last : (m x : ℕ) → last (bucket_at ws) m x ≡ last (bucket_at entered) m x
  entered_last m x = last_ext (bucket_at ws) (bucket_at entered) m x (λ j h. entered_bucket j)

  pub entered_chained : Chained entered (k + 1)
  entered_chained = record {
    few = omega (arith, entered_long, chained.few);
    within = omega (arith, entered_long);
    heads = λ x lt. ⊎_elim
        (λ (s : x ≡ b).
        ap (λ j. get_or entered (7 * j + 3) 0) s ∙ get_or-set_same linked (7 * b + 3) (k + 1) 0 (simp length-set (omega arith)) ∙ add-one k
        ∙ sym (last_here (bucket_at entered) k x (sym (entered_bucket k) ∙ sym is ∙ sym s)) ∙ ap (λ m. last (bucket_at entered) m x) (sym (add-one k)))
        (λ (s : x ≡ b → ⊥).
        entered_other (7 * x + 3) (omega arith) (omega arith) ∙ chained.heads x (omega (arith, entered_long)) ∙ entered_last k x
        ∙ sym (last_skip (bucket_at entered) k x (λ e. s (sym e ∙ sym (entered_bucket k) ∙ sym is))) ∙ ap (λ m. last (bucket_at entered) m x) (sym (add-one k)))
        (cases_eq x b);
    links = λ j lt. ⊎_elim
        (λ (s : j ≡ k).
        ap (λ x. get_or entered (7 * x + 4) 0) s ∙ get_or-set_other linked (7 * b + 3) (7 * k + 4) (k + 1) 0 (omega arith) ∙ get_or-set_same ws (7 * k + 4) (get_or ws (7 * b + 3) 0) 0 (omega arith)
        ∙ chained.heads b bin ∙ entered_last k b ∙ ap (last (bucket_at entered) k) (is ∙ entered_bucket k) ∙ ap (λ x. last (bucket_at entered) x (bucket_at entered x)) (sym s))
        (λ (s : j ≡ k → ⊥).
        let h : j < k = omega arith in
        entered_other (7 * j + 4) (omega arith) (omega arith) ∙ chained.links j h ∙ entered_last j (bucket_at ws j) ∙ ap (last (bucket_at entered) j) (entered_bucket j))
        (cases_eq j k);
  }

-- ---- a node fewer

module _ (ws : List ℕ) (m : ℕ) (chained : Chained ws (m + 1)) where
  abbrev pub shrunk : List ℕ
  shrunk = set ws (7 * bucket_at ws m + 3) (get_or ws (7 * m + 4) 0)

  shrunk_old : (i : ℕ) → i ≢ 7 * bucket_at ws m + 3 → get_or shrunk i 0 ≡ get_or ws i 0
  shrunk_old i n = get_or-set_other ws (7 * bucket_at ws m + 3) i (get_or ws (7 * m + 4) 0) 0 n

  shrunk_long : length shrunk ≡ length ws
  shrunk_long = simp length-set

  pub shrunk_node : (k : ℕ) → node_at shrunk k ≡ node_at ws k
  shrunk_node k = node_same ws shrunk k (λ i lo hi. shrunk_old i (omega arith))

  shrunk_bucket : (k : ℕ) → bucket_at shrunk k ≡ bucket_at ws k
  unfolding bucket_at
  shrunk_bucket k = λ i. bucket (shrunk_long i / 7) (shrunk_node k i)

  shrunk_last : (n k : ℕ) → last (bucket_at ws) n k ≡ last (bucket_at shrunk) n k
  shrunk_last n k = last_ext (bucket_at ws) (bucket_at shrunk) n k (λ j h. sym (shrunk_bucket j))

  pub shrunk_stored : (n : ℕ) → stored shrunk n ≡ stored ws n
  shrunk_stored n = stored_ext shrunk ws n (λ k h. shrunk_node k)

  pub shrunk_chained : Chained shrunk m
  shrunk_chained = record {
    few = omega (arith, shrunk_long, chained.few);
    within = omega (arith, shrunk_long, chained.within);
    heads = λ k lt. ⊎_elim
        (λ (s : k ≡ bucket_at ws m).
        let lt' : 7 * bucket_at ws m + 3 < length ws = omega (arith, shrunk_long) in
        ap (λ j. get_or shrunk (7 * j + 3) 0) s ∙ get_or-set_same ws (7 * bucket_at ws m + 3) (get_or ws (7 * m + 4) 0) 0 lt'
        ∙ chained.links m (omega arith) ∙ ap (last (bucket_at ws) m) (sym s) ∙ shrunk_last m k)
        (λ (s : k ≡ bucket_at ws m → ⊥).
        shrunk_old (7 * k + 3) (omega arith) ∙ chained.heads k (omega (arith, shrunk_long)) ∙ ap (λ n. last (bucket_at ws) n k) (add-one m)
        ∙ last_skip (bucket_at ws) m k (λ e. s (sym e)) ∙ shrunk_last m k)
        (cases_eq k (bucket_at ws m));
    links = λ k lt.
        shrunk_old (7 * k + 4) (omega arith) ∙ chained.links k (omega arith) ∙ shrunk_last k (bucket_at ws k) ∙ ap (last (bucket_at shrunk) k) (sym (shrunk_bucket k));
  }

-- ---- none

pub cleared_chained : (ws : List ℕ) → capacity ws ≤ 65536 → ((k : ℕ) → k < capacity ws → get_or ws (7 * k + 3) 0 ≡ 0) → Chained ws 0
unfolding last
cleared_chained ws few zeros = record { few = few; within = omega arith; heads = zeros; links = λ k h. absurd (omega arith) }
