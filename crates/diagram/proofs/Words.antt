-- The nodes that words store.
use Rattle.std.proofs.Common.{◌≡◌, ℕ, zero, suc, ◌+◌, ◌-◌, ◌*◌, ◌<◌, ◌≤◌, true, false, List, [], ◌∷◌, length, replicate, get_or, set, ◌≢◌, drop, Some, None, sym, refl, ap, ◌∙◌, subst, ⊎_elim, suc-add, zero-add, add-one, arith, length-set, get_or-set_other, get_or-set_same}
use Rattle.std.proofs.lemmas.Bool.{cond-true, cond-false, cases_lt, cases_eq}
use Rattle.std.proofs.lemmas.List.{get_or-replicate, length-replicate}
use Rattle.diagram.specs.declared.node.Node.{Node}
use Rattle.diagram.specs.Store.{Store, node_of, same, found, Grown, still, newer}
use Rattle.diagram.specs.Words.{node_at, putting, stored}
use Rattle.diagram.proofs.Stands.{Standing, newest, standing_grown}

pub length-stored : (ws : List ℕ) (k : ℕ) → length (stored ws k) ≡ k
unfolding stored
length-stored ws zero = refl
length-stored ws (suc k) = ap suc (length-stored ws k)

pub zeros : (ws : List ℕ) (n : ℕ) → ws ≡ replicate n 0 → (i : ℕ) → i < length ws → get_or ws i 0 ≡ 0
zeros ws n e i h = ap (λ us. get_or us i 0) e ∙ get_or-replicate n i 0 0 (omega (arith, ap length e, length-replicate {A = ℕ} n 0))

-- a node is alike where its three words are
pub node_same : (ws vs : List ℕ) (k : ℕ) → ((i : ℕ) → 7 * k ≤ i → i ≤ 7 * k + 2 → get_or vs i 0 ≡ get_or ws i 0) → node_at vs k ≡ node_at ws k
node_same ws vs k same =
    let word0 = same (7 * k) (omega arith) (omega arith) in
    let word1 = same (7 * k + 1) (omega arith) (omega arith) in
    let word2 = same (7 * k + 2) (omega arith) (omega arith) in
    λ i. node_of (word0 i) (word1 i) (word2 i)

-- what writing a node changes
module _ (ws : List ℕ) (k : ℕ) (n : Node) where
  abbrev w₁ : List ℕ
  w₁ = set ws (7 * k) n.pair

  abbrev w₂ : List ℕ
  w₂ = set w₁ (7 * k + 1) n.low

  pub putting_long : length (putting ws k n) ≡ length ws
  putting_long = simp length-set

  pub putting_other : (i : ℕ) → i ≢ 7 * k → i ≢ 7 * k + 1 → i ≢ 7 * k + 2 → get_or (putting ws k n) i 0 ≡ get_or ws i 0
  putting_other i n₀ n₁ n₂ = get_or-set_other w₂ (7 * k + 2) i n.high 0 n₂ ∙ get_or-set_other w₁ (7 * k + 1) i n.low 0 n₁ ∙ get_or-set_other ws (7 * k) i n.pair 0 n₀

  pub putting_here : 7 * k + 2 < length ws → node_at (putting ws k n) k ≡ n
  putting_here room =
      let word0 = get_or-set_other w₂ (7 * k + 2) (7 * k) n.high 0 (omega arith) ∙ get_or-set_other w₁ (7 * k + 1) (7 * k) n.low 0 (omega arith) ∙ get_or-set_same ws (7 * k) n.pair 0 (omega arith) in
      let word1 = get_or-set_other w₂ (7 * k + 2) (7 * k + 1) n.high 0 (omega arith) ∙ get_or-set_same w₁ (7 * k + 1) n.low 0 (simp length-set (omega arith)) in
      let word2 = get_or-set_same w₂ (7 * k + 2) n.high 0 (simp length-set (omega arith)) in
      λ i. node_of (word0 i) (word1 i) (word2 i)

  pub putting_node : (j : ℕ) → j ≢ k → node_at (putting ws k n) j ≡ node_at ws j
  putting_node j ne = node_same ws (putting ws k n) j (λ i lo hi. putting_other i (omega arith) (omega arith) (omega arith))

pub stored_ext : (ws vs : List ℕ) (m : ℕ) → ((k : ℕ) → k < m → node_at ws k ≡ node_at vs k) → stored ws m ≡ stored vs m
unfolding stored
stored_ext ws vs zero e = refl
stored_ext ws vs (suc m) e =
    let rest = stored_ext ws vs m (λ k h. e k (omega arith)) in
    let here = e m (omega arith) in
    cc

-- a node was written on top, and no node has changed since
pub stored_put : (ws vs : List ℕ) (f : ℕ) (n : Node) → 7 * f + 2 < length ws → ((k : ℕ) → node_at vs k ≡ node_at (putting ws f n) k) → stored vs (f + 1) ≡ n ∷ stored ws f
unfolding stored
stored_put ws vs f n room same =
    ap (stored vs) (add-one f) ∙ (λ i. (same f ∙ putting_here ws f n room) i ∷ stored_ext vs ws f (λ k h. same k ∙ putting_node ws f n k (omega arith)) i)

pub found_here : (ws : List ℕ) (m : ℕ) (x : Node) (k : ℕ) → k < m → same (node_at ws k) x ≡ true
    → ((j : ℕ) → k < j → j < m → same (node_at ws j) x ≡ false) → found (stored ws m) x ≡ Some (8 + k)
unfolding stored found
found_here ws zero x k lt is none = absurd (omega arith)
found_here ws (suc m) x k lt is none =
    ⊎_elim
    (λ (s : k ≡ m). cond-true _ _ _ (ap (λ j. same (node_at ws j) x) (sym s) ∙ is) ∙ ap (λ j. Some (8 + j)) (length-stored ws m ∙ sym s))
    (λ (s : k ≡ m → ⊥). cond-false _ _ _ (none m (omega arith) (omega arith)) ∙ found_here ws m x k (omega arith) is (λ j a b. none j a (omega arith)))
    (cases_eq k m)

pub found_none : (ws : List ℕ) (m : ℕ) (x : Node)
    → ((j : ℕ) → j < m → same (node_at ws j) x ≡ false) → found (stored ws m) x ≡ None
unfolding stored found
found_none ws zero x none = refl
found_none ws (suc m) x none = cond-false _ _ _ (none m (omega arith)) ∙ found_none ws m x (λ j b. none j (omega arith))

pub stored_grown : (ws : List ℕ) (k n : ℕ) → k ≤ n → Grown (stored ws k) (stored ws n)
unfolding stored
stored_grown ws k zero h = let e : k ≡ 0 = omega arith in subst (λ x. Grown (stored ws x) []) (sym e) still
stored_grown ws k (suc n) h =
    ⊎_elim
    (λ lt. newer (node_at ws n) (stored_grown ws k n (omega arith)))
    (λ ge. let e : k ≡ suc n = omega arith in subst (λ x. Grown (stored ws x) (stored ws (suc n))) (sym e) still)
    (cases_lt k (suc n))

-- a reference to a node, as the words have it
pub read : (ws : List ℕ) (n r : ℕ) → 8 ≤ r → r < 8 + n → Standing (stored ws n) (node_at ws (r - 8)) r
unfolding stored
read ws n r lo hi =
    standing_grown (stored_grown ws (suc (r - 8)) n (omega arith)) _ r
    (newest (node_at ws (r - 8)) (stored ws (r - 8)) r (omega (arith, length-stored ws (r - 8))))

tail : Store → Store
tail [] = []
tail (n ∷ s) = s

kept_by : (ws : List ℕ) (s t : Store) → Grown s t → (n : ℕ) → t ≡ stored ws n → stored ws (length s) ≡ s
unfolding tail stored
kept_by ws s t still n e = ap (stored ws) (ap length e ∙ length-stored ws n) ∙ sym e
kept_by ws s t (newer {t = u} x g) zero e = absurd (let z : suc (length u) ≡ 0 = ap length e in omega arith)
kept_by ws s t (newer {t = u} x g) (suc n) e = kept_by ws s u g n (ap tail e)

-- the first n nodes read as before
pub stored_kept : (ws vs : List ℕ) (n m : ℕ) → Grown (stored ws n) (stored vs m) → stored vs n ≡ stored ws n
stored_kept ws vs n m g = ap (stored vs) (sym (length-stored ws n)) ∙ kept_by vs (stored ws n) (stored vs m) g m refl

stored-drop : (ws : List ℕ) (d m : ℕ) → drop d (stored ws (d + m)) ≡ stored ws m
unfolding stored
stored-drop ws zero m = ap (stored ws) (zero-add m)
stored-drop ws (suc d) m = ap (λ n. drop (suc d) (stored ws n)) (suc-add d m) ∙ stored-drop ws d m

-- the oldest m nodes
pub stored_oldest : (ws : List ℕ) (m n : ℕ) → m ≤ n → stored ws m ≡ drop (n - m) (stored ws n)
stored_oldest ws m n le =
    let e : n - m + m ≡ n = omega arith in
    sym (stored-drop ws (n - m) m) ∙ ap (λ k. drop (n - m) (stored ws k)) e
