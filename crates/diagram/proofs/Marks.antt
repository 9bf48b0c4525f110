-- A sweep in words: marks, nodes that move, chains that are made anew.
use Rattle.std.proofs.Common.{◌≡◌, ℕ, ◌+◌, ◌-◌, ◌*◌, ◌<◌, ◌≤◌, Bool, true, false, cond, ◌||◌, eqb, ltb, ◌≢◌, List, ◌∷◌, map, length, get_or, drop, set, sym, refl, ap, ◌∙◌, ⊎_elim, add-one, arith, length-set, get_or-set_other, get_or-set_same}
use Rattle.std.proofs.Math.Bool.{or_assoc, or-false}
use Rattle.std.proofs.lemmas.List.{drop_more, drop_all}
use Rattle.std.proofs.lemmas.Bool.{eq-eqb, ne_eqb, lt-ltb, le-ltb, cond-true, cond-false, cond_both, cases_eq, cases_lt, or_right, both_ways}
use Rattle.diagram.specs.declared.node.Node.{Node}
use Rattle.diagram.specs.Store.{Store, node_of, Sound}
use Rattle.diagram.specs.Sweeping.{wanted, wanted_parts, Swept, keep_node, swept, reached, packed, mark_at, marked, marking, OnlyMarks, Closed, new_at, new_root}
use Rattle.diagram.specs.Words.{capacity, node_at, putting, stored, last, bucket_at, Chained}
use Rattle.diagram.proofs.Chains.{last_skip, chained_by, cleared_chained}
use Rattle.diagram.proofs.Counts.{older_parts}
use Rattle.diagram.proofs.Sweeps.{reached_more, reached_ext, reached_parts, packed_ext, packed_other, swept-packed, map_wanted}
use Rattle.diagram.proofs.Words.{length-stored, node_same, putting_long, putting_other, putting_here, stored_ext}

-- ---- words

or_none : (a : Bool) {b : Bool} → b ≡ false → (a || b) ≡ a
or_none a e = ap (λ t. a || t) e ∙ or-false a

-- a node is read from its first three words
-- a leaf's new reference is its own, and a node's is its mark
new_at_is : (ws : List ℕ) (r x : ℕ) → (r < 8 → r ≡ x) → (8 ≤ r → mark_at ws (r - 8) ≡ x) → new_at ws r ≡ x
new_at_is ws r x leaf node = ⊎_elim
    (λ (l : r < 8). cond-true (ltb r 8) _ _ (lt-ltb r 8 l) ∙ leaf l)
    (λ (l : 8 ≤ r). cond-false (ltb r 8) _ _ (le-ltb r 8 l) ∙ node l)
    (cases_lt r 8)

-- ---- a mark more

marked_at : (ws : List ℕ) (k : ℕ) → marked ws (8 + k) ≡ ltb 0 (mark_at ws k)
marked_at ws k = let e : 8 + k - 8 ≡ k = omega arith in ap (λ i. ltb 0 (mark_at ws i)) e

pub marked_yes : (ws : List ℕ) (k : ℕ) → (mark_at ws k ≡ 0 → ⊥) → marked ws (8 + k) ≡ true
marked_yes ws k ne = marked_at ws k ∙ lt-ltb 0 (mark_at ws k) (omega arith)

pub marked_not : (ws : List ℕ) (k : ℕ) → mark_at ws k ≡ 0 → marked ws (8 + k) ≡ false
marked_not ws k e = marked_at ws k ∙ le-ltb 0 (mark_at ws k) (omega arith)

pub only_node : (ws vs : List ℕ) → OnlyMarks ws vs → (k : ℕ) → node_at vs k ≡ node_at ws k
only_node ws vs only k = node_same ws vs k (λ i lo hi. only i (λ e. omega arith))

marking_only : (ws vs : List ℕ) (r : ℕ) → OnlyMarks ws vs → OnlyMarks ws (marking vs r)
marking_only ws vs r only = cond_both (ltb r 8) vs (set vs (7 * (r - 8) + 5) 1) (OnlyMarks ws) (λ e. only)
    (λ e i ne. get_or-set_other vs (7 * (r - 8) + 5) i 1 0 (λ is. ne (omega arith)) ∙ only i ne)

marking_long : (ws : List ℕ) (r : ℕ) → length (marking ws r) ≡ length ws
marking_long ws r = cond_both (ltb r 8) ws (set ws (7 * (r - 8) + 5) 1) (λ vs. length vs ≡ length ws) (λ e. refl) (λ e. length-set ws (7 * (r - 8) + 5) 1)

marking_is : (ws : List ℕ) (r : ℕ) → r < 8 + capacity ws → (x : ℕ) → 8 ≤ x → marked (marking ws r) x ≡ (marked ws x || eqb x r)
marking_is ws r h x lo = ⊎_elim
    (λ (leaf : r < 8). ap (λ vs. marked vs x) (cond-true (ltb r 8) _ _ (lt-ltb r 8 leaf)) ∙ sym (or_none (marked ws x) (ne_eqb x r (λ e. omega arith))))
    (λ (node : 8 ≤ r).
    ap (λ vs. marked vs x) (cond-false (ltb r 8) _ _ (le-ltb r 8 node))
    ∙ ⊎_elim
    (λ (e : x ≡ r). ap (λ y. ltb 0 (mark_at (set ws (7 * (r - 8) + 5) 1) (y - 8))) e ∙ ap (ltb 0) (get_or-set_same ws (7 * (r - 8) + 5) 1 0 (omega arith)) ∙ sym (or_right (marked ws x) _ (eq-eqb x r e)))
    (λ (ne : x ≡ r → ⊥). ap (ltb 0) (get_or-set_other ws (7 * (r - 8) + 5) (7 * (x - 8) + 5) 1 0 (λ e. ne (omega arith))) ∙ sym (or_none (marked ws x) (ne_eqb x r ne)))
    (cases_eq x r))
    (cases_lt r 8)

-- ---- the marks of the roots: ws are the words that the loop began with

pub record Rooted (ws : List ℕ) (fill : ℕ) (roots : List ℕ) (vs : List ℕ) (i : ℕ) : Type 0 where
  pub only : OnlyMarks ws vs
  pub marks : (r : ℕ) → 8 ≤ r → r < 8 + fill → (marked vs r || wanted (drop i roots) r) ≡ (marked ws r || wanted roots r)

module _ (ws : List ℕ) (fill : ℕ) (roots vs : List ℕ) (i : ℕ) (old : Rooted ws fill roots vs i) where
  rooted_by : i < length roots → (us : List ℕ) → OnlyMarks ws us → ((r : ℕ) → 8 ≤ r → r < 8 + fill → marked us r ≡ (marked vs r || eqb r (get_or roots i 0))) → Rooted ws fill roots us (i + 1)
  rooted_by h us only is = record {
    only = only;
    marks = λ r lo hi.
        ap (λ t. t || wanted (drop (i + 1) roots) r) (is r lo hi) ∙ or_assoc (marked vs r) (eqb r (get_or roots i 0)) (wanted (drop (i + 1) roots) r)
        ∙ ap (λ xs. marked vs r || wanted xs r) (sym (drop_more roots i 0 h)) ∙ old.marks r lo hi;
  }

  pub rooted_more : i < length roots → get_or roots i 0 < 8 + fill → fill ≤ capacity vs → Rooted ws fill roots (marking vs (get_or roots i 0)) (i + 1)
  rooted_more h stands within = rooted_by h _ (marking_only ws vs (get_or roots i 0) old.only) (λ r lo hi. marking_is vs (get_or roots i 0) (omega arith) r lo)

  pub rooted_pass : i < length roots → 8 + fill ≤ get_or roots i 0 → Rooted ws fill roots vs (i + 1)
  rooted_pass h past = rooted_by h vs old.only (λ r lo hi. sym (or_none (marked vs r) (ne_eqb r (get_or roots i 0) (λ e. omega arith))))

  pub rooted_all : length roots ≤ i → (r : ℕ) → 8 ≤ r → r < 8 + fill → marked vs r ≡ (marked ws r || wanted roots r)
  rooted_all end r lo hi = sym (or_none (marked vs r) (ap (λ xs. wanted xs r) (drop_all i roots end))) ∙ old.marks r lo hi

-- ---- the marks of parts: k nodes are still to be looked at

pub record Parted (ws : List ℕ) (fill : ℕ) (vs : List ℕ) (k : ℕ) : Type 0 where
  pub only : OnlyMarks ws vs
  pub marks : (r : ℕ) → 8 ≤ r → r < 8 + fill → reached (stored ws k) (marked vs) r ≡ reached (stored ws fill) (marked ws) r

pub parted_none : (ws : List ℕ) (fill : ℕ) (vs : List ℕ) → Parted ws fill vs 0 → (r : ℕ) → 8 ≤ r → r < 8 + fill → marked vs r ≡ reached (stored ws fill) (marked ws) r
unfolding reached stored
parted_none ws fill vs old = old.marks

module _ (ws : List ℕ) (fill : ℕ) (vs : List ℕ) (k : ℕ) (h : k < fill) (old : Parted ws fill vs (k + 1)) where
  parted_by : (us : List ℕ) → OnlyMarks ws us → ((r : ℕ) → 8 ≤ r → marked us r ≡ cond (marked vs (8 + k)) (wanted_parts (node_at ws k) (marked vs)) (marked vs) r) → Parted ws fill us k
  unfolding reached stored
  parted_by us only is = record {
    only = only;
    marks = λ r lo hi.
        reached_ext (stored ws k) (8 + fill) (omega (arith, length-stored ws k)) (marked us) _
        (λ x low high. is x low ∙ ap (λ m. cond (marked vs (8 + m)) (wanted_parts (node_at ws k) (marked vs)) (marked vs) x) (sym (length-stored ws k))) r lo hi
        ∙ ap (λ m. reached (stored ws m) (marked vs) r) (sym (add-one k)) ∙ old.marks r lo hi;
  }

  pub parted_pass : marked vs (8 + k) ≡ false → Parted ws fill vs k
  parted_pass e = parted_by vs old.only (λ r lo. ap (λ want. want r) (sym (cond-false (marked vs (8 + k)) (wanted_parts (node_at ws k) (marked vs)) (marked vs) e)))

  pub parted_more : marked vs (8 + k) ≡ true → (node_at ws k).low < 8 + capacity vs → (node_at ws k).high < 8 + capacity vs → Parted ws fill (marking (marking vs (node_at ws k).low) (node_at ws k).high) k
  parted_more e low high =
      let n : Node = node_at ws k in
      parted_by _ (marking_only ws _ n.high (marking_only ws vs n.low old.only))
      (λ r lo.
      marking_is (marking vs n.low) n.high (omega (arith, marking_long vs n.low)) r lo
      ∙ ap (λ t. t || eqb r n.high) (marking_is vs n.low low r lo) ∙ or_assoc (marked vs r) (eqb r n.low) (eqb r n.high)
      ∙ ap (λ want. want r) (sym (cond-true (marked vs (8 + k)) (wanted_parts n (marked vs)) (marked vs) e)))

-- ---- no marks and no chains: the first k nodes have lost theirs

pub record Wiped (ws vs : List ℕ) (k : ℕ) : Type 0 where
  -- a bucket that is left has its old head, and none of these nodes
  pub heads : (b : ℕ) → (get_or vs (7 * b + 3) 0 ≡ 0 → ⊥) → (get_or vs (7 * b + 3) 0 ≡ get_or ws (7 * b + 3) 0) × (last (bucket_at ws) k b ≡ 0)
  pub marks : (j : ℕ) → j < k → mark_at vs j ≡ 0
  pub nodes : (j : ℕ) → node_at vs j ≡ node_at ws j

pub wiped_none : (ws : List ℕ) → Wiped ws ws 0
unfolding last
wiped_none ws = record { heads = λ b ne. (refl, refl); marks = λ j h. absurd (omega arith); nodes = λ j. refl }

module _ (ws vs : List ℕ) (k b : ℕ) (room : k < capacity vs) (bin : b < capacity vs) (is : b ≡ bucket_at ws k) (old : Wiped ws vs k) where
  abbrev unheaded : List ℕ
  unheaded = set vs (7 * b + 3) 0

  abbrev wiped : List ℕ
  wiped = set unheaded (7 * k + 5) 0

  wiped_other : (i : ℕ) → i ≢ 7 * b + 3 → i ≢ 7 * k + 5 → get_or wiped i 0 ≡ get_or vs i 0
  wiped_other i n₃ n₅ = get_or-set_other unheaded (7 * k + 5) i 0 0 n₅ ∙ get_or-set_other vs (7 * b + 3) i 0 0 n₃

  pub wiped_more : Wiped ws wiped (k + 1)
  wiped_more = record {
    heads = λ x some. ⊎_elim
        (λ (e : x ≡ b). absurd (some (ap (λ y. get_or wiped (7 * y + 3) 0) e ∙ get_or-set_other unheaded (7 * k + 5) (7 * b + 3) 0 0 (omega arith) ∙ get_or-set_same vs (7 * b + 3) 0 0 (omega arith))))
        (λ (ne : x ≡ b → ⊥).
        let same = wiped_other (7 * x + 3) (omega arith) (omega arith) in
        let was = old.heads x (λ e. some (same ∙ e)) in
        (same ∙ was.0, ap (λ m. last (bucket_at ws) m x) (add-one k) ∙ last_skip (bucket_at ws) k x (λ e. ne (sym e ∙ sym is)) ∙ was.1))
        (cases_eq x b);
    marks = λ j lt. ⊎_elim
        (λ (e : j ≡ k). ap (mark_at wiped) e ∙ get_or-set_same unheaded (7 * k + 5) 0 0 (omega (arith, length-set vs (7 * b + 3) 0)))
        (λ (ne : j ≡ k → ⊥). wiped_other (7 * j + 5) (omega arith) (omega arith) ∙ old.marks j (omega arith))
        (cases_eq j k);
    nodes = λ j. node_same vs wiped j (λ i lo hi. wiped_other i (omega arith) (omega arith)) ∙ old.nodes j;
  }

pub wiped_chained : (ws vs : List ℕ) (fill : ℕ) → Chained ws fill → length vs ≡ length ws → Wiped ws vs fill → Chained vs 0
wiped_chained ws vs fill ch long w = cleared_chained vs (omega (arith, ch.few)) (λ b h. ⊎_elim
    (λ (e : get_or vs (7 * b + 3) 0 ≡ 0). e)
    (λ (ne : get_or vs (7 * b + 3) 0 ≡ 0 → ⊥). let was = w.heads b ne in was.0 ∙ ch.heads b (omega arith) ∙ was.1)
    (cases_eq (get_or vs (7 * b + 3) 0) 0))

-- ---- nodes that move: of the first k, those that are marked stand in the first j places

pub record Packing (ws vs : List ℕ) (k j : ℕ) : Type 0 where
  pub fewer : j ≤ k
  pub store : stored vs j ≡ (packed (stored ws k) (marked ws)).store
  pub nodes : (i : ℕ) → k ≤ i → node_at vs i ≡ node_at ws i
  pub marks : (i : ℕ) → k ≤ i → mark_at vs i ≡ mark_at ws i
  pub news : (r : ℕ) → 8 ≤ r → r < 8 + k → marked ws r ≡ true → mark_at vs (r - 8) ≡ (packed (stored ws k) (marked ws)).renumber r
  pub heads : (b : ℕ) → get_or vs (7 * b + 3) 0 ≡ get_or ws (7 * b + 3) 0

pub packing_none : (ws : List ℕ) → Packing ws ws 0 0
unfolding stored packed
packing_none ws = record { fewer = omega arith; store = refl; nodes = λ i h. refl; marks = λ i h. refl; news = λ r lo hi e. absurd (omega arith); heads = λ b. refl }

-- a node more
packed_more : (ws : List ℕ) (k : ℕ) → packed (stored ws (k + 1)) (marked ws) ≡ cond (marked ws (8 + k)) (keep_node (node_at ws k) (8 + k) (packed (stored ws k) (marked ws))) (packed (stored ws k) (marked ws))
unfolding packed stored
packed_more ws k =
    ap (λ m. packed (stored ws m) (marked ws)) (add-one k)
    ∙ ap (λ m. cond (marked ws (8 + m)) (keep_node (node_at ws k) (8 + m) (packed (stored ws k) (marked ws))) (packed (stored ws k) (marked ws))) (length-stored ws k)

-- the words once the node n of reference 8 + k has moved to place j
module _ (vs : List ℕ) (k j : ℕ) (n : Node) (le : j ≤ k) (room : k < capacity vs) where
  abbrev pub moved : List ℕ
  moved = set (putting vs j n) (7 * k + 5) (8 + j)

  moved_other : (i : ℕ) → i ≢ 7 * k + 5 → i ≢ 7 * j + 2 → i ≢ 7 * j + 1 → i ≢ 7 * j → get_or moved i 0 ≡ get_or vs i 0
  moved_other i n₅ n₂ n₁ n₀ = get_or-set_other (putting vs j n) (7 * k + 5) i (8 + j) 0 n₅ ∙ putting_other vs j n i n₀ n₁ n₂

  moved_mark : mark_at moved k ≡ 8 + j
  moved_mark = get_or-set_same (putting vs j n) (7 * k + 5) (8 + j) 0 (omega (arith, putting_long vs j n))

  moved_here : node_at moved j ≡ n
  moved_here = node_same (putting vs j n) moved j (λ i lo hi. get_or-set_other (putting vs j n) (7 * k + 5) i (8 + j) 0 (omega arith)) ∙ putting_here vs j n (omega arith)

  moved_node : (i : ℕ) → i ≢ j → node_at moved i ≡ node_at vs i
  moved_node i ne = node_same vs moved i (λ x lo hi. moved_other x (omega arith) (omega arith) (omega arith) (omega arith))

  moved_stored : stored moved (j + 1) ≡ n ∷ stored vs j
  unfolding stored
  moved_stored = ap (stored moved) (add-one j) ∙ (λ i. moved_here i ∷ stored_ext moved vs j (λ x h. moved_node x (omega arith)) i)

module _ (ws vs : List ℕ) (k j : ℕ) (old : Packing ws vs k j) where
  -- what the loop reads as a part's new reference
  packing_part : (r : ℕ) → r < 8 + k → (8 ≤ r → marked ws r ≡ true) → new_at vs r ≡ (packed (stored ws k) (marked ws)).renumber r
  packing_part r below marks = new_at_is vs r _ (λ leaf. sym (packed_other (stored ws k) (marked ws) r (λ i h e. omega arith))) (λ node. old.news r node below (marks node))

  packing_pass : marked ws (8 + k) ≡ false → Packing ws vs (k + 1) j
  packing_pass e =
      let is = packed_more ws k ∙ cond-false (marked ws (8 + k)) _ _ e in
      record {
        fewer = omega (arith, old.fewer);
        store = old.store ∙ ap (λ (w : Swept). w.store) (sym is);
        nodes = λ i h. old.nodes i (omega arith);
        marks = λ i h. old.marks i (omega arith);
        news = λ r lo hi m. ⊎_elim
            (λ (at : r ≡ 8 + k). absurd (both_ways (marked ws r) (ap (marked ws) at ∙ e) m))
            (λ (ne : r ≡ 8 + k → ⊥). old.news r lo (omega arith) m ∙ ap (λ (w : Swept). w.renumber r) (sym is))
            (cases_eq r (8 + k));
        heads = old.heads;
      }

  packing_more : marked ws (8 + k) ≡ true → (room : k < capacity vs) → (n : Node) →
      n ≡ node_of (node_at ws k).pair ((packed (stored ws k) (marked ws)).renumber (node_at ws k).low) ((packed (stored ws k) (marked ws)).renumber (node_at ws k).high) →
      Packing ws (moved vs k j n old.fewer room) (k + 1) (j + 1)
  packing_more e room n same =
      let le = old.fewer in
      let is = packed_more ws k ∙ cond-true (marked ws (8 + k)) _ _ e in
      let s : Store = (packed (stored ws k) (marked ws)).store in
      let count : length s ≡ j = ap length (sym old.store) ∙ length-stored vs j in
      record {
        fewer = omega arith;
        store = moved_stored vs k j n le room ∙ (λ i. same i ∷ old.store i) ∙ ap (λ (w : Swept). w.store) (sym is);
        nodes = λ i h. moved_node vs k j n le room i (omega arith) ∙ old.nodes i (omega arith);
        marks = λ i h. moved_other vs k j n le room (7 * i + 5) (omega arith) (omega arith) (omega arith) (omega arith) ∙ old.marks i (omega arith);
        news = λ r lo hi m. ⊎_elim
            (λ (at : r ≡ 8 + k).
            let back : r - 8 ≡ k = omega arith in
            ap (mark_at (moved vs k j n le room)) back ∙ moved_mark vs k j n le room ∙ ap (λ x. 8 + x) (sym count)
            ∙ sym (ap (λ (w : Swept). w.renumber r) is ∙ cond-true (eqb r (8 + k)) _ _ (eq-eqb r (8 + k) at)))
            (λ (ne : r ≡ 8 + k → ⊥).
            moved_other vs k j n le room (7 * (r - 8) + 5) (omega arith) (omega arith) (omega arith) (omega arith) ∙ old.news r lo (omega arith) m
            ∙ sym (ap (λ (w : Swept). w.renumber r) is ∙ cond-false (eqb r (8 + k)) _ _ (ne_eqb r (8 + k) ne)))
            (cases_eq r (8 + k));
        heads = λ b. moved_other vs k j n le room (7 * b + 3) (omega arith) (omega arith) (omega arith) (omega arith) ∙ old.heads b;
      }

-- the turns of the loop, by what it reads
module _ (ws : List ℕ) (fill : ℕ) (vs : List ℕ) (k j : ℕ) (old : Packing ws vs k j) (h : k < fill) where
  pub packing_left : mark_at vs k ≡ 0 → Packing ws vs (k + 1) j
  packing_left e = packing_pass ws vs k j old (marked_not ws k (sym (old.marks k (omega arith)) ∙ e))

  pub packing_taken : Sound (stored ws fill) → Closed ws fill → k < capacity vs → (mark_at vs k ≡ 0 → ⊥) →
      (n : Node) → n ≡ node_at vs k → (low high : ℕ) → low ≡ new_at vs n.low → high ≡ new_at vs n.high →
      Packing ws (set (putting vs j (node_of n.pair low high)) (7 * k + 5) (8 + j)) (k + 1) (j + 1)
  packing_taken so closed room ne n is low high el eh =
      let m : Node = node_at ws k in
      let same : n ≡ m = is ∙ old.nodes k (omega arith) in
      let here : marked ws (8 + k) ≡ true = marked_yes ws k (λ e. ne (old.marks k (omega arith) ∙ e)) in
      let older = older_parts ws fill k h so in
      let PartLow = packing_part ws vs k j old m.low older.0 (closed k h here).0 in
      let part_high = packing_part ws vs k j old m.high older.1 (closed k h here).1 in
      let new_low = el ∙ (λ i. new_at vs (same i).low) ∙ PartLow in
      let new_high = eh ∙ (λ i. new_at vs (same i).high) ∙ part_high in
      packing_more ws vs k j old here room (node_of n.pair low high) (λ i. node_of (same i).pair (new_low i) (new_high i))

-- ---- chains anew: the first k nodes are in them

pub record Linked (ws vs : List ℕ) (k : ℕ) : Type 0 where
  pub chained : Chained vs k
  pub nodes : (i : ℕ) → node_at vs i ≡ node_at ws i

-- ---- the whole

-- chains that are empty stay so while the heads do
pub empty_chains : (ws vs : List ℕ) → length vs ≡ length ws → ((b : ℕ) → get_or vs (7 * b + 3) 0 ≡ get_or ws (7 * b + 3) 0) → Chained ws 0 → Chained vs 0
empty_chains ws vs long heads = chained_by ws vs 0 long (λ k h. absurd (omega arith)) heads (λ k h. absurd (omega arith))

-- vs has the nodes of ws, and the marks of those that are reached from the roots
pub record Reached (ws : List ℕ) (fill : ℕ) (roots vs : List ℕ) : Type 0 where
  pub nodes : stored vs fill ≡ stored ws fill
  pub marks : (r : ℕ) → 8 ≤ r → r < 8 + fill → marked vs r ≡ reached (stored vs fill) (wanted roots) r

pub reached_from : (fill : ℕ) (roots ws vs us : List ℕ) → ((k : ℕ) → k < fill → mark_at ws k ≡ 0) →
    ((r : ℕ) → 8 ≤ r → r < 8 + fill → marked vs r ≡ (marked ws r || wanted roots r)) → OnlyMarks vs us →
    ((r : ℕ) → 8 ≤ r → r < 8 + fill → marked us r ≡ reached (stored vs fill) (marked vs) r) → Reached vs fill roots us
reached_from fill roots ws vs us none rooted only parted =
    let nodes : stored us fill ≡ stored vs fill = stored_ext us vs fill (λ k h. only_node vs us only k) in
    record {
      nodes = nodes;
      marks = λ r lo hi.
          parted r lo hi
          ∙ reached_ext (stored vs fill) (8 + fill) (omega (arith, length-stored vs fill)) (marked vs) (wanted roots)
          (λ x low high. rooted x low high ∙ ap (λ t. t || wanted roots x) (le-ltb 0 (mark_at ws (x - 8)) (omega (arith, none (x - 8) (omega arith))))) r lo hi
          ∙ ap (λ s. reached s (wanted roots) r) (sym nodes);
    }

module _ (ws : List ℕ) (fill : ℕ) (roots vs : List ℕ) (all : Reached ws fill roots vs) (so : Sound (stored vs fill)) where
  pub reached_closed : Closed vs fill
  reached_closed k h e =
      let older = older_parts vs fill k h so in
      let parts = reached_parts vs fill so (wanted roots) k h (sym (all.marks (8 + k) (omega arith) (omega arith)) ∙ e) in
      ((λ lo. all.marks _ lo (omega (arith, older.0)) ∙ parts.0), (λ lo. all.marks _ lo (omega (arith, older.1)) ∙ parts.1))

  pub reached_packed : packed (stored vs fill) (marked vs) ≡ swept (stored ws fill) (wanted roots)
  reached_packed =
      packed_ext (stored vs fill) (8 + fill) (omega (arith, length-stored vs fill)) (marked vs) _ all.marks
      ∙ sym (swept-packed (stored vs fill) so (wanted roots)) ∙ ap (λ s. swept s (wanted roots)) all.nodes

  pub reached_roots : (us : List ℕ) → ((r : ℕ) → 8 ≤ r → r < 8 + fill → marked vs r ≡ true → mark_at us (r - 8) ≡ (packed (stored vs fill) (marked vs)).renumber r) →
      map (new_root us fill) roots ≡ map (swept (stored ws fill) (wanted roots)).renumber roots
  reached_roots us news =
      map_wanted (new_root us fill) (packed (stored vs fill) (marked vs)).renumber roots (λ r want. ⊎_elim
      (λ (stands : r < 8 + fill). cond-true (ltb r (8 + fill)) _ _ (lt-ltb r (8 + fill) stands) ∙ new_at_is us r _
      (λ leaf. sym (packed_other (stored vs fill) (marked vs) r (λ k h e. omega arith)))
      (λ node. news r node stands (all.marks r node stands ∙ reached_more (stored vs fill) (wanted roots) r want)))
      (λ (past : 8 + fill ≤ r). cond-false (ltb r (8 + fill)) _ _ (le-ltb r (8 + fill) past) ∙ sym (packed_other (stored vs fill) (marked vs) r (λ k h e. omega (arith, length-stored vs fill))))
      (cases_lt r (8 + fill)))
      ∙ ap (λ (w : Swept). map w.renumber roots) reached_packed
