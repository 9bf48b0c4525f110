-- What a store says of its references, and what stays when it grows.
use Rattle.std.proofs.Common.{◌≡◌, ℕ, ◌<◌, ◌≤◌, Bool, true, false, cond, eqb, [], ◌∷◌, length, Some, sym, refl, ap, ◌∙◌, subst, ⊎_elim, arith}
use Rattle.std.proofs.lemmas.Bool.{eqb-true, eqb-false, ne_eqb, eq-eqb, cond-true, cond-false, cond_both, and_parts, and_from, cases_Bool, cases_lt, cases_eq}
use Rattle.diagram.specs.declared.node.Node.{Node}
use Rattle.diagram.specs.Store.{Store, Query, mark, node_of, top, low_part, high_part, eval, same, found, Later, Fits, Sound, Grown, still, newer}

pub grown_length : {s t : Store} → Grown s t → length s ≤ length t
grown_length still = omega arith
grown_length (newer n g) = omega (arith, grown_length g)

pub grown_trans : {s t u : Store} → Grown s t → Grown t u → Grown s u
grown_trans g still = g
grown_trans g (newer n h) = newer n (grown_trans g h)

pub grown_sound : {s t : Store} → Grown s t → Sound t → Sound s
grown_sound still so = so
grown_sound (newer n g) so = grown_sound g so.3

-- an older reference is not the newest node's
older : (s : Store) (r : ℕ) → r < mark s → eqb r (mark s) ≡ false
older s r h = ne_eqb r (mark s) (λ e. omega arith)

pub top_grown : {s t : Store} → Grown s t → (r : ℕ) → r < mark s → top t r ≡ top s r
top_grown still r h = refl
top_grown (newer {t = t} n g) r h = cond-false (eqb r (mark t)) _ _ (older t r (omega (arith, grown_length g))) ∙ top_grown g r h

pub low_grown : {s t : Store} → Grown s t → (r : ℕ) → r < mark s → low_part t r ≡ low_part s r
low_grown still r h = refl
low_grown (newer {t = t} n g) r h = cond-false (eqb r (mark t)) _ _ (older t r (omega (arith, grown_length g))) ∙ low_grown g r h

pub high_grown : {s t : Store} → Grown s t → (r : ℕ) → r < mark s → high_part t r ≡ high_part s r
high_grown still r h = refl
high_grown (newer {t = t} n g) r h = cond-false (eqb r (mark t)) _ _ (older t r (omega (arith, grown_length g))) ∙ high_grown g r h

pub eval_grown : {s t : Store} → Grown s t → (r : ℕ) (q : Query) → r < mark s → eval t r q ≡ eval s r q
eval_grown still r q h = refl
eval_grown (newer {t = t} n g) r q h = cond-false (eqb r (mark t)) _ _ (older t r (omega (arith, grown_length g))) ∙ eval_grown g r q h

pub top_leaf : (s : Store) (r : ℕ) → r < 8 → top s r ≡ 48
top_leaf [] r h = refl
top_leaf (n ∷ s) r h = cond-false (eqb r (mark s)) _ _ (older s r (omega arith)) ∙ top_leaf s r h

pub eval_leaf : (s : Store) (r : ℕ) (q : Query) → r < 8 → eval s r q ≡ r
eval_leaf [] r q h = refl
eval_leaf (n ∷ s) r q h = cond-false (eqb r (mark s)) _ _ (older s r (omega arith)) ∙ eval_leaf s r q h

pub top_small : (s : Store) → Sound s → (r : ℕ) → top s r ≤ 48
top_small [] so r = omega arith
top_small (n ∷ s) so r = cond_both (eqb r (mark s)) n.pair (top s r) (λ x. x ≤ 48) (λ e. omega (arith, so.0.small)) (λ e. top_small s so.3 r)

-- what tests no pair is a leaf
pub is_leaf : (s : Store) → Sound s → (r : ℕ) → r < mark s → 48 ≤ top s r → r < 8
is_leaf [] so r h k = h
is_leaf (n ∷ s) so r h k =
    ⊎_elim
    (λ e. let t = cond-true (eqb r (mark s)) n.pair (top s r) e in absurd (omega (arith, so.0.small, t)))
    (λ e. let t = cond-false (eqb r (mark s)) n.pair (top s r) e in is_leaf s so.3 r (omega (arith, eqb-false r (mark s) e)) (omega arith))
    (cases_Bool (eqb r (mark s)))

pub later_grown : {s t : Store} → Grown s t → (v x : ℕ) → Later s v x → Later t v x
later_grown g v x l = record { below = omega (arith, grown_length g, l.below); later = omega (arith, top_grown g x l.below, l.later) }

-- what a node's parts are, and what it means
pub record Parts (s : Store) (r : ℕ) : Type 0 where
  pub low : Later s (top s r) (low_part s r)
  pub high : Later s (top s r) (high_part s r)
  pub apart : low_part s r ≡ high_part s r → ⊥
  pub means : (q : Query) → eval s r q ≡ cond (q (top s r)) (eval s (high_part s r) q) (eval s (low_part s r) q)

-- r refers to a node that equals n
pub record Standing (s : Store) (n : Node) (r : ℕ) : Type 0 where
  pub below : r < mark s
  pub node : 8 ≤ r
  pub pairs : top s r ≡ n.pair
  pub lows : low_part s r ≡ n.low
  pub highs : high_part s r ≡ n.high

pub standing_grown : {s t : Store} → Grown s t → (n : Node) (r : ℕ) → Standing s n r → Standing t n r
standing_grown g n r k = record {
  below = omega (arith, grown_length g, k.below);
  node = k.node;
  pairs = top_grown g r k.below ∙ k.pairs;
  lows = low_grown g r k.below ∙ k.lows;
  highs = high_grown g r k.below ∙ k.highs;
}

pub newest : (n : Node) (s : Store) (r : ℕ) → r ≡ mark s → Standing (n ∷ s) n r
newest n s r e =
    let t = eq-eqb r (mark s) e in
    record {
      below = omega arith;
      node = omega arith;
      pairs = cond-true (eqb r (mark s)) _ _ t;
      lows = cond-true (eqb r (mark s)) _ _ t;
      highs = cond-true (eqb r (mark s)) _ _ t;
    }

pub pick : (s : Store) (b : Bool) (x y : ℕ) (q : Query) → eval s (cond b x y) q ≡ cond b (eval s x q) (eval s y q)
pick s true x y q = refl
pick s false x y q = refl

parts_from : (s : Store) (n : Node) (r : ℕ) → Standing s n r → Later s n.pair n.low → Later s n.pair n.high → (n.low ≡ n.high → ⊥) → ((q : Query) → eval s r q ≡ cond (q n.pair) (eval s n.high q) (eval s n.low q)) → Parts s r
parts_from s n r k low high ne m = record {
  low = rw (k.pairs, k.lows) low;
  high = rw (k.pairs, k.highs) high;
  apart = λ e. ne (sym k.lows ∙ e ∙ k.highs);
  means = λ q. rw (k.pairs, k.lows, k.highs) (m q);
}

pub above : (s : Store) (r : ℕ) → top s r < 48 → 8 ≤ r
above s r k = ⊎_elim (λ l. absurd (omega (arith, top_leaf s r l))) (λ l. l) (cases_lt r 8)

pub parts : (s : Store) → Sound s → (r : ℕ) → r < mark s → top s r < 48 → Parts s r
parts [] so r h k = absurd (omega arith)
parts (n ∷ s) so r h k =
    ⊎_elim
    (λ e. at_newest e)
    (λ e. rest e (omega (arith, eqb-false r (mark s) e)) (parts s so.3 r (omega (arith, eqb-false r (mark s) e)) (omega (arith, cond-false (eqb r (mark s)) n.pair (top s r) e))))
    (cases_Bool (eqb r (mark s)))
  where
    g : Grown s (n ∷ s)
    g = newer n still

    fit : Fits s n
    fit = so.0

    at_newest : eqb r (mark s) ≡ true → Parts (n ∷ s) r
    at_newest e =
        parts_from (n ∷ s) n r (newest n s r (eqb-true r (mark s) e))
        (later_grown g _ _ fit.low)
        (later_grown g _ _ fit.high)
        so.1
        (λ q. rw (eval_grown g n.low q fit.low.below, eval_grown g n.high q fit.high.below) (cond-true (eqb r (mark s)) _ _ e ∙ pick s (q n.pair) n.high n.low q))

    rest : eqb r (mark s) ≡ false → r < mark s → Parts s r → Parts (n ∷ s) r
    rest e b p =
        parts_from (n ∷ s) (node_of (top s r) (low_part s r) (high_part s r)) r
        (record { below = h; node = above s r (omega (arith, top_grown g r b)); pairs = top_grown g r b; lows = low_grown g r b; highs = high_grown g r b })
        (later_grown g _ _ p.low)
        (later_grown g _ _ p.high)
        p.apart
        (λ q. rw (eval_grown g (low_part s r) q p.low.below, eval_grown g (high_part s r) q p.high.below) (eval_grown g r q b ∙ p.means q))

-- the same, by names for the pair and the parts
pub record PartsOf (s : Store) (r v lo hi : ℕ) : Type 0 where
  pub low : Later s v lo
  pub high : Later s v hi
  pub means : (q : Query) → eval s r q ≡ cond (q v) (eval s hi q) (eval s lo q)

pub parts_of : (s : Store) → Sound s → (r : ℕ) → r < mark s → (v lo hi : ℕ) → top s r ≡ v → v < 48 → low_part s r ≡ lo → high_part s r ≡ hi → PartsOf s r v lo hi
parts_of s so r h v lo hi is small el eh =
    let p = parts s so r h (omega arith) in
    record {
      low = rw (← is, ← el) p.low;
      high = rw (← is, ← eh) p.high;
      means = λ q. p.means q ∙ (λ i. cond (q (is i)) (eval s (eh i) q) (eval s (el i) q));
    }

pub same_is : (m n : Node) → same m n ≡ true → m ≡ n
same_is m n e =
    let a = and_parts _ _ e in
    let b = and_parts _ _ a.1 in
    let v = eqb-true _ _ a.0 in
    let l = eqb-true _ _ b.0 in
    let h = eqb-true _ _ b.1 in
    λ i. node_of (v i) (l i) (h i)

pub same_from : (m n : Node) → m.pair ≡ n.pair → m.low ≡ n.low → m.high ≡ n.high → same m n ≡ true
same_from m n v l h = and_from _ _ (eq-eqb _ _ v) (and_from _ _ (eq-eqb _ _ l) (eq-eqb _ _ h))

pub same_not : (m n : Node) → (m ≡ n → ⊥) → same m n ≡ false
same_not m n none = ⊎_elim (λ (e : same m n ≡ true). absurd (none (same_is m n e))) (λ (e : same m n ≡ false). e) (cases_Bool (same m n))

pub found_standing : (s : Store) (n : Node) (r : ℕ) → found s n ≡ Some r → Standing s n r
unfolding found
found_standing [] n r e = let z : ◌≡◌ {A = ℕ} 0 1 = cc in absurd (omega arith)
found_standing (m ∷ s) n r e =
    ⊎_elim
    (λ (k : same m n ≡ true).
    let some : Some (mark s) ≡ Some r = sym (cond-true _ _ _ k) ∙ e in
    let is : mark s ≡ r = cc in
    subst (λ x. Standing (m ∷ s) x r) (same_is m n k) (newest m s r (sym is)))
    (λ (k : same m n ≡ false). standing_grown (newer m still) n r (found_standing s n r (sym (cond-false _ _ _ k) ∙ e)))
    (cases_Bool (same m n))

pub found_new : (s : Store) (n : Node) → found (n ∷ s) n ≡ Some (mark s)
unfolding found
found_new s n = cond-true _ _ _ (same_from n n refl refl refl)

-- in a sound store, whoever finds a node has found the only one
pub found_only : (s : Store) → Sound s → (n : Node) (r : ℕ) → Standing s n r → found s n ≡ Some r
unfolding found
found_only [] so n r st = absurd (omega (arith, st.below, st.node))
found_only (m ∷ s) so n r st =
    ⊎_elim
    (λ (e : r ≡ mark s).
    let t = eq-eqb r (mark s) e in
    cond-true _ _ _
    (same_from m n
    (sym (cond-true (eqb r (mark s)) m.pair (top s r) t) ∙ st.pairs)
    (sym (cond-true (eqb r (mark s)) m.low (low_part s r) t) ∙ st.lows)
    (sym (cond-true (eqb r (mark s)) m.high (high_part s r) t) ∙ st.highs))
    ∙ ap Some (sym e))
    (λ (ne : r ≡ mark s → ⊥).
    let b : r < mark s = omega (arith, st.below) in
    let g : Grown s (m ∷ s) = newer m still in
    let is = found_only s so.3 n r (record { below = b; node = st.node; pairs = sym (top_grown g r b) ∙ st.pairs; lows = sym (low_grown g r b) ∙ st.lows; highs = sym (high_grown g r b) ∙ st.highs }) in
    let other : m ≡ n → ⊥ = λ equal. so.2 r (ap (found s) equal ∙ is) in
    cond-false _ _ _ (same_not m n other) ∙ is)
    (cases_eq r (mark s))

pub found_grown : {s t : Store} → Grown s t → Sound t → (n : Node) (r : ℕ) → found s n ≡ Some r → found t n ≡ Some r
found_grown {s} {t} g so n r e = found_only t so n r (standing_grown g n r (found_standing s n r e))

-- a node that stands, by its own words
pub record Seen (s : Store) (n : Node) (r : ℕ) : Type 0 where
  pub tops : top s r ≡ n.pair
  pub small : n.pair < 48
  pub low : Later s n.pair n.low
  pub high : Later s n.pair n.high
  pub means : (q : Query) → eval s r q ≡ cond (q n.pair) (eval s n.high q) (eval s n.low q)

pub seen : (s : Store) → Sound s → (n : Node) (r : ℕ) → Standing s n r → Seen s n r
seen s so n r st =
    let node = st.node in
    let below = st.below in
    let lt : top s r < 48 = ⊎_elim (λ (l : top s r < 48). l) (λ (ge : 48 ≤ top s r). absurd (omega (arith, is_leaf s so r below ge))) (cases_lt (top s r) 48) in
    let p = parts s so r below lt in
    record {
      tops = st.pairs;
      small = omega (arith, st.pairs);
      low = rw (← st.pairs, ← st.lows) p.low;
      high = rw (← st.pairs, ← st.highs) p.high;
      means = λ q. rw (← st.pairs, ← st.lows, ← st.highs) (p.means q);
    }
