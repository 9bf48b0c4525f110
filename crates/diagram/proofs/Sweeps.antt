-- What a sweep keeps: every reference that is wanted stands, and evaluates as it did.
use Rattle.std.proofs.Common.{◌≡◌, ℕ, zero, suc, ◌+◌, ◌<◌, ◌≤◌, Bool, true, false, cond, ◌||◌, eqb, List, [], ◌∷◌, map, length, get_or, Some, sym, refl, ap, ◌∙◌, ap₂, ⊎_elim, arith}
use Rattle.std.proofs.lemmas.List.{get_or-map}
use Rattle.std.proofs.lemmas.Bool.{eq-eqb, ne_eqb, cond-true, cond-false, cond_both, cases_eq, cases_Bool, or_left, or_right, or_from, both_ways}
use Rattle.diagram.specs.declared.node.Node.{Node}
use Rattle.diagram.specs.Store.{Store, Query, node_of, mark, top, eval, found, Fits, Sound, still, newer}
use Rattle.diagram.specs.Sweeping.{wanted, wanted_parts, Swept, keep_node, swept, Moved, Moves, reached, packed}
use Rattle.diagram.specs.Words.{node_at, stored}
use Rattle.diagram.proofs.Canonical.{eval_new, top_new, canonical_one}
use Rattle.diagram.proofs.Stands.{eval_grown, top_grown, pick, found_standing, seen}
use Rattle.diagram.proofs.Words.{length-stored}

-- a node's parts are wanted along with it
wants_low : (n : Node) (want : ℕ → Bool) → wanted_parts n want n.low ≡ true
wants_low n want = or_right (want n.low) _ (or_left (eqb n.low n.low) _ (eq-eqb n.low n.low refl))

wants_high : (n : Node) (want : ℕ → Bool) → wanted_parts n want n.high ≡ true
wants_high n want = or_right (want n.high) _ (or_right (eqb n.high n.low) _ (eq-eqb n.high n.high refl))

-- w is what a sweep of s makes
pub record Right (s : Store) (want : ℕ → Bool) (w : Swept) : Type 0 where
  pub sound : Sound w.store
  pub moved : (r : ℕ) → r < mark s → want r ≡ true → Moved s w.store r (w.renumber r)
  -- every reference there has one here
  pub back : (r : ℕ) → r < mark w.store → (o : ℕ) × (o < mark s) × ((q : Query) → eval s o q ≡ eval w.store r q)

at_new : (n : Node) (s : Store) (r : ℕ) (q : Query) → r ≡ mark s → eval (n ∷ s) r q ≡ cond (q n.pair) (eval s n.high q) (eval s n.low q)
at_new n s r q e = eval_new n s r q e ∙ pick s (q n.pair) n.high n.low q

-- what has moved twice to one reference was one
one_each : (s t : Store) → Sound s → (a b x y : ℕ) → a < mark s → b < mark s → Moved s t a x → Moved s t b y → x ≡ y → a ≡ b
one_each s t so a b x y ha hb ma mb e = canonical_one s so a b ha hb (λ q. sym (ma.same q) ∙ ap (λ r. eval t r q) e ∙ mb.same q)

module _ (n : Node) (s : Store) (so : Sound (n ∷ s)) (want : ℕ → Bool) where
  -- an older reference that has moved
  moved_old : (r x : ℕ) (t : Store) → r < mark s → Moved s t r x → Moved (n ∷ s) t r x
  moved_old r x t old m = record {
    below = m.below;
    tops = m.tops ∙ sym (top_grown (newer n still) r old);
    same = λ q. m.same q ∙ sym (eval_grown (newer n still) r q old);
  }

  -- the newest node is wanted
  module _ (w : Swept) (h : Right s (wanted_parts n want) w) where
    lo : Moved s w.store n.low (w.renumber n.low)
    lo = h.moved n.low so.0.low.below (wants_low n want)

    hi : Moved s w.store n.high (w.renumber n.high)
    hi = h.moved n.high so.0.high.below (wants_high n want)

    abbrev node : Node
    node = node_of n.pair (w.renumber n.low) (w.renumber n.high)

    -- the node evaluates in the new store as n did
    means : (q : Query) → cond (q n.pair) (eval w.store node.high q) (eval w.store node.low q) ≡ eval (n ∷ s) (mark s) q
    means q = ap₂ (λ (x y : ℕ). cond (q n.pair) x y) (hi.same q) (lo.same q) ∙ sym (at_new n s (mark s) q refl)

    -- an equal node in the new store would have had a second reference here
    twin : (r : ℕ) → found w.store node ≡ Some r → ⊥
    twin r e =
        let st = found_standing w.store node r e in
        let at = seen w.store h.sound node r st in
        let o = h.back r st.below in
        let is : mark s ≡ o.0 = canonical_one (n ∷ s) so (mark s) o.0 (omega arith) (omega (arith, o.1))
        (λ q. sym (means q) ∙ sym (at.means q) ∙ sym (o.2 q) ∙ sym (eval_grown (newer n still) o.0 q o.1)) in
        omega (arith, o.1)

    fits : Fits w.store node
    fits = record {
      low = record { below = lo.below; later = omega (arith, so.0.low.later, lo.tops) };
      high = record { below = hi.below; later = omega (arith, so.0.high.later, hi.tops) };
      small = so.0.small;
    }

    keep_right : Right (n ∷ s) want (keep_node n (mark s) w)
    keep_right = record {
      sound = (fits, (λ e. so.1 (one_each s w.store so.3 _ _ _ _ so.0.low.below so.0.high.below lo hi e)), twin, h.sound);
      moved = λ r below wants. ⊎_elim
          (λ (e : r ≡ mark s).
          let is : (keep_node n (mark s) w).renumber r ≡ mark w.store = cond-true (eqb r (mark s)) _ _ (eq-eqb r (mark s) e) in
          record {
            below = omega (arith, is);
            tops = top_new node w.store _ is ∙ sym (top_new n s r e);
            same = λ q. at_new node w.store _ q is ∙ means q ∙ ap (λ (x : ℕ). eval (n ∷ s) x q) (sym e);
          })
          (λ (ne : r ≡ mark s → ⊥).
          let old : r < mark s = omega arith in
          let is : (keep_node n (mark s) w).renumber r ≡ w.renumber r = cond-false (eqb r (mark s)) _ _ (ne_eqb r (mark s) ne) in
          let m = h.moved r old (or_left (want r) _ wants) in
          let under = m.below in
          moved_old r _ (node ∷ w.store) old (record {
            below = omega (arith, is);
            tops = ap (top (node ∷ w.store)) is ∙ top_grown (newer node still) (w.renumber r) under ∙ m.tops;
            same = λ q. ap (λ (x : ℕ). eval (node ∷ w.store) x q) is ∙ eval_grown (newer node still) (w.renumber r) q under ∙ m.same q;
          }))
          (cases_eq r (mark s));
      back = λ r below. ⊎_elim
          (λ (e : r ≡ mark w.store). (mark s, omega arith, λ q. sym (at_new node w.store r q e ∙ means q)))
          (λ (ne : r ≡ mark w.store → ⊥).
          let old : r < mark w.store = omega arith in
          let o = h.back r old in
          (o.0, omega (arith, o.1), λ q. eval_grown (newer n still) o.0 q o.1 ∙ o.2 q ∙ sym (eval_grown (newer node still) r q old)))
          (cases_eq r (mark w.store));
    }

  -- it is not
  leave_right : (w : Swept) → Right s want w → want (mark s) ≡ false → Right (n ∷ s) want w
  leave_right w h unwanted = record {
    sound = h.sound;
    moved = λ r below wants. ⊎_elim
        (λ (e : r ≡ mark s). absurd (both_ways (want r) (ap want e ∙ unwanted) wants))
        (λ (ne : r ≡ mark s → ⊥). let old : r < mark s = omega arith in moved_old r _ w.store old (h.moved r old wants))
        (cases_eq r (mark s));
    back = λ r below. let o = h.back r below in (o.0, omega (arith, o.1), λ q. eval_grown (newer n still) o.0 q o.1 ∙ o.2 q);
  }

pub swept_right : (s : Store) → Sound s → (want : ℕ → Bool) → Right s want (swept s want)
unfolding swept
swept_right [] so want = record { sound = tt; moved = λ r below wants. record { below = below; tops = refl; same = λ q. refl }; back = λ r below. (r, below, λ q. refl) }
swept_right (n ∷ s) so want =
    cond_both (want (mark s)) (keep_node n (mark s) (swept s (wanted_parts n want))) (swept s want) (Right (n ∷ s) want)
    (λ e. keep_right n s so want (swept s (wanted_parts n want)) (swept_right s so.3 (wanted_parts n want)))
    (λ e. leave_right n s so want (swept s want) (swept_right s so.3 want) e)

swept_fewer : (s : Store) (want : ℕ → Bool) → length (swept s want).store ≤ length s
unfolding swept
swept_fewer [] want = omega arith
swept_fewer (n ∷ s) want =
    cond_both (want (mark s)) (keep_node n (mark s) (swept s (wanted_parts n want))) (swept s want) (λ w. length w.store ≤ length (n ∷ s))
    (λ e. omega (arith, swept_fewer s (wanted_parts n want)))
    (λ e. omega (arith, swept_fewer s want))

-- ---- the two steps

-- where the parts are older, a node wants nothing that is not
wanted_past : (n : Node) (s : Store) (want : ℕ → Bool) → Fits s n → (r : ℕ) → mark s ≤ r → cond (want (mark s)) (wanted_parts n want) want r ≡ want r
wanted_past n s want f r h = cond_both (want (mark s)) (wanted_parts n want) want (λ v. v r ≡ want r) (λ e. ⊎_elim
    (λ (t : want r ≡ true). or_left (want r) _ t ∙ sym t)
    (λ (t : want r ≡ false). or_from _ _ t (or_from _ _ (ne_eqb r n.low (λ is. omega (arith, f.low.below))) (ne_eqb r n.high (λ is. omega (arith, f.high.below)))) ∙ sym t)
    (cases_Bool (want r))) (λ e. refl)

reached_past : (s : Store) → Sound s → (want : ℕ → Bool) (r : ℕ) → mark s ≤ r → reached s want r ≡ want r
unfolding reached
reached_past [] so want r h = refl
reached_past (n ∷ s) so want r h = reached_past s so.3 _ r (omega arith) ∙ wanted_past n s want so.0 r (omega arith)

-- what is wanted is reached
pub reached_more : (s : Store) (want : ℕ → Bool) (r : ℕ) → want r ≡ true → reached s want r ≡ true
unfolding reached
reached_more [] want r e = e
reached_more (n ∷ s) want r e = reached_more s _ r (cond_both (want (mark s)) (wanted_parts n want) want (λ v. v r ≡ true) (λ t. or_left (want r) _ e) (λ t. e))

pub swept-packed : (s : Store) → Sound s → (want : ℕ → Bool) → swept s want ≡ packed s (reached s want)
unfolding swept reached packed
swept-packed [] so want = refl
swept-packed (n ∷ s) so want =
    let v : ℕ → Bool = cond (want (mark s)) (wanted_parts n want) want in
    let here : reached s v (mark s) ≡ want (mark s) = reached_past s so.3 v (mark s) (omega arith) ∙ wanted_past n s want so.0 (mark s) (omega arith) in
    let rest = swept-packed s so.3 v in
    ⊎_elim
    (λ (e : want (mark s) ≡ true).
    cond-true (want (mark s)) _ _ e ∙ ap (λ u. keep_node n (mark s) (swept s u)) (sym (cond-true (want (mark s)) (wanted_parts n want) want e))
    ∙ ap (keep_node n (mark s)) rest ∙ sym (cond-true (reached s v (mark s)) _ _ (here ∙ e)))
    (λ (e : want (mark s) ≡ false).
    cond-false (want (mark s)) _ _ e ∙ ap (swept s) (sym (cond-false (want (mark s)) (wanted_parts n want) want e))
    ∙ rest ∙ sym (cond-false (reached s v (mark s)) _ _ (here ∙ e)))
    (cases_Bool (want (mark s)))

-- below a bound only what is wanted there matters; leaves want nothing
pub reached_ext : (s : Store) (b : ℕ) → mark s ≤ b → (v w : ℕ → Bool) → ((r : ℕ) → 8 ≤ r → r < b → v r ≡ w r) → (r : ℕ) → 8 ≤ r → r < b → reached s v r ≡ reached s w r
unfolding reached
reached_ext [] b le v w e r lo hi = e r lo hi
reached_ext (n ∷ s) b le v w e r lo hi = reached_ext s b (omega arith) _ _
    (λ x low high. ap (λ t. cond t (wanted_parts n v) v x) (e (mark s) (omega arith) (omega arith)) ∙ elim (w (mark s)) as (λ t. cond t (wanted_parts n v) v x ≡ cond t (wanted_parts n w) w x) [
      | true ↦ ap (λ t. t || (eqb x n.low || eqb x n.high)) (e x low high)
      | false ↦ e x low high
    ])
    r lo hi

-- the parts of a node that is reached are reached
pub reached_parts : (ws : List ℕ) (fill : ℕ) → Sound (stored ws fill) → (want : ℕ → Bool) (k : ℕ) → k < fill → reached (stored ws fill) want (8 + k) ≡ true →
    (reached (stored ws fill) want (node_at ws k).low ≡ true) × (reached (stored ws fill) want (node_at ws k).high ≡ true)
unfolding reached stored
reached_parts ws zero so want k h e = absurd (omega arith)
reached_parts ws (suc m) so want k h e =
    let n : Node = node_at ws m in
    let s : Store = stored ws m in
    let v : ℕ → Bool = cond (want (mark s)) (wanted_parts n want) want in
    ⊎_elim
    (λ (is : k ≡ m).
    let at : 8 + k ≡ mark s = omega (arith, length-stored ws m) in
    let here : want (mark s) ≡ true = sym (wanted_past n s want so.0 (mark s) (omega arith)) ∙ sym (reached_past s so.3 v (mark s) (omega arith)) ∙ ap (reached s v) (sym at) ∙ e in
    let both = cond-true (want (mark s)) (wanted_parts n want) want here in
    let low : v n.low ≡ true = ap (λ u. u n.low) both ∙ wants_low n want in
    let high : v n.high ≡ true = ap (λ u. u n.high) both ∙ wants_high n want in
    rw is (reached_more s v n.low low, reached_more s v n.high high))
    (λ (ne : k ≡ m → ⊥). reached_parts ws m so.3 v k (omega arith) e)
    (cases_eq k m)

pub packed_ext : (s : Store) (b : ℕ) → mark s ≤ b → (v w : ℕ → Bool) → ((r : ℕ) → 8 ≤ r → r < b → v r ≡ w r) → packed s v ≡ packed s w
unfolding packed
packed_ext [] b le v w e = refl
packed_ext (n ∷ s) b le v w e =
    let here = e (mark s) (omega arith) (omega arith) in
    let rest = packed_ext s b (omega arith) v w e in
    λ i. cond (here i) (keep_node n (mark s) (rest i)) (rest i)

-- what has no node among those of the store keeps its number
pub packed_other : (s : Store) (keep : ℕ → Bool) (r : ℕ) → ((k : ℕ) → k < length s → r ≡ 8 + k → ⊥) → (packed s keep).renumber r ≡ r
unfolding packed
packed_other [] keep r other = refl
packed_other (n ∷ s) keep r other =
    let rest = packed_other s keep r (λ k h. other k (omega arith)) in
    cond_both (keep (mark s)) (keep_node n (mark s) (packed s keep)) (packed s keep) (λ w. w.renumber r ≡ r)
    (λ e. cond-false (eqb r (mark s)) _ _ (ne_eqb r (mark s) (other (length s) (omega arith))) ∙ rest)
    (λ e. rest)

-- ---- roots

pub wanted_at : (roots : List ℕ) (i : ℕ) → i < length roots → wanted roots (get_or roots i 0) ≡ true
wanted_at [] i h = absurd (omega arith)
wanted_at (x ∷ xs) zero h = or_left (eqb x x) _ (eq-eqb x x refl)
wanted_at (x ∷ xs) (suc i) h = or_right (eqb (get_or xs i 0) x) _ (wanted_at xs i (omega arith))

pub map_wanted : (f g : ℕ → ℕ) (roots : List ℕ) → ((r : ℕ) → wanted roots r ≡ true → f r ≡ g r) → map f roots ≡ map g roots
map_wanted f g [] e = refl
map_wanted f g (x ∷ xs) e = ap₂ (λ (y : ℕ) (ys : List ℕ). y ∷ ys) (e x (or_left (eqb x x) _ (eq-eqb x x refl))) (map_wanted f g xs (λ r h. e r (or_right (eqb r x) _ h)))

-- what becomes of the roots, and how many nodes are left
module _ (s : Store) (roots : List ℕ) (t : Store) (is : t ≡ (swept s (wanted roots)).store) where
  pub swept_moves : Sound s → (news : List ℕ) → news ≡ map (swept s (wanted roots)).renumber roots → Moves s t roots news
  swept_moves so news are i h =
      let w : Swept = swept s (wanted roots) in
      let r : ℕ = get_or roots i 0 in
      let at : get_or news i 0 ≡ w.renumber r = ap (λ xs. get_or xs i 0) are ∙ get_or-map w.renumber roots i 0 0 h in (
        (λ stands. rw (is, at) ((swept_right s so (wanted roots)).moved r stands (wanted_at roots i h))),
        (λ past. at ∙ ap (λ (p : Swept). p.renumber r) (swept-packed s so (wanted roots)) ∙ packed_other s _ r (λ k lt e. omega arith)),
      )

  pub swept_left : length t ≤ length s
  swept_left = omega (arith, ap length is, swept_fewer s (wanted roots))
