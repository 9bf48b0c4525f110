-- Extension, dependence and canonicity.
use Rattle.std.proofs.Common.{◌≡◌, ℕ, ◌<◌, ◌≤◌, Bool, true, false, cond, eqb, [], ◌∷◌, Some, sym, refl, ap, ◌∙◌, subst, ⊎_elim, arith}
use Rattle.std.proofs.lemmas.Bool.{eq-eqb, ne_eqb, cond-true, cond-false, cases_lt, cases_eq}
use Rattle.diagram.specs.declared.node.Node.{Node}
use Rattle.diagram.specs.Store.{Store, Query, put, mark, node_of, top, low_part, high_part, part, eval, found, Later, Fits, Sound, still, newer}
use Rattle.diagram.specs.Laws.{Extension, Dependence, Canonicity}
use Rattle.diagram.proofs.Stands.{top_grown, eval_grown, above, Parts, parts, pick, Standing, found_only}

pub extension : Extension
extension s t g r h = (top_grown g r h, λ q. eval_grown g r q h)

-- one node at the head
pub eval_new : (n : Node) (s : Store) (r : ℕ) (q : Query) → r ≡ mark s → eval (n ∷ s) r q ≡ eval s (part n q) q
eval_new n s r q e = cond-true (eqb r (mark s)) _ _ (eq-eqb r (mark s) e)

pub top_new : (n : Node) (s : Store) (r : ℕ) → r ≡ mark s → top (n ∷ s) r ≡ n.pair
top_new n s r e = cond-true (eqb r (mark s)) _ _ (eq-eqb r (mark s) e)

eval_old : (n : Node) (s : Store) (r : ℕ) (q : Query) → r < mark s → eval (n ∷ s) r q ≡ eval s r q
eval_old n s r q h = eval_grown (newer n still) r q h

part_later : (n : Node) (s : Store) (v : ℕ) (q : Query) → Later s v n.low → Later s v n.high → Later s v (part n q)
part_later n s v q l h = elim (q n.pair) as (λ b. Later s v (cond b n.high n.low)) [ true ↦ h | false ↦ l ]

pub dependence : Dependence
dependence [] so r h p q agree = refl
dependence (n ∷ s) so r h p q agree =
    ⊎_elim
    (λ (e : r ≡ mark s).
    let f = so.0 in
    let small = f.small in
    let t = top_new n s r e in
    let at = part_later n s n.pair q f.low f.high in
    let later = at.later in
    eval_new n s r p e ∙ ap (λ (b : Bool). eval s (cond b n.high n.low) p) (agree n.pair (omega (arith, t)) small)
    ∙ dependence s so.3 (part n q) at.below p q (λ i from below. agree i (omega (arith, t, later)) below)
    ∙ sym (eval_new n s r q e))
    (λ (ne : r ≡ mark s → ⊥).
    let older : r < mark s = omega arith in
    let t = top_grown (newer n still) r older in
    eval_old n s r p older ∙ dependence s so.3 r older p q (λ i from below. agree i (omega (arith, t)) below) ∙ sym (eval_old n s r q older))
    (cases_eq r (mark s))

-- a query comes to a leaf
pub eval_code : (s : Store) → Sound s → (r : ℕ) → r < mark s → (q : Query) → eval s r q < 8
eval_code [] so r h q = h
eval_code (n ∷ s) so r h q =
    let f = so.0 in
    ⊎_elim
    (λ (e : r ≡ mark s). subst (λ x. x < 8) (sym (eval_new n s r q e)) (eval_code s so.3 (part n q) (part_later n s n.pair q f.low f.high).below q))
    (λ (ne : r ≡ mark s → ⊥).
    let older : r < mark s = omega arith in
    subst (λ x. x < 8) (sym (eval_old n s r q older)) (eval_code s so.3 r older q))
    (cases_eq r (mark s))

pub put_same : (q : Query) (i : ℕ) (b : Bool) → put q i b i ≡ b
put_same q i b = cond-true _ _ _ (eq-eqb i i refl)

pub put_other : (q : Query) (i : ℕ) (b : Bool) (j : ℕ) → (j ≡ i → ⊥) → put q i b j ≡ q j
put_other q i b j h = cond-false _ _ _ (ne_eqb j i h)

-- a pair above the top does not matter
pub put_above : (s : Store) → Sound s → (v r : ℕ) → Later s v r → (q : Query) (b : Bool) → eval s r (put q v b) ≡ eval s r q
put_above s so v r l q b =
    let later = l.later in
    dependence s so r l.below (put q v b) q (λ i from below. put_other q v b i (λ e. omega arith))

-- the two parts of a node, as what it means with its pair put
side : (s : Store) → Sound s → (n : Node) → Later s n.pair n.low → Later s n.pair n.high →
    (q : Query) (b : Bool) → eval s (part n (put q n.pair b)) (put q n.pair b) ≡ eval s (cond b n.high n.low) q
side s so n l h q b =
    ap (λ (c : Bool). eval s (cond c n.high n.low) (put q n.pair b)) (put_same q n.pair b)
    ∙ elim b as (λ c. eval s (cond c n.high n.low) (put q n.pair b) ≡ eval s (cond c n.high n.low) q) [
      | true ↦ put_above s so n.pair n.high h q b
      | false ↦ put_above s so n.pair n.low l q b
    ]

-- the same of a reference that stands
pub part_at : (s : Store) → Sound s → (r : ℕ) → Parts s r → (q : Query) (b : Bool) → eval s r (put q (top s r) b) ≡ eval s (cond b (high_part s r) (low_part s r)) q
part_at s so r p q b =
    p.means (put q (top s r) b) ∙ sym (pick s (put q (top s r) b (top s r)) (high_part s r) (low_part s r) (put q (top s r) b))
    ∙ side s so (node_of (top s r) (low_part s r) (high_part s r)) p.low p.high q b

module _ (n : Node) (s : Store) (f : Fits s n) (apart : n.low ≡ n.high → ⊥) (new : (r : ℕ) → found s n ≡ Some r → ⊥) (so : Sound s)
    (one : (a b : ℕ) → a < mark s → b < mark s → ((q : Query) → eval s a q ≡ eval s b q) → a ≡ b) where
  -- no older reference evaluates as the new node
  apart_new : (b : ℕ) → b < mark s → ((q : Query) → eval s (part n q) q ≡ eval s b q) → ⊥
  apart_new b h eq =
      ⊎_elim
      (λ (over : n.pair < top s b).
      let l : Later s n.pair b = record { below = h; later = over } in
      apart (one _ _ f.low.below f.high.below (λ q. sym (of q false) ∙ put_above s so n.pair b l q false ∙ sym (put_above s so n.pair b l q true) ∙ of q true)))
      (λ (under : top s b ≤ n.pair).
      let small = f.small in
      inner under (omega arith) (parts s so b h (omega arith)))
      (cases_lt n.pair (top s b))
    where
      -- the reference b, with the new node's pair put, is the new node's part
      of : (q : Query) (c : Bool) → eval s b (put q n.pair c) ≡ eval s (cond c n.high n.low) q
      of q c = sym (eq (put q n.pair c)) ∙ side s so n f.low f.high q c

      inner : top s b ≤ n.pair → top s b < 48 → Parts s b → ⊥
      inner under small p =
          let m : Node = node_of (top s b) (low_part s b) (high_part s b) in
          ⊎_elim
          (λ (e : n.pair ≡ top s b).
          let part_of : (q : Query) (c : Bool) → eval s (cond c n.high n.low) q ≡ eval s (cond c m.high m.low) q =
          λ q c. sym (of q c) ∙ ap (λ (v : ℕ). eval s b (put q v c)) e ∙ of_m q c in
          let el = one _ _ f.low.below p.low.below (λ q. part_of q false) in
          let eh = one _ _ f.high.below p.high.below (λ q. part_of q true) in
          let is : n ≡ m = λ i. node_of (e i) (el i) (eh i) in
          let st : Standing s m b = record { below = h; node = above s b small; pairs = refl; lows = refl; highs = refl } in
          new b (ap (found s) is ∙ found_only s so m b st))
          (λ (ne : n.pair ≡ top s b → ⊥). p.apart (one _ _ p.low.below p.high.below (λ q. sym (of_m q false) ∙ flat ne q false ∙ sym (flat ne q true) ∙ of_m q true)))
          (cases_eq n.pair (top s b))
        where
          of_m : (q : Query) (c : Bool) → eval s b (put q (top s b) c) ≡ eval s (cond c (high_part s b) (low_part s b)) q
          of_m = part_at s so b p

          over : (v x : ℕ) → v < n.pair → Later s n.pair x → Later s v x
          over v x lt l = record { below = l.below; later = omega (arith, l.later) }

          flat : (ne : n.pair ≡ top s b → ⊥) (q : Query) (c : Bool) → eval s b (put q (top s b) c) ≡ eval s (part n q) q
          flat ne q c =
              let w : top s b < n.pair = omega arith in
              sym (eq (put q (top s b) c)) ∙ ap (λ (d : Bool). eval s (cond d n.high n.low) (put q (top s b) c)) (put_other q (top s b) c n.pair ne)
              ∙ put_above s so (top s b) (part n q) (part_later n s (top s b) q (over _ _ w f.low) (over _ _ w f.high)) q c

pub canonical_one : (s : Store) → Sound s → (a b : ℕ) → a < mark s → b < mark s → ((q : Query) → eval s a q ≡ eval s b q) → a ≡ b
canonical_one [] so a b ha hb eq = eq (λ i. true)
canonical_one (n ∷ s) so a b ha hb eq =
    let differs : (c : ℕ) → c < mark s → ((q : Query) → eval s (part n q) q ≡ eval s c q) → ⊥ = apart_new n s so.0 so.1 so.2 so.3 (canonical_one s so.3) in
    ⊎_elim
    (λ (ea : a ≡ mark s). ⊎_elim
    (λ (eb : b ≡ mark s). ea ∙ sym eb)
    (λ (nb : b ≡ mark s → ⊥).
    let ob : b < mark s = omega arith in
    absurd (differs b ob (λ q. sym (eval_new n s a q ea) ∙ eq q ∙ eval_old n s b q ob)))
    (cases_eq b (mark s)))
    (λ (na : a ≡ mark s → ⊥).
    let oa : a < mark s = omega arith in
    ⊎_elim
    (λ (eb : b ≡ mark s). absurd (differs a oa (λ q. sym (eval_new n s b q eb) ∙ sym (eq q) ∙ eval_old n s a q oa)))
    (λ (nb : b ≡ mark s → ⊥).
    let ob : b < mark s = omega arith in
    canonical_one s so.3 a b oa ob (λ q. sym (eval_old n s a q oa) ∙ eq q ∙ eval_old n s b q ob))
    (cases_eq b (mark s)))
    (cases_eq a (mark s))

pub canonicity : Canonicity
canonicity s so a b ha hb = (λ e q. ap (λ (r : ℕ). eval s r q) e, canonical_one s so a b ha hb)
