-- The target of a pair.
use Rattle.std.proofs.Common.{◌≡◌, ℕ, zero, suc, ◌+◌, ◌-◌, ◌<◌, ◌≤◌, Bool, true, false, cond, eqb, ltb, sym, refl, ap, ◌∙◌, ap₂, add-zero, zero-add, arith}
use Rattle.std.proofs.lemmas.Bool.{cond_both, cond-false, ltb-false, ne_eqb}
use Rattle.diagram.specs.Store.{Store, Query, node_of, eval, done, made, Sound, still}
use Rattle.diagram.proofs.Builds.{Holds, bind_holds, holds_by}
use Rattle.diagram.proofs.Makes.{Made}
use Rattle.diagram.proofs.Stands.{grown_trans, eval_grown, eval_leaf}
use Rattle.policy.specs.Policies.{Attribute, pair, value, present_from}
use Rattle.bench.specs.Building.{From, chain, earlier, target}
use Rattle.bench.proofs.Present.{present_split, present_last, present_none}
use Rattle.bench.proofs.Yielding.{Yields, yields_as, yields_from, from_grown, from_earlier, leaf_from, node_over}

-- a where none of so many pairs is present, else h
abbrev pub unless : ℕ → ℕ → ℕ → ℕ
unless present a h = cond (eqb present 0) a h

some : (n a h : ℕ) → 0 < n → unless n a h ≡ h
some n a h lt = cond-false _ _ _ (ne_eqb n 0 (λ e. omega arith))

unless_more : (n : ℕ) (b : Bool) (a h : ℕ) → unless n (cond b h a) h ≡ unless (n + cond b 1 0) a h
unless_more zero true a h = refl
unless_more zero false a h = refl
unless_more (suc n) true a h = some (suc n) h h (omega arith) ∙ sym (some (suc n + 1) a h (omega arith))
unless_more (suc n) false a h = rw add-zero

pub chain_holds : (k j room : ℕ) (s : Store) (a h : ℕ) → Sound s → j + k ≤ 48 → From s (j + k) a → From s (j + k) h →
    Holds (Yields s j (λ q. unless (present_from q j k) (eval s a q) (eval s h q))) (chain room s j k a h)
unfolding chain
chain_holds zero j room s a h so small fa fh =
    record { grown = still; sound = so; below = fa.below; later = omega (arith, fa.later); means = λ q. ap (λ n. unless n (eval s a q) (eval s h q)) (sym (present_none q j)) }
chain_holds (suc k) j room s a h so small fa fh =
    bind_holds (Made s (node_of (j + k) a h)) (Yields s j _) (made room s (node_of (j + k) a h)) _
    (node_over room s (j + k) (j + suc k) a h so (omega arith) small fa fh)
    (λ t x m. holds_by (Yields t j _) (Yields s j _) (chain room t j k x h)
    (chain_holds k j room t x h m.sound (omega arith) (record { below = m.below; later = m.later }) (from_earlier (omega arith) (from_grown m.grown fh)))
    (λ u y. yields_as m.grown (omega arith) (λ q.
    ap₂ (unless (present_from q j k)) (m.means q) (eval_grown m.grown h q fh.below)
    ∙ unless_more (present_from q j k) (q (j + k)) (eval s a q) (eval s h q)
    ∙ ap (λ n. unless n (eval s a q) (eval s h q)) (sym (present_last q j k)))))

-- the pairs before i
pub earlier_holds : (room : ℕ) (s : Store) (start i a : ℕ) → Sound s → start ≤ i → i < 48 → From s i a →
    Holds (Yields s start (λ q. unless (present_from q start (i - start)) (eval s a q) (cond (q i) 1 0))) (earlier room s start i a)
unfolding earlier
earlier_holds room s start i a so from small fa =
    cond_both (ltb start i) _ (done s a) (Holds (Yields s start _))
    (λ _. bind_holds (Made s (node_of i 0 1)) (Yields s start _) (made room s (node_of i 0 1)) _
    (node_over room s i 48 0 1 so small (omega arith) (leaf_from s 48 0 (omega arith) (omega arith)) (leaf_from s 48 1 (omega arith) (omega arith)))
    (λ t o m. holds_by (Yields t start _) (Yields s start _) (chain room t start (i - start) a o)
    (chain_holds (i - start) start room t a o m.sound (omega arith) (from_earlier (omega arith) (from_grown m.grown fa)) (from_earlier (omega arith) (record { below = m.below; later = m.later })))
    (λ u x. yields_as m.grown (omega arith) (λ q.
    ap₂ (unless (present_from q start (i - start))) (eval_grown m.grown a q fa.below) (m.means q ∙ ap₂ (cond (q i)) (eval_leaf s 1 q (omega arith)) (eval_leaf s 0 q (omega arith)))))))
    (λ e.
    let none : i - start ≡ 0 = omega (arith, ltb-false start i e) in
    record {
      grown = still;
      sound = so;
      below = fa.below;
      later = omega (arith, fa.later);
      means = λ q. ap (λ n. unless n (eval s a q) (cond (q i) 1 0)) (sym (ap (present_from q start) none ∙ present_none q start));
    })

-- the value of a pair, by the pairs before it, the pair itself and the pairs after it
pub by_parts : (m : Bool) (before after : ℕ) → unless before (cond m 1 (unless after 2 0)) (cond m 1 0) ≡ cond m 1 (unless (before + (cond m 1 0 + after)) 2 0)
by_parts true zero after = refl
by_parts true (suc b) after = some (suc b) 1 1 (omega arith)
by_parts false zero after = rw (zero-add (0 + after), zero-add after)
by_parts false (suc b) after = some (suc b) (unless after 2 0) 0 (omega arith) ∙ sym (some (suc b + (0 + after)) 2 0 (omega arith))

module _ (a : Attribute) (i : ℕ) (from : a.start ≤ i) (to : i < a.start + a.count) where
  value_is : (q : Query) → value (pair a i) q ≡ unless (present_from q a.start (i - a.start)) (cond (q i) 1 (unless (present_from q (i + 1) (a.start + a.count - (i + 1))) 2 0)) (cond (q i) 1 0)
  unfolding value present_from
  value_is q =
      let before = i - a.start in
      let after = a.start + a.count - (i + 1) in
      let size : a.count ≡ before + suc after = omega arith in
      let here : a.start + before ≡ i = omega arith in
      ap (λ n. cond (q i) 1 (unless n 2 0)) (ap (present_from q a.start) size ∙ present_split q a.start before (suc after) ∙ ap (λ j. present_from q a.start before + present_from q j (suc after)) here)
      ∙ sym (by_parts (q i) (present_from q a.start before) (present_from q (i + 1) after))

  pub target_holds : (room : ℕ) (s : Store) → Sound s → a.start + a.count ≤ 48 → Holds (Yields s a.start (value (pair a i))) (target room s a.start a.count i)
  unfolding target
  target_holds room s so small =
      let after = a.start + a.count - (i + 1) in
      bind_holds (Yields s (i + 1) _) (Yields s a.start _) (chain room s (i + 1) after 2 0) _
      (chain_holds after (i + 1) room s 2 0 so (omega arith) (leaf_from s _ 2 (omega arith) (omega arith)) (leaf_from s _ 0 (omega arith) (omega arith)))
      (λ t x c. bind_holds (Made t (node_of i x 1)) (Yields s a.start _) (made room t (node_of i x 1)) _
      (node_over room t i (i + 1) x 1 c.sound (omega arith) (omega arith) (yields_from c) (leaf_from t (i + 1) 1 (omega arith) (omega arith)))
      (λ u y m. holds_by (Yields u a.start _) (Yields s a.start _) (earlier room u a.start i y)
      (earlier_holds room u a.start i y m.sound from (omega arith) (record { below = m.below; later = m.later }))
      (λ w r. yields_as (grown_trans c.grown m.grown) (omega arith) (λ q.
      ap (λ n. unless (present_from q a.start (i - a.start)) n (cond (q i) 1 0))
      (m.means q ∙ ap₂ (cond (q i)) (eval_leaf t 1 q (omega arith)) (c.means q ∙ ap₂ (unless (present_from q (i + 1) after)) (eval_leaf s 2 q (omega arith)) (eval_leaf s 0 q (omega arith))))
      ∙ sym (value_is q)))))
