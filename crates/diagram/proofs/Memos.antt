-- What a memo keeps.
use Rattle.std.proofs.Common.{◌≡◌, ℕ, ◌+◌, ◌-◌, ◌*◌, ◌/◌, ◌%◌, ◌<◌, ◌≤◌, true, false, eqb, ltb, ◌≢◌, List, length, replicate, get_or, set, Some, None, sym, ap, ◌∙◌, ⊎_elim, arith, length-set, get_or-set_other, get_or-set_same}
use Rattle.std.proofs.lemmas.Bool.{cases_eq, cases_lt, cases_Bool, lt-ltb, le-ltb, cond-true, cond-false, cond_both, and_parts, eqb-true, eqb-false, eq-eqb, ne_eqb}
use Rattle.diagram.specs.Closing.{closed}
use Rattle.diagram.specs.Combining.{combined}
use Rattle.diagram.specs.Fixing.{fixed}
use Rattle.diagram.specs.Memo.{operation_of, alike, entries, operation_at, result_at, slot, recalled, written, noted, fix_key, close_key, built, Known, Entry, Remembers}
use Rattle.diagram.specs.declared.memo.Operation.{Operation}
use Rattle.diagram.specs.declared.rule.Rule.{Rule}
use Rattle.diagram.specs.Rules.{key_of, keyed, value_of}
use Rattle.diagram.specs.Store.{Store, mark, done, Sound, Grown, still}
use Rattle.diagram.proofs.Closes.{closes, closes_so}
use Rattle.diagram.proofs.Combines.{combines, combines_so}
use Rattle.diagram.proofs.Descents.{Descent, Descends, Ran, ran_at}
use Rattle.diagram.proofs.Fixes.{fixes, fixes_so}
use Rattle.diagram.proofs.Rulings.{by_keys, key_kind, keyed_leaves}
use Rattle.diagram.proofs.Spreads.{spread_below}
use Rattle.diagram.proofs.Stands.{grown_length, grown_sound}
use Rattle.diagram.proofs.Words.{zeros}

-- what the key of a rule stands for, of a fixed pair and of a closing
module _ (room : ℕ) (s : Store) (o : Operation) where
  built_rule : o.key < 536870912 → (o.key % 4 ≡ 0 → ⊥) → built room s o ≡ combined room s (keyed o.key) o.a o.b
  unfolding built
  built_rule lt ne = cond-true (ltb o.key 536870912) _ _ (lt-ltb _ _ lt) ∙ cond-false _ _ _ (ne_eqb _ _ ne)

  built_pair : o.key < 536870912 → o.key % 4 ≡ 0 → built room s o ≡ fixed room s (o.key / 4 - 1) o.a
  unfolding built
  built_pair lt e = cond-true (ltb o.key 536870912) _ _ (lt-ltb _ _ lt) ∙ cond-true _ _ _ (eq-eqb _ _ e)

  built_closing : 536870912 ≤ o.key → built room s o ≡ closed room s (keyed (o.key - 536870912)) o.a
  unfolding built
  built_closing ge = cond-false (ltb o.key 536870912) _ _ (le-ltb _ _ ge)

built_fix : (room : ℕ) (s : Store) (j a b : ℕ) → j < 48 → built room s (operation_of (fix_key j) a b) ≡ fixed room s j a
built_fix room s j a b small =
    let is : fix_key j / 4 - 1 ≡ j = omega arith in
    built_pair room s (operation_of (fix_key j) a b) (omega arith) (omega arith) ∙ ap (λ i. fixed room s i a) is

built_close : (room : ℕ) (s : Store) (key a b : ℕ) → built room s (operation_of (close_key key) a b) ≡ closed room s (keyed key) a
built_close room s key a b =
    let is : close_key key - 536870912 ≡ key = omega arith in
    built_closing room s (operation_of (close_key key) a b) (omega arith) ∙ ap (λ k. closed room s (keyed k) a) is

-- what stands in s is found again in t, whichever way it is built
stays : {X : Type 0} (d : Descent X) → Descends d → {s t : Store} (x : X) (r : ℕ) → Sound t → Grown s t → d.Stands s x → (room : ℕ) → d.build 48 room s x ≡ done s r → d.build 48 room t x ≡ done t r
stays d o {s} {t} x r so g st room e = (ran_at d o room s x (grown_sound g so) st s r e).stable room t g so

-- an entry stays true while the table grows
known_grown : {s t : Store} (o : Operation) (r : ℕ) → Sound t → Grown s t → Known s o r → Known t o r
unfolding combined fixed
known_grown {s} {t} o r so g k = (
  omega (arith, grown_length g, k.0),
  omega (arith, grown_length g, k.1),
  k.2,
  λ room. ⊎_elim
      (λ (lt : o.key < 536870912). ⊎_elim
      (λ (e : o.key % 4 ≡ 0).
      let le = k.2 e in
      let j : ℕ = o.key / 4 - 1 in
      let small : j < 48 = omega arith in
      built_pair room t o lt e ∙ stays (fixes j) (fixes_so j small) o.a r so g k.0 room (sym (built_pair room s o lt e) ∙ k.3 room))
      (λ (ne : o.key % 4 ≡ 0 → ⊥).
      built_rule room t o lt ne ∙ stays (combines (keyed o.key)) (combines_so (keyed o.key) (keyed_leaves o.key)) (o.a, o.b) r so g (k.0, k.1) room (sym (built_rule room s o lt ne) ∙ k.3 room))
      (cases_eq (o.key % 4) 0))
      (λ (ge : 536870912 ≤ o.key).
      let rule = o.key - 536870912 in
      built_closing room t o ge ∙ stays (closes (keyed rule)) (closes_so (keyed rule) (keyed_leaves rule)) o.a r so g k.0 room (sym (built_closing room s o ge) ∙ k.3 room))
      (cases_lt o.key 536870912),
)

pub remembers_grown : (s t : Store) (memo : List ℕ) → Sound t → Grown s t → Remembers s memo → Remembers t memo
remembers_grown s t memo so g m k h some = known_grown (operation_at memo k) (result_at memo k) so g (m k h some)

-- what was built just now is an entry of the store that it left, and an entry tells what building comes to
module _ (rule : Rule) {key : ℕ} (is : key ≡ key_of rule) where
  values : keyed key ≡ value_of rule
  values = ap keyed is ∙ by_keys rule

  no_pair : key % 4 ≡ 0 → ⊥
  no_pair e = key_kind rule (ap (λ k. k % 4) (sym is) ∙ e)

  pub known_combined : {s t : Store} (a b r : ℕ) → key < 536870912 → a < mark s → b < mark s → Ran (combines (value_of rule)) 48 s (a, b) t r → Known t (operation_of key a b) r
  unfolding combined
  known_combined {s} {t} a b r lt ha hb ran = (
    omega (arith, grown_length ran.grown),
    omega (arith, grown_length ran.grown),
    λ e. absurd (no_pair e),
    λ room. built_rule room t (operation_of key a b) lt no_pair ∙ ap (λ f. combined room t f a b) values ∙ ran.stable room t still ran.sound,
  )

  pub combined_known : {s : Store} {a b r : ℕ} → key < 536870912 → Known s (operation_of key a b) r → (room : ℕ) → combined room s (value_of rule) a b ≡ done s r
  combined_known {s} {a} {b} {r} lt k room = ap (λ f. combined room s f a b) (sym values) ∙ sym (built_rule room s (operation_of key a b) lt no_pair) ∙ k.3 room

  pub known_closed : {s t : Store} (a r : ℕ) → a < mark s → Ran (closes (value_of rule)) 48 s a t r → Known t (operation_of (close_key key) a 0) r
  known_closed {s} {t} a r ha ran = (
    omega (arith, grown_length ran.grown),
    omega arith,
    λ e. absurd (no_pair (omega arith)),
    λ room. built_close room t key a 0 ∙ ap (λ f. closed room t f a) values ∙ ran.stable room t still ran.sound,
  )

  pub closed_known : {s : Store} {a r : ℕ} → Known s (operation_of (close_key key) a 0) r → (room : ℕ) → closed room s (value_of rule) a ≡ done s r
  closed_known {s} {a} {r} k room = ap (λ f. closed room s f a) (sym values) ∙ sym (built_close room s key a 0) ∙ k.3 room

pub known_fixed : {s t : Store} (j a r : ℕ) → j < 48 → a < mark s → Ran (fixes j) 48 s a t r → Known t (operation_of (fix_key j) a 0) r
unfolding fixed
known_fixed {s} {t} j a r small ha ran =
    (omega (arith, grown_length ran.grown), omega arith, λ e. omega arith, λ room. built_fix room t j a 0 small ∙ ran.stable room t still ran.sound)

pub fixed_known : {s : Store} {j a r : ℕ} → j < 48 → Known s (operation_of (fix_key j) a 0) r → (room : ℕ) → fixed room s j a ≡ done s r
fixed_known {s} {j} {a} {r} small k room = sym (built_fix room s j a 0 small) ∙ k.3 room

-- a memo of zeros has no entry
pub remembers_none : (s : Store) (memo : List ℕ) (n : ℕ) → memo ≡ replicate n 0 → Remembers s memo
remembers_none s memo n e k h some = absurd (omega (arith, zeros memo n e (4 * k) (omega arith)))

entry_by : (s : Store) (o p : Operation) (r q : ℕ) → p ≡ o → q ≡ r → Entry s o r → Entry s p q
entry_by s o p r q e f h = rw (e, f) h

-- what writing an entry changes
module _ (memo : List ℕ) (k : ℕ) (o : Operation) (r : ℕ) where
  abbrev m₁ : List ℕ
  m₁ = set memo (4 * k) o.key

  abbrev m₂ : List ℕ
  m₂ = set m₁ (4 * k + 1) o.a

  abbrev m₃ : List ℕ
  m₃ = set m₂ (4 * k + 2) o.b

  past : (i : ℕ) → i ≢ 4 * k + 1 → i ≢ 4 * k + 2 → i ≢ 4 * k + 3 → get_or (written memo k o r) i 0 ≡ get_or m₁ i 0
  past i n₁ n₂ n₃ = get_or-set_other m₃ (4 * k + 3) i r 0 n₃ ∙ get_or-set_other m₂ (4 * k + 2) i o.b 0 n₂ ∙ get_or-set_other m₁ (4 * k + 1) i o.a 0 n₁

  other : (i : ℕ) → i ≢ 4 * k → i ≢ 4 * k + 1 → i ≢ 4 * k + 2 → i ≢ 4 * k + 3 → get_or (written memo k o r) i 0 ≡ get_or memo i 0
  other i n₀ n₁ n₂ n₃ = past i n₁ n₂ n₃ ∙ get_or-set_other memo (4 * k) i o.key 0 n₀

  other_entry : (j : ℕ) → j ≢ k → operation_at (written memo k o r) j ≡ operation_at memo j
  other_entry j ne =
      let word0 = other (4 * j) (omega arith) (omega arith) (omega arith) (omega arith) in
      let word1 = other (4 * j + 1) (omega arith) (omega arith) (omega arith) (omega arith) in
      let word2 = other (4 * j + 2) (omega arith) (omega arith) (omega arith) (omega arith) in
      λ i. operation_of (word0 i) (word1 i) (word2 i)

  this_entry : 4 * k + 4 ≤ length memo → operation_at (written memo k o r) k ≡ o
  this_entry fits =
      let word0 = past (4 * k) (omega arith) (omega arith) (omega arith) ∙ get_or-set_same memo (4 * k) o.key 0 (omega arith) in
      let word1 = get_or-set_other m₃ (4 * k + 3) (4 * k + 1) r 0 (omega arith) ∙ get_or-set_other m₂ (4 * k + 2) (4 * k + 1) o.b 0 (omega arith) ∙ get_or-set_same m₁ (4 * k + 1) o.a 0 (simp length-set (omega arith)) in
      let word2 = get_or-set_other m₃ (4 * k + 3) (4 * k + 2) r 0 (omega arith) ∙ get_or-set_same m₂ (4 * k + 2) o.b 0 (simp length-set (omega arith)) in
      λ i. operation_of (word0 i) (word1 i) (word2 i)

  written_known : 4 * k + 4 ≤ length memo → (s : Store) → Remembers s memo → Known s o r → Remembers s (written memo k o r)
  written_known fits s m new j h =
      let long : length (written memo k o r) ≡ length memo = simp length-set in
      ⊎_elim
      (λ (e : j ≡ k).
      entry_by s o _ r _ (ap (operation_at (written memo k o r)) e ∙ this_entry fits)
      (ap (result_at (written memo k o r)) e ∙ get_or-set_same m₃ (4 * k + 3) r 0 (simp length-set (omega arith))) (λ _. new))
      (λ (ne : j ≡ k → ⊥).
      entry_by s _ _ _ _ (other_entry j ne) (other (4 * j + 3) (omega arith) (omega arith) (omega arith) (omega arith)) (m j (omega (arith, long))))
      (cases_eq j k)

alike_is : (o p : Operation) → alike o p ≡ true → o ≡ p
alike_is o p e =
    let q = and_parts _ _ e in
    let r = and_parts _ _ q.1 in
    let key = eqb-true _ _ q.0 in
    let first = eqb-true _ _ r.0 in
    let second = eqb-true _ _ r.1 in
    λ i. operation_of (key i) (first i) (second i)

-- what is recalled is known
pub recalled_known : (s : Store) (memo : List ℕ) (o : Operation) (r : ℕ) → 0 < o.key → Remembers s memo → recalled memo o ≡ Some r → Known s o r
unfolding recalled
recalled_known s memo o r some m e =
    ⊎_elim
    (λ (z : eqb (entries memo) 0 ≡ true). absurd (never (sym (cond-true _ _ _ z) ∙ e)))
    (λ (z : eqb (entries memo) 0 ≡ false).
    let ne = eqb-false _ _ z in
    let rest = sym (cond-false (eqb (entries memo) 0) _ _ z) ∙ e in
    ⊎_elim
    (λ (y : alike (operation_at memo (slot memo o)) o ≡ true).
    let is : Some (result_at memo (slot memo o)) ≡ Some r = sym (cond-true _ _ _ y) ∙ rest in
    let er : r ≡ result_at memo (slot memo o) = cc in
    entry_by s _ o _ r (sym (alike_is _ _ y)) er (m (slot memo o) (spread_below (entries memo) o.key o.a o.b (omega arith))) some)
    (λ (y : alike (operation_at memo (slot memo o)) o ≡ false). absurd (never (sym (cond-false _ _ _ y) ∙ rest)))
    (cases_Bool (alike (operation_at memo (slot memo o)) o)))
    (cases_Bool (eqb (entries memo) 0))
  where
    never : None ≡ Some r → ⊥
    never n = let z : ◌≡◌ {A = ℕ} 0 1 = cc in omega arith

-- a memo with one more true entry
pub noted_known : (s : Store) (memo : List ℕ) (o : Operation) (r : ℕ) → Remembers s memo → Known s o r → Remembers s (noted memo o r)
unfolding noted
noted_known s memo o r m new =
    cond_both (eqb (entries memo) 0) memo (written memo (slot memo o) o r) (Remembers s)
    (λ _. m)
    (λ z.
    let ne = eqb-false _ _ z in
    let fits = spread_below (entries memo) o.key o.a o.b (omega arith) in
    written_known memo (slot memo o) o r (omega arith) s m new)

-- the ways of a look-up and of a new entry
module _ (memo : List ℕ) (o : Operation) where
  pub recalled_nowhere : entries memo ≡ 0 → None ≡ recalled memo o
  unfolding recalled
  recalled_nowhere e = sym (cond-true _ _ _ (eq-eqb _ _ e))

  pub noted_nowhere : (r : ℕ) → entries memo ≡ 0 → memo ≡ noted memo o r
  unfolding noted
  noted_nowhere r e = sym (cond-true _ _ _ (eq-eqb _ _ e))

  module _ (k : ℕ) (at : (k ≡ slot memo o) × (k < entries memo)) where
    some : entries memo ≡ 0 → ⊥
    some none = omega (arith, at.1)

    pub recalled_here : alike (operation_at memo k) o ≡ true → Some (result_at memo k) ≡ recalled memo o
    unfolding recalled
    recalled_here e =
        ap (λ i. Some (result_at memo i)) at.0
        ∙ sym (cond-true _ _ _ (ap (λ i. alike (operation_at memo i) o) (sym at.0) ∙ e))
        ∙ sym (cond-false (eqb (entries memo) 0) _ _ (ne_eqb _ _ some))

    pub recalled_other : alike (operation_at memo k) o ≡ false → None ≡ recalled memo o
    unfolding recalled
    recalled_other e =
        sym (cond-false _ _ _ (ap (λ i. alike (operation_at memo i) o) (sym at.0) ∙ e))
        ∙ sym (cond-false (eqb (entries memo) 0) _ _ (ne_eqb _ _ some))

    pub noted_here : (r : ℕ) → written memo k o r ≡ noted memo o r
    unfolding noted
    noted_here r = ap (λ i. written memo i o r) at.0 ∙ sym (cond-false (eqb (entries memo) 0) _ _ (ne_eqb _ _ some))
