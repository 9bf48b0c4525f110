-- What a file looks at: its own pairs, and nothing else.
use Rattle.std.proofs.Common.{◌≡◌, ℕ, zero, suc, ◌+◌, ◌<◌, ◌≤◌, Bool, true, false, cond, not, ◌&&◌, eqb, leb, List, [], ◌∷◌, refl, ap, ◌∙◌, arith, lit<}
use Rattle.policy.specs.declared.decision.Decision.{Decision}
use Rattle.policy.specs.declared.decision.Decision.TheVariants.{Deny, Allow, NotApplicable}
use Rattle.policy.specs.Values.{Digits, number, change, apply}
use Rattle.policy.specs.Queries.{Query, Agree}
use Rattle.policy.specs.Policies.{Attribute, Target, pair, altered, joined, Policy, always, changed, combined, guarded, Constraint, never_both, at_most, at_least, present_from, present, value, decides, meets, meets_all}
use Rattle.policy.specs.Commands.{are_digits}
use Rattle.policy.specs.Laws.{Has}
use Rattle.policy.proofs.Digits.{change_three, apply_three}

-- ---- trees over the pairs below n, with operators of digits 0, 1 and 2

pub data TargetOver (n : ℕ) : Target → Type 0 where
  pairs : {a : Attribute} {i : ℕ} → a.start + a.count ≤ n → Has a i → TargetOver n (pair a i)
  alters : {code : ℕ} {t : Target} → TargetOver n t → TargetOver n (altered code t)
  joins : {ds : Digits} {t u : Target} → are_digits ds ≡ true → TargetOver n t → TargetOver n u → TargetOver n (joined ds t u)

pub data PolicyOver (n : ℕ) : Policy → Type 0 where
  constant : {d : Decision} → PolicyOver n (always d)
  changes_over : {code : ℕ} {p : Policy} → PolicyOver n p → PolicyOver n (changed code p)
  combines_over : {ds : Digits} {p r : Policy} → are_digits ds ≡ true → PolicyOver n p → PolicyOver n r → PolicyOver n (combined ds p r)
  guards_over : {t : Target} {p : Policy} → TargetOver n t → PolicyOver n p → PolicyOver n (guarded t p)

pub data ConstraintOver (n : ℕ) : Constraint → Type 0 where
  excludes : {i j : ℕ} → i < n → j < n → ConstraintOver n (never_both i j)
  bounds_above : {a : Attribute} {k : ℕ} → a.start + a.count ≤ n → ConstraintOver n (at_most a k)
  bounds_below : {a : Attribute} {k : ℕ} → a.start + a.count ≤ n → ConstraintOver n (at_least a k)

pub data AllOver (n : ℕ) : List Constraint → Type 0 where
  no_more : AllOver n []
  and_so : {c : Constraint} {cs : List Constraint} → ConstraintOver n c → AllOver n cs → AllOver n (c ∷ cs)

-- ---- queries that agree below n are alike to them

module _ (n : ℕ) (p q : Query) (same : Agree n p q) where
  present_same : (s k : ℕ) → s + k ≤ n → present_from p s k ≡ present_from q s k
  unfolding present_from
  present_same s zero h = refl
  present_same s (suc k) h =
      let e = same s (omega arith) in
      let r = present_same (s + 1) k (omega arith) in
      ap (λ b. cond b 1 0 + present_from p (s + 1) k) e ∙ ap (λ m. cond (q s) 1 0 + m) r

  pub value_same : (t : Target) → TargetOver n t → value t p ≡ value t q
  unfolding value
  value_same (pair a i) (pairs w h) =
      let e = same i (let b = h.below in omega arith) in
      let r = present_same a.start a.count w in
      ap (λ b. cond b 1 (cond (eqb (present a p) 0) 2 0)) e ∙ ap (λ m. cond (q i) 1 (cond (eqb m 0) 2 0)) r
  value_same (altered code t) (alters o) = ap (change code) (value_same t o)
  value_same (joined ds t u) (joins d o r) = ap (λ a. apply ds a (value u p)) (value_same t o) ∙ ap (apply ds (value t q)) (value_same u r)

  pub decides_same : (x : Policy) → PolicyOver n x → decides x p ≡ decides x q
  unfolding decides
  decides_same (always d) constant = refl
  decides_same (changed code x) (changes_over o) = ap (change code) (decides_same x o)
  decides_same (combined ds x y) (combines_over d o r) = ap (λ a. apply ds a (decides y p)) (decides_same x o) ∙ ap (apply ds (decides x q)) (decides_same y r)
  decides_same (guarded t x) (guards_over o r) =
      ap (λ a. cond (eqb a 1) (decides x p) 2) (value_same t o) ∙ ap (λ a. cond (eqb (value t q) 1) a 2) (decides_same x r)

  meets_same : (c : Constraint) → ConstraintOver n c → meets c p ≡ meets c q
  unfolding meets
  meets_same (never_both i j) (excludes h k) = ap (λ b. not (b && p j)) (same i h) ∙ ap (λ b. not (q i && b)) (same j k)
  meets_same (at_most a k) (bounds_above w) = ap (λ m. leb m k) (present_same a.start a.count w)
  meets_same (at_least a k) (bounds_below w) = ap (λ m. leb k m) (present_same a.start a.count w)

  pub meets_all_same : (cs : List Constraint) → AllOver n cs → meets_all cs p ≡ meets_all cs q
  unfolding meets_all
  meets_all_same [] no_more = refl
  meets_all_same (c ∷ cs) (and_so o r) = ap (λ b. b && meets_all cs p) (meets_same c o) ∙ ap (λ b. meets c q && b) (meets_all_same cs r)

-- ---- every decision is 0, 1 or 2

pub decides_three : (n : ℕ) (x : Policy) (q : Query) → PolicyOver n x → decides x q < 3
unfolding decides
decides_three n (always Deny) q constant = lit< tt
decides_three n (always Allow) q constant = lit< tt
decides_three n (always NotApplicable) q constant = lit< tt
decides_three n (changed code x) q (changes_over o) = change_three code (decides x q)
decides_three n (combined ds x y) q (combines_over d o r) = apply_three ds (decides x q) (decides y q) d
decides_three n (guarded t x) q (guards_over o r) = by (eqb (value t q) 1) (decides_three n x q r)
  where
    by : (b : Bool) → decides x q < 3 → cond b (decides x q) 2 < 3
    by true h = h
    by false h = lit< tt

pub named : (v : ℕ) → v < 3 → (d : Decision) × (v ≡ number d)
named zero h = (Deny, refl)
named (suc zero) h = (Allow, refl)
named (suc (suc zero)) h = (NotApplicable, refl)
named (suc (suc (suc v))) h = absurd (omega arith)
