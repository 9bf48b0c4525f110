-- Every file that reads well keeps the laws.
use Rattle.std.proofs.Common.{◌≡◌, ℕ, zero, suc, ◌+◌, ◌<◌, ◌≤◌, true, false, cond, ◌&&◌, eqb, List, [], ◌∷◌, length, sym, refl, ap, ◌∙◌, subst, arith}
use Rattle.std.proofs.lemmas.Bool.{cond-true, cond-false, and_parts, and_from, eq-eqb, eqb-true}
use Rattle.policy.specs.declared.decision.Decision.{Decision}
use Rattle.policy.specs.Values.{number, change}
use Rattle.policy.specs.Queries.{Query, Agree}
use Rattle.policy.specs.Policies.{Attribute, pair, altered, File, present_from, value, valid, decision}
use Rattle.policy.specs.Extended.{Extended, valid_with, is_listed}
use Rattle.policy.specs.Reading.{Progress, Stop, stopped, ended, scan_file, unopened, reads, read_as, file_of, well, commands_of, stack_of, as_policy, top}
use Rattle.policy.specs.Laws.{Has, Missing, Lawful, OnePolicy, LawfullyRead}
use Rattle.policy.proofs.Dependence.{PolicyOver, AllOver, decides_same, meets_all_same, decides_three, named}
use Rattle.policy.proofs.Enumeration.{finds, tried, below_of, below_agrees, just_below}
use Rattle.policy.proofs.Files.{ReadsTo, scan_reads_to, ends_with_one, none, empty, Built, builds, Single, single}

-- ---- a missing attribute

none_present : (q : Query) (s k : ℕ) → ((i : ℕ) → s ≤ i → i < s + k → q i ≡ false) → present_from q s k ≡ 0
unfolding present_from
none_present q s zero h = refl
none_present q s (suc k) h =
    let e = h s (omega arith) (omega arith) in
    let r = none_present q (s + 1) k (λ i l u. h i (omega arith) (omega arith)) in
    ap (λ b. cond b 1 0 + present_from q (s + 1) k) e ∙ ap (λ m. 0 + m) r

missing_two : (a : Attribute) (i : ℕ) (q : Query) → Has a i → Missing a q → value (pair a i) q ≡ 2
unfolding value
missing_two a i q h m =
    let e = none_present q a.start a.count (λ j l u. m j (record { from = l; below = u })) in
    cond-false _ _ _ (m i h) ∙ cond-true _ _ _ (eq-eqb _ _ e)

negated_two : (a : Attribute) (i : ℕ) (q : Query) → Has a i → Missing a q → value (altered 0 (pair a i)) q ≡ 2
unfolding value change
negated_two a i q h m = ap (change 0) (missing_two a i q h m)

-- ---- a file over its own pairs

module _ (f : File) (policy : PolicyOver f.pairs f.policy) (constraints : AllOver f.pairs f.constraints) where
  decided_alike : (p q : Query) → Agree f.pairs p q → decision f p ≡ decision f q
  decided_alike p q s = decides_same f.pairs p q s f.policy policy

  valid_alike : (p q : Query) → Agree f.pairs p q → valid f p ≡ valid f q
  valid_alike p q s = meets_all_same f.pairs p q s f.constraints constraints

  with_alike : (d : Decision) (p q : Query) → Agree f.pairs p q → valid_with f d p ≡ valid_with f d q
  with_alike d p q s = ap (λ b. b && eqb (decision f p) (number d)) (valid_alike p q s) ∙ ap (λ v. valid f q && eqb v (number d)) (decided_alike p q s)

  listed_then : (q : Query) (d : Decision) → is_listed f q d ≡ true → Extended f q d
  listed_then q d e =
      let g = finds f.pairs (valid_with f d) q e in
      let both = and_parts _ _ g.passes in
      record { later = g.later; contains = λ i h t. g.contains i t; holds = both.0; decides = eqb-true _ _ both.1 }

  then_listed : (q : Query) (d : Decision) → Extended f q d → is_listed f q d ≡ true
  then_listed q d x =
      let p = x.later in
      let b = below_of f.pairs p q in
      let passes : valid_with f d p ≡ true = and_from _ _ x.holds (eq-eqb _ _ x.decides) in
      tried (valid_with f d) (λ u v s. with_alike d u v (λ i h. s i)) f.pairs q b (just_below f.pairs q p x.contains) (sym (with_alike d p b (below_agrees f.pairs p q)) ∙ passes)

  pub file_lawful : Lawful f
  file_lawful = record {
    decision_by_pairs = decided_alike;
    valid_by_pairs = valid_alike;
    decided = λ q. named (decision f q) (decides_three f.pairs f.policy q policy);
    missing_no_match = λ a i q h m e. let two = missing_two a i q h m in let z : ◌≡◌ {A = ℕ} 2 1 = sym two ∙ e in omega arith;
    missing_not_negated = λ a i q h m e. let two = negated_two a i q h m in let z : ◌≡◌ {A = ℕ} 2 1 = sym two ∙ e in omega arith;
    telling_less_lists_more = λ q p d v w c x. record { later = x.later; contains = λ i h t. x.contains i h (c i h t); holds = x.holds; decides = x.decides };
    own_decision_listed = λ q d v e. record { later = q; contains = λ i h t. t; holds = v; decides = e };
    listed_exactly = λ q d. (listed_then q d, then_listed q d);
  }

-- ---- a file that was read

-- the bytes come to an end at l
module _ (file : List ℕ) (l : Progress) (e : (scan_file file).stop ≡ ended l) where
  reading : ReadsTo file unopened 5 (commands_of file) l
  unfolding scan_file
  reading = scan_reads_to (suc (length file)) unopened file 5 l e

  built : Built l.context.pairs unopened.context [] (commands_of file) l
  built = builds l.context.pairs [] reading (omega arith) (record { chained = none; digits = refl }) empty

  one : Single l.context.pairs (stack_of unopened.context (commands_of file) [])
  one = single built.stack (ends_with_one reading)

  the_policy : top (stack_of unopened.context (commands_of file) []) ≡ one.policy
  the_policy = ap top one.is

  read_lawful : Lawful (file_of (commands_of file) l.context)
  read_lawful = file_lawful (file_of (commands_of file) l.context) (subst (PolicyOver l.context.pairs) (sym the_policy) one.over) built.constraints

  read_one : OnePolicy file (file_of (commands_of file) l.context)
  read_one = record { one = one.is ∙ ap (λ p. as_policy p ∷ []) (sym the_policy) }

-- what holds of the file that the bytes come to holds of the file that they read to
by_reading : (P : File → Type 0) (file : List ℕ) → ((l : Progress) → (scan_file file).stop ≡ ended l → P (file_of (commands_of file) l.context)) →
    (f : File) → reads file ≡ well f → P f
by_reading P file h f e = by (scan_file file).stop refl e
  where
    by : (s : Stop) → (scan_file file).stop ≡ s → read_as (commands_of file) s ≡ well f → P f
    by (stopped n p) t e = absurd (let z : ◌≡◌ {A = ℕ} 0 1 = cc in omega arith)
    by (ended l) t e = let same : file_of (commands_of file) l.context ≡ f = cc in subst P same (h l t)

pub lawfully_read : (file : List ℕ) → LawfullyRead file
lawfully_read file = record { lawful = by_reading Lawful file (read_lawful file); one_policy = by_reading (OnePolicy file) file (read_one file) }
