-- The file that commands stand for: its declarations hang together, and its stack ends with one policy.
use Rattle.std.proofs.Common.{◌≡◌, ℕ, zero, suc, ◌+◌, ◌-◌, ◌<◌, ◌≤◌, Bool, true, false, cond, ltb, leb, List, [], ◌∷◌, ◌++◌, get_or, Some, None, unwrap_or, sym, refl, ap, subst, arith}
use Rattle.std.specs.List.{list_all}
use Rattle.std.proofs.lemmas.Bool.{and_parts, ltb-true, ltb-false, false≢true}
use Rattle.policy.specs.declared.kind.Kind.{Kind}
use Rattle.policy.specs.declared.kind.Kind.TheVariants as kind
use Rattle.policy.specs.Values.{standard, digits_of}
use Rattle.policy.specs.Policies.{Attribute, Target, Policy, Constraint}
use Rattle.policy.specs.Commands.{Command, attribute, operator, restrict, act, Restriction, exclusion, most, least, Action, push_pair, push, change, combine, guard, end, Context, allowed, acts, restricts, turns, one_item, two_alike, guarding, kinds_after, is_end, one_policy, declares, nobody, are_digits}
use Rattle.policy.specs.Reading.{Progress, Step, refused, took, step, ended, before, goes_on, scan, constraint, constrains, constraints_of, Item, as_target, as_policy, attribute_with, changes, combines, guards, does, puts, stack_of}
use Rattle.policy.specs.Laws.{Has}
use Rattle.policy.proofs.Scans.{Takes, step_takes}
use Rattle.policy.proofs.Digits.{digits_at, digits_push, standard_digits}
use Rattle.policy.proofs.Dependence.{TargetOver, pairs, alters, joins, PolicyOver, constant, changes_over, combines_over, guards_over, ConstraintOver, excludes, bounds_above, bounds_below, AllOver, no_more, and_so}

-- ---- a reading that comes to the end, command by command

pub data ReadsTo (file : List ℕ) : Progress → ℕ → List Command → Progress → Type 0 where
  at_end : {k k' : Progress} {p q : ℕ} {c : Command} → Takes k file p c k' q → is_end c ≡ true → ReadsTo file k p (c ∷ []) k'
  on : {k k' l : Progress} {p q : ℕ} {c : Command} {cs : List Command} → Takes k file p c k' q → ReadsTo file k' q cs l → ReadsTo file k p (c ∷ cs) l

pub scan_reads_to : (n : ℕ) (k : Progress) (file : List ℕ) (p : ℕ) (l : Progress) → (scan n k file p).stop ≡ ended l → ReadsTo file k p (scan n k file p).commands l
unfolding scan
scan_reads_to zero k file p l e = absurd (let z : ◌≡◌ {A = ℕ} 0 1 = cc in omega arith)
scan_reads_to (suc n) k file p l e = by (step k file p) refl e (λ k' q. scan_reads_to n k' file q l)
  where
    last : (c : Command) (k' : Progress) (q : ℕ) → took c k' q ≡ step k file p → (t : Bool) → is_end c ≡ t →
        (cond t (record { commands = c ∷ []; stop = ended k' }) (before c (scan n k' file q))).stop ≡ ended l →
        ((scan n k' file q).stop ≡ ended l → ReadsTo file k' q (scan n k' file q).commands l) →
        ReadsTo file k p (cond t (record { commands = c ∷ []; stop = ended k' }) (before c (scan n k' file q))).commands l
    last c k' q s true t e rest =
        let same : k' ≡ l = cc in
        subst (λ (x : Progress). ReadsTo file k p (c ∷ []) x) same (at_end (step_takes k file p c k' q s) t)
    last c k' q s false t e rest = on (step_takes k file p c k' q s) (rest e)

    by : (s : Step) → s ≡ step k file p → (goes_on s (λ k' q. scan n k' file q)).stop ≡ ended l →
        ((k' : Progress) (q : ℕ) → (scan n k' file q).stop ≡ ended l → ReadsTo file k' q (scan n k' file q).commands l) →
        ReadsTo file k p (goes_on s (λ k' q. scan n k' file q)).commands l
    by (refused m q) s e rest = absurd (let z : ◌≡◌ {A = ℕ} 0 1 = cc in omega arith)
    by (took c k' q) s e rest = last c k' q s (is_end c) refl e (rest k' q)

pub ends_with_one : {file : List ℕ} {k l : Progress} {p : ℕ} {cs : List Command} → ReadsTo file k p cs l → one_policy l.kinds ≡ true
ends_with_one (at_end t e) = t.last e
ends_with_one (on t r) = ends_with_one r

declares_more : (c : Command) (x : Context) → x.pairs ≤ (declares c x).pairs
declares_more (attribute name count) x = omega arith
declares_more (operator ds) x = omega arith
declares_more (restrict r) x = omega arith
declares_more (act a) x = omega arith

pub pairs_grow : {file : List ℕ} {k l : Progress} {p : ℕ} {cs : List Command} → ReadsTo file k p cs l → k.context.pairs ≤ l.context.pairs
pairs_grow {k = k} (at_end {c = c} t e) = let m = declares_more c k.context in let s = ap (λ (x : Context). x.pairs) t.declared in omega arith
pairs_grow {k = k} (on {c = c} t r) = let m = declares_more c k.context in let s = ap (λ (x : Context). x.pairs) t.declared in let g = pairs_grow r in omega arith

-- ---- declarations

-- attributes whose pairs come one after the other, from s up to e
pub data Chained : ℕ → List Attribute → ℕ → Type 0 where
  none : {s : ℕ} → Chained s [] s
  link : {a : Attribute} {ats : List Attribute} {e : ℕ} → Chained (a.start + a.count) ats e → Chained a.start (a ∷ ats) e

chained_rises : {s e : ℕ} {ats : List Attribute} → Chained s ats e → s ≤ e
chained_rises none = omega arith
chained_rises (link c) = let h = chained_rises c in omega arith

chained_push : {s e : ℕ} {ats : List Attribute} (name : List ℕ) (count : ℕ) → Chained s ats e → Chained s (ats ++ (record { name = name; start = e; count = count } ∷ [])) (e + count)
chained_push name count none = link none
chained_push name count (link c) = link (chained_push name count c)

-- the attribute with a number ends where the chain does, or before
chained_at : {s e : ℕ} {ats : List Attribute} (j : ℕ) → Chained s ats e → (get_or ats j nobody).start + (get_or ats j nobody).count ≤ e
chained_at j none = omega arith
chained_at zero (link c) = chained_rises c
chained_at (suc j) (link c) = chained_at j c

-- an attribute of the pair i, which ends at n or before
pub record AttributeOver (n i : ℕ) (a : Attribute) : Type 0 where
  pub within : a.start + a.count ≤ n
  pub has : Has a i

chained_with : {s e : ℕ} {ats : List Attribute} (i : ℕ) → Chained s ats e → s ≤ i → i < e → AttributeOver e i (unwrap_or (attribute_with ats i) nobody)
chained_with i none h w = absurd (omega arith)
chained_with {e = e} i (link {a = a} {ats = ats} c) h w = by (ltb i (a.start + a.count)) refl (chained_with i c)
  where
    by : (t : Bool) → ltb i (a.start + a.count) ≡ t → (a.start + a.count ≤ i → i < e → AttributeOver e i (unwrap_or (attribute_with ats i) nobody)) →
        AttributeOver e i (unwrap_or (cond t (Some a) (attribute_with ats i)) nobody)
    by true t rest = record { within = chained_rises c; has = record { from = h; below = ltb-true _ _ t } }
    by false t rest = rest (ltb-false _ _ t) w

pub record Sound (x : Context) : Type 0 where
  pub chained : Chained 0 x.attributes x.pairs
  pub digits : list_all are_digits x.operators ≡ true

pub declares_sound : (c : Command) (x : Context) → allowed x c ≡ true → Sound x → Sound (declares c x)
declares_sound (attribute name count) x a s = record { chained = chained_push name count s.chained; digits = s.digits }
declares_sound (operator ds) x a s = record { chained = s.chained; digits = digits_push x.operators ds s.digits (and_parts _ _ a).0 }
declares_sound (restrict r) x a s = s
declares_sound (act b) x a s = s

operator_digits : (x : Context) (code : ℕ) → Sound x → are_digits (digits_of x.operators code) ≡ true
unfolding digits_of
operator_digits x code s = by (leb 0x20 code)
  where
    by : (b : Bool) → are_digits (cond b (get_or x.operators (code - 0x20) []) (get_or standard (code - 0x10) [])) ≡ true
    by true = digits_at x.operators (code - 0x20) s.digits
    by false = digits_at standard (code - 0x10) standard_digits

-- ---- the stack

-- items over the pairs below n, and their kinds
pub data Stacked (n : ℕ) : List Item → List Kind → Type 0 where
  empty : Stacked n [] []
  on_target : {t : Target} {s : List Item} {ks : List Kind} → TargetOver n t → Stacked n s ks → Stacked n (as_target t ∷ s) (kind.Target ∷ ks)
  on_policy : {r : Policy} {s : List Item} {ks : List Kind} → PolicyOver n r → Stacked n s ks → Stacked n (as_policy r ∷ s) (kind.Policy ∷ ks)

-- the same stack under kinds that are known by an equation
moved : {n : ℕ} {s : List Item} {ks ls : List Kind} → Some ks ≡ Some ls → Stacked n s ks → Stacked n s ls
moved {n = n} {s = s} {ks = ks} {ls = ls} e h = let same : ks ≡ ls = cc in subst (Stacked n s) same h

never : {A : Type 0} {ls : List Kind} → None ≡ Some ls → A
never e = absurd (let z : ◌≡◌ {A = ℕ} 0 1 = cc in omega arith)

module _ (n : ℕ) (x : Context) (sound : Sound x) (few : x.pairs ≤ n) where
  change_stacked : {s : List Item} {ks : List Kind} (code : ℕ) (ls : List Kind) → Stacked n s ks → one_item ks ≡ Some ls → Stacked n (changes code s) ls
  change_stacked code ls empty e = never e
  change_stacked code ls (on_target o h) e = moved e (on_target (alters o) h)
  change_stacked code ls (on_policy o h) e = moved e (on_policy (changes_over o) h)

  combine_stacked : {s : List Item} {ks : List Kind} (code : ℕ) (ls : List Kind) → Stacked n s ks → two_alike ks ≡ Some ls → Stacked n (combines (digits_of x.operators code) s) ls
  combine_stacked code ls empty e = never e
  combine_stacked code ls (on_target o empty) e = never e
  combine_stacked code ls (on_policy o empty) e = never e
  combine_stacked code ls (on_target o (on_target r h)) e = moved e (on_target (joins (operator_digits x code sound) r o) h)
  combine_stacked code ls (on_target o (on_policy r h)) e = never e
  combine_stacked code ls (on_policy o (on_target r h)) e = never e
  combine_stacked code ls (on_policy o (on_policy r h)) e = moved e (on_policy (combines_over (operator_digits x code sound) r o) h)

  guard_stacked : {s : List Item} {ks : List Kind} (ls : List Kind) → Stacked n s ks → guarding ks ≡ Some ls → Stacked n (guards s) ls
  guard_stacked ls empty e = never e
  guard_stacked ls (on_target o empty) e = never e
  guard_stacked ls (on_policy o empty) e = never e
  guard_stacked ls (on_target o (on_target r h)) e = never e
  guard_stacked ls (on_target o (on_policy r h)) e = never e
  guard_stacked ls (on_policy o (on_target r h)) e = moved e (on_policy (guards_over r o) h)
  guard_stacked ls (on_policy o (on_policy r h)) e = never e

  does_stacked : (a : Action) (s : List Item) (ks ls : List Kind) → acts x a ≡ true → turns a ks ≡ Some ls → Stacked n s ks → Stacked n (does x a s) ls
  does_stacked (push_pair i) s ks ls a e h =
      let o = chained_with i sound.chained (omega arith) (ltb-true _ _ a) in
      let w : (unwrap_or (attribute_with x.attributes i) nobody).start + (unwrap_or (attribute_with x.attributes i) nobody).count ≤ n = omega (arith, o.within) in
      moved e (on_target (pairs w o.has) h)
  does_stacked (push d) s ks ls a e h = moved e (on_policy constant h)
  does_stacked (change code) s ks ls a e h = change_stacked code ls h e
  does_stacked (combine code) s ks ls a e h = combine_stacked code ls h e
  does_stacked guard s ks ls a e h = guard_stacked ls h e
  does_stacked end s ks ls a e h = moved e h

  puts_stacked : (c : Command) (s : List Item) (ks ls : List Kind) → allowed x c ≡ true → kinds_after c ks ≡ Some ls → Stacked n s ks → Stacked n (puts x c s) ls
  puts_stacked (attribute name count) s ks ls a e h = moved e h
  puts_stacked (operator ds) s ks ls a e h = moved e h
  puts_stacked (restrict r) s ks ls a e h = moved e h
  puts_stacked (act b) s ks ls a e h = does_stacked b s ks ls a e h

  restricts_over : (r : Restriction) → restricts x r ≡ true → ConstraintOver n (constraint x r)
  restricts_over (exclusion i j) a =
      let h = ltb-true i x.pairs (and_parts _ _ a).0 in
      let k = ltb-true j x.pairs (and_parts _ _ (and_parts _ _ a).1).0 in
      excludes (omega arith) (omega arith)
  restricts_over (most b k) a = let w = chained_at b sound.chained in bounds_above (omega arith)
  restricts_over (least b k) a = let w = chained_at b sound.chained in bounds_below (omega arith)

  constrains_over : (c : Command) (l : List Constraint) → allowed x c ≡ true → AllOver n l → AllOver n (constrains x c l)
  constrains_over (attribute name count) l a h = h
  constrains_over (operator ds) l a h = h
  constrains_over (restrict r) l a h = and_so (restricts_over r a) h
  constrains_over (act b) l a h = h

-- ---- the whole reading

-- what the commands cs leave, from the context x and the stack s on
pub record Built (n : ℕ) (x : Context) (s : List Item) (cs : List Command) (l : Progress) : Type 0 where
  pub stack : Stacked n (stack_of x cs s) l.kinds
  pub constraints : AllOver n (constraints_of x cs)

pub builds : {file : List ℕ} {k l : Progress} {p : ℕ} {cs : List Command} (n : ℕ) (s : List Item) → ReadsTo file k p cs l → l.context.pairs ≤ n →
    Sound k.context → Stacked n s k.kinds → Built n k.context s cs l
unfolding stack_of constraints_of
builds {k = k} {l = l} n s (at_end {c = c} t e) few o h =
    let m = pairs_grow (at_end t e) in
    record {
      stack = puts_stacked n k.context o (omega arith) c s k.kinds l.kinds t.allows t.kinds h;
      constraints = constrains_over n k.context o (omega arith) c [] t.allows no_more;
    }
builds {k = k} {l = l} n s (on {k' = k'} {c = c} {cs = cs} t r) few o h =
    let m = pairs_grow (on t r) in
    let s' = puts k.context c s in
    let here = puts_stacked n k.context o (omega arith) c s k.kinds k'.kinds t.allows t.kinds h in
    let rest = builds n s' r few (subst Sound (sym t.declared) (declares_sound c k.context t.allows o)) here in
    record {
      stack = subst (λ (y : Context). Stacked n (stack_of y cs s') l.kinds) t.declared rest.stack;
      constraints = constrains_over n k.context o (omega arith) c _ t.allows (subst (λ (y : Context). AllOver n (constraints_of y cs)) t.declared rest.constraints);
    }

-- one policy, over the pairs below n
pub record Single (n : ℕ) (s : List Item) : Type 0 where
  pub policy : Policy
  pub is : s ≡ as_policy policy ∷ []
  pub over : PolicyOver n policy

pub single : {n : ℕ} {s : List Item} {ks : List Kind} → Stacked n s ks → one_policy ks ≡ true → Single n s
single empty e = absurd (false≢true e)
single (on_target o empty) e = absurd (false≢true e)
single (on_target o (on_target r h)) e = absurd (false≢true e)
single (on_target o (on_policy r h)) e = absurd (false≢true e)
single (on_policy {r = r} o empty) e = record { policy = r; is = refl; over = o }
single (on_policy o (on_target r h)) e = absurd (false≢true e)
single (on_policy o (on_policy r h)) e = absurd (false≢true e)
