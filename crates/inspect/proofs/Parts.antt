-- The commands of a file stand in the order of its parts, and make up its declarations.
use Rattle.std.proofs.Common.{◌≡◌, ℕ, zero, suc, ◌+◌, ◌≤◌, Bool, true, false, cond, not, ◌&&◌, eqb, ltb, leb, List, [], ◌∷◌, length, Some, None, Option, sym, refl, ap, ◌∙◌, subst, arith}
use Rattle.std.proofs.lemmas.Bool.{ltb-false, le-leb, and_from}
use Rattle.policy.specs.declared.kind.Kind.{Kind}
use Rattle.policy.specs.declared.opcode.Opcode.{Opcode}
use Rattle.policy.specs.declared.opcode.Opcode.TheVariants.{Attribute, Operator, Exclusion, AtMost, AtLeast, Pair, Allow, Deny, Change, Combine, Guard, End}
use Rattle.policy.specs.Commands.{Command, attribute, operator, restrict, act, opcode, part, size, byte, command, declares, allowed, is_end, one_policy}
use Rattle.inspect.specs.Lines.{after, size_of}
use Rattle.policy.specs.Reading.{Progress, Step, refused, took, step, first_step, opened, command_step, begun, checked, settled, differs, opening, Scan, stopped, ended, before, goes_on, scan, scan_file, unopened}

-- the part of the file that a command belongs to
abbrev pub part_of : Command → ℕ
part_of (attribute name count) = 1
part_of (operator ds) = 2
part_of (restrict r) = 3
part_of (act a) = 4

same_part : (file : List ℕ) (p : ℕ) (o : Opcode) → part o ≡ part_of (command file p o)
same_part file p Attribute = refl
same_part file p Operator = refl
same_part file p Exclusion = refl
same_part file p AtMost = refl
same_part file p AtLeast = refl
same_part file p Pair = refl
same_part file p Allow = refl
same_part file p Deny = refl
same_part file p Change = refl
same_part file p Combine = refl
same_part file p Guard = refl
same_part file p End = refl

same_size : (file : List ℕ) (p : ℕ) (o : Opcode) → size o ≡ size_of (command file p o)
same_size file p Attribute = refl
same_size file p Operator = refl
same_size file p Exclusion = refl
same_size file p AtMost = refl
same_size file p AtLeast = refl
same_size file p Pair = refl
same_size file p Allow = refl
same_size file p Deny = refl
same_size file p Change = refl
same_size file p Combine = refl
same_size file p Guard = refl
same_size file p End = refl

-- a command that was taken at p: it belongs to no earlier part; what is known after it, and where the next one begins
pub record Follows (k : Progress) (p : ℕ) (c : Command) (k' : Progress) (q : ℕ) : Type 0 where
  pub order : leb k.part (part_of c) ≡ true
  pub part : k'.part ≡ part_of c
  pub context : k'.context ≡ declares c k.context
  pub next : q ≡ p + 1 + size_of c

data Taking (k : Progress) (p : ℕ) : Step → Type 0 where
  not_taken : {n m : ℕ} → Taking k p (refused n m)
  is_taken : {c : Command} {k' : Progress} {q : ℕ} → Follows k p c k' q → Taking k p (took c k' q)

by_test : {k : Progress} {p : ℕ} {x y : Step} (b : Bool) → (b ≡ true → Taking k p x) → (b ≡ false → Taking k p y) → Taking k p (cond b x y)
by_test true f g = f refl
by_test false f g = g refl

taken_follows : {k : Progress} {p : ℕ} {c : Command} {k' : Progress} {q : ℕ} → Taking k p (took c k' q) → Follows k p c k' q
taken_follows (is_taken h) = h

module _ (k : Progress) (file : List ℕ) (p : ℕ) where
  settled_follows : (o : Opcode) (ks : Option (List Kind)) → k.part ≤ part o → Taking k p (settled k file p o (command file p o) ks)
  unfolding settled
  settled_follows o None l = not_taken
  settled_follows o (Some ks) l =
      let c = command file p o in
      by_test (ltb 16 (length ks)) (λ _. not_taken) (λ _.
      by_test (is_end c && not (one_policy ks)) (λ _. not_taken) (λ _.
      by_test (is_end c && ltb (p + 1) (length file)) (λ _. not_taken) (λ _. is_taken (record {
        order = le-leb k.part (part_of c) (subst (λ n. k.part ≤ n) (same_part file p o) l);
        part = same_part file p o;
        context = refl;
        next = ap (λ n. p + 1 + n) (same_size file p o);
      }))))

  begun_follows : (o : Option Opcode) → Taking k p (begun k file p o)
  unfolding begun checked
  begun_follows None = not_taken
  begun_follows (Some o) =
      by_test (ltb (part o) k.part) (λ _. not_taken) (λ (e : ltb (part o) k.part ≡ false).
      by_test (ltb (length file) (p + 1 + size o)) (λ _. not_taken) (λ _.
      by_test (allowed k.context (command file p o)) (λ _. settled_follows o _ (ltb-false _ _ e)) (λ _. not_taken)))

  command_follows : Taking k p (command_step k file p)
  unfolding command_step
  command_follows = by_test (leb (length file) p) (λ _. not_taken) (λ _. begun_follows (opcode (byte file p)))

  opened_follows : (o : Option ℕ) → Taking k p (opened k file p o)
  unfolding opened
  opened_follows (Some i) = not_taken
  opened_follows None = command_follows

  step_taking : Taking k p (step k file p)
  unfolding step first_step
  step_taking =
      by_test (eqb k.part 0) (λ _. by_test (ltb 65535 (length file)) (λ _. not_taken) (λ _. opened_follows (differs opening file 0))) (λ _. command_follows)

  pub step_follows : (c : Command) (k' : Progress) (q : ℕ) → took c k' q ≡ step k file p → Follows k p c k' q
  step_follows c k' q e = taken_follows (subst (Taking k p) (sym e) step_taking)

-- no command of a part before n, and none of an earlier part than the one before it
abbrev pub parted : ℕ → List Command → Bool
parted n [] = true
parted n (c ∷ cs) = leb n (part_of c) && parted (part_of c) cs

pub record Orderly (k : Progress) (s : Scan) : Type 0 where
  pub parts : parted k.part s.commands ≡ true
  pub known : (k' : Progress) → s.stop ≡ ended k' → k'.context ≡ after k.context s.commands

-- a scan that has stopped
stopped_orderly : (k : Progress) (n p : ℕ) → Orderly k (record { commands = []; stop = stopped n p })
stopped_orderly k n p = record {
  parts = refl;
  known = λ k' (e : stopped n p ≡ ended k'). let z : ◌≡◌ {A = ℕ} 0 1 = cc in absurd (omega arith);
}

module _ (k : Progress) (p : ℕ) (c : Command) (k' : Progress) (q : ℕ) (f : Follows k p c k' q) where
  last_orderly : Orderly k (record { commands = c ∷ []; stop = ended k' })
  last_orderly = record {
    parts = and_from _ _ f.order refl;
    known = λ (j : Progress) (e : ended k' ≡ ended j). let same : k' ≡ j = cc in ap (λ (i : Progress). i.context) (sym same) ∙ f.context;
  }

  before_orderly : (s : Scan) → Orderly k' s → Orderly k (before c s)
  before_orderly s h = record {
    parts = and_from _ _ f.order (subst (λ n. parted n s.commands ≡ true) f.part h.parts);
    known = λ j e. h.known j e ∙ ap (λ x. after x s.commands) f.context;
  }

  taken_orderly : (b : Bool) (s : Scan) → Orderly k' s → Orderly k (cond b (record { commands = c ∷ []; stop = ended k' }) (before c s))
  taken_orderly true s h = last_orderly
  taken_orderly false s h = before_orderly s h

goes_on_orderly : (k : Progress) (p : ℕ) (s : Step) (next : Progress → ℕ → Scan) → Taking k p s → ((k' : Progress) (q : ℕ) → Orderly k' (next k' q)) → Orderly k (goes_on s next)
goes_on_orderly k p (refused n m) next t h = stopped_orderly k n m
goes_on_orderly k p (took c k' q) next (is_taken f) h = taken_orderly k p c k' q f (is_end c) (next k' q) (h k' q)

scan_orderly : (n : ℕ) (k : Progress) (file : List ℕ) (p : ℕ) → Orderly k (scan n k file p)
unfolding scan
scan_orderly zero k file p = stopped_orderly k 4 (length file)
scan_orderly (suc n) k file p = goes_on_orderly k p (step k file p) (λ k' q. scan n k' file q) (step_taking k file p) (λ k' q. scan_orderly n k' file q)

pub file_orderly : (file : List ℕ) → Orderly unopened (scan_file file)
unfolding scan_file
file_orderly file = scan_orderly (suc (length file)) unopened file 5
