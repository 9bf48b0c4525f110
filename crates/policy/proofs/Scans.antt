-- From one command to the next.
use Rattle.std.proofs.Common.{◌≡◌, ℕ, zero, suc, ◌+◌, ◌<◌, ◌≤◌, Bool, true, false, cond, not, ◌&&◌, eqb, ltb, leb, List, [], ◌∷◌, length, Some, None, Option, sym, refl, ap, ◌∙◌, subst, arith, lit<}
use Rattle.std.proofs.lemmas.Bool.{ltb-false, not-false}
use Rattle.policy.specs.declared.opcode.Opcode.{Opcode}
use Rattle.policy.specs.declared.opcode.Opcode.TheVariants.{Attribute, Operator, Exclusion, AtMost, AtLeast, Pair, Allow, Deny, Change, Combine, Guard, End}
use Rattle.policy.specs.declared.kind.Kind.{Kind}
use Rattle.policy.proofs.Steps.{step_later, command_past}
use Rattle.policy.specs.Commands.{Command, opcode, part, size, byte, command, allowed, kinds_after, is_end, one_policy, declares}
use Rattle.policy.specs.Reading.{Progress, Step, refused, took, step, first_step, opened, command_step, begun, checked, settled, differs, opening, Scan, stopped, ended, before, goes_on, scan}

-- ---- what is known of a command that was taken

pub record Takes (k : Progress) (file : List ℕ) (p : ℕ) (c : Command) (k' : Progress) (q : ℕ) : Type 0 where
  pub op : Opcode
  pub is : c ≡ command file p op
  pub within : p + 1 + size op ≤ length file
  pub allows : allowed k.context c ≡ true
  pub kinds : kinds_after c k.kinds ≡ Some k'.kinds
  pub room : length k'.kinds ≤ 16
  pub last : is_end c ≡ true → one_policy k'.kinds ≡ true
  pub declared : k'.context ≡ declares c k.context
  pub later : 0 < k'.part
  pub ended : is_end c ≡ true → length file ≤ q
  pub next : q ≡ p + 1 + size op

-- a step that is refused, or takes a command of which P holds
pub data Taking (P : Command → Progress → ℕ → Type 0) : Step → Type 0 where
  not_taken : {n p : ℕ} → Taking P (refused n p)
  is_taken : {c : Command} {k : Progress} {q : ℕ} → P c k q → Taking P (took c k q)

taken_holds : {P : Command → Progress → ℕ → Type 0} {c : Command} {k : Progress} {q : ℕ} → Taking P (took c k q) → P c k q
taken_holds (is_taken h) = h

-- by both ways of a test
by_test : {P : Command → Progress → ℕ → Type 0} {x y : Step} (b : Bool) → (b ≡ true → Taking P x) → (b ≡ false → Taking P y) → Taking P (cond b x y)
by_test true f g = f refl
by_test false f g = g refl

some_part : (o : Opcode) → 0 < part o
some_part Attribute = lit< tt
some_part Operator = lit< tt
some_part Exclusion = lit< tt
some_part AtMost = lit< tt
some_part AtLeast = lit< tt
some_part Pair = lit< tt
some_part Allow = lit< tt
some_part Deny = lit< tt
some_part Change = lit< tt
some_part Combine = lit< tt
some_part Guard = lit< tt
some_part End = lit< tt

module _ (k : Progress) (file : List ℕ) (p : ℕ) where
  settled_takes : (o : Opcode) (c : Command) (ks : Option (List Kind)) → c ≡ command file p o → p + 1 + size o ≤ length file → allowed k.context c ≡ true → kinds_after c k.kinds ≡ ks → Taking (Takes k file p) (settled k file p o c ks)
  unfolding settled
  settled_takes o c None e w a s = not_taken
  settled_takes o c (Some ks) e w a s =
      by_test (ltb 16 (length ks)) (λ _. not_taken) (λ (few : ltb 16 (length ks) ≡ false).
      by_test (is_end c && not (one_policy ks)) (λ _. not_taken) (λ (one : (is_end c && not (one_policy ks)) ≡ false).
      by_test (is_end c && ltb (p + 1) (length file)) (λ _. not_taken) (λ (end : (is_end c && ltb (p + 1) (length file)) ≡ false). is_taken (record {
        op = o;
        is = e;
        within = w;
        allows = a;
        kinds = s;
        room = ltb-false _ _ few;
        last = λ t. not-false _ (sym (ap (λ b. b && not (one_policy ks)) t) ∙ one);
        declared = refl;
        later = some_part o;
        ended = λ t. let le = ltb-false _ _ (sym (ap (λ b. b && ltb (p + 1) (length file)) t) ∙ end) in omega arith;
        next = refl;
      }))))

  begun_takes : (o : Option Opcode) → Taking (Takes k file p) (begun k file p o)
  unfolding begun checked
  begun_takes None = not_taken
  begun_takes (Some o) =
      by_test (ltb (part o) k.part) (λ _. not_taken) (λ _.
      by_test (ltb (length file) (p + 1 + size o)) (λ _. not_taken) (λ (fits : ltb (length file) (p + 1 + size o) ≡ false).
      by_test (allowed k.context (command file p o)) (λ a. settled_takes o (command file p o) _ refl (ltb-false _ _ fits) a refl) (λ _. not_taken)))

  command_takes : Taking (Takes k file p) (command_step k file p)
  unfolding command_step
  command_takes = by_test (leb (length file) p) (λ _. not_taken) (λ _. begun_takes (opcode (byte file p)))

  opened_takes : (o : Option ℕ) → Taking (Takes k file p) (opened k file p o)
  unfolding opened
  opened_takes (Some i) = not_taken
  opened_takes None = command_takes

  step_taking : Taking (Takes k file p) (step k file p)
  unfolding step first_step
  step_taking =
      by_test (eqb k.part 0) (λ _. by_test (ltb 65535 (length file)) (λ _. not_taken) (λ _. opened_takes (differs opening file 0))) (λ _. command_takes)

  pub step_takes : (c : Command) (k' : Progress) (q : ℕ) → took c k' q ≡ step k file p → Takes k file p c k' q
  step_takes c k' q e = taken_holds (subst (Taking (Takes k file p)) (sym e) step_taking)

  pub moves_on : (c : Command) (k' : Progress) (q : ℕ) → took c k' q ≡ step k file p → p < q
  moves_on c k' q e = let t = step_takes c k' q e in omega (arith, t.next)

-- ---- a scan, command by command; where its bound is enough, it does not matter

scan_next : (n : ℕ) (k : Progress) (file : List ℕ) (p : ℕ) (s : Step) → s ≡ step k file p → scan (suc n) k file p ≡ goes_on s (λ k' q. scan n k' file q)
unfolding scan
scan_next n k file p s e = ap (λ x. goes_on x (λ k' q. scan n k' file q)) (sym e)

-- past the last byte nothing is ahead
none_ahead : (n : ℕ) (k : Progress) (file : List ℕ) (p : ℕ) → 0 < k.part → length file ≤ p → scan (suc n) k file p ≡ record { commands = []; stop = stopped 4 (length file) }
none_ahead n k file p l h = scan_next n k file p (refused 4 (length file)) (sym (step_later k file p l ∙ command_past k file p h))

past : (n : ℕ) (k : Progress) (file : List ℕ) (p : ℕ) → 0 < k.part → length file < p → scan n k file p ≡ record { commands = []; stop = stopped 4 (length file) }
unfolding scan
past zero k file p l h = refl
past (suc n) k file p l h = none_ahead n k file p l (omega arith)

-- two ways to go on that agree on what a step leads to
agree_on : (s : Step) (f g : Progress → ℕ → Scan) → ((c : Command) (k : Progress) (q : ℕ) → took c k q ≡ s → f k q ≡ g k q) → goes_on s f ≡ goes_on s g
agree_on (refused n p) f g h = refl
agree_on (took c k q) f g h = ap (λ x. cond (is_end c) (record { commands = c ∷ []; stop = ended k }) (before c x)) (h c k q refl)

same_scan : (n m : ℕ) (k : Progress) (file : List ℕ) (p : ℕ) → 0 < k.part → length file < p + n → length file < p + m → scan n k file p ≡ scan m k file p
same_scan zero m k file p l h w = past zero k file p l (omega arith) ∙ sym (past m k file p l (omega arith))
same_scan (suc n) zero k file p l h w = past (suc n) k file p l (omega arith) ∙ sym (past zero k file p l (omega arith))
same_scan (suc n) (suc m) k file p l h w =
    let s = step k file p in
    let rest : (c : Command) (k' : Progress) (q : ℕ) → took c k' q ≡ s → scan n k' file q ≡ scan m k' file q =
    λ c k' q e. let t = step_takes k file p c k' q e in same_scan n m k' file q t.later (omega (arith, t.next)) (omega (arith, t.next)) in
    scan_next n k file p s refl ∙ agree_on s (λ k' q. scan n k' file q) (λ k' q. scan m k' file q) rest ∙ sym (scan_next m k file p s refl)

-- one step takes the first command off what is ahead
ahead_next : (k : Progress) (file : List ℕ) (p : ℕ) (s : Step) → s ≡ step k file p →
    scan (suc (length file)) k file p ≡ goes_on s (λ k' q. scan (suc (length file)) k' file q)
ahead_next k file p s e =
    let n = length file in
    scan_next n k file p s e ∙ agree_on s (λ k' q. scan n k' file q) (λ k' q. scan (suc n) k' file q) (λ c k' q t.
    let i = step_takes k file p c k' q (t ∙ e) in
    same_scan n (suc n) k' file q i.later (omega (arith, i.next)) (omega arith))

-- ---- a step from where a reader stands, by the way that it goes

module _ (k : Progress) (file : List ℕ) (p : ℕ) where
  pub ahead_refused : (n q : ℕ) → refused n q ≡ step k file p → scan (suc (length file)) k file p ≡ record { commands = []; stop = stopped n q }
  ahead_refused n q e = ahead_next k file p (refused n q) e

  module _ (c : Command) (k' : Progress) (q : ℕ) (e : took c k' q ≡ step k file p) where
    pub ahead_taken : scan (suc (length file)) k file p ≡ cond (is_end c) (record { commands = c ∷ []; stop = ended k' }) (before c (scan (suc (length file)) k' file q))
    ahead_taken = ahead_next k file p (took c k' q) e

    -- the first command of those ahead; after the end there are none
    pub ahead_first : (scan (suc (length file)) k file p).commands ≡ c ∷ (scan (suc (length file)) k' file q).commands
    ahead_first = ap (λ a. a.commands) ahead_taken ∙ by (is_end c) (λ t. let i = step_takes k file p c k' q e in none_ahead (length file) k' file q i.later (i.ended t))
      where
        rest : Scan
        rest = scan (suc (length file)) k' file q

        by : (t : Bool) → (t ≡ true → rest ≡ record { commands = []; stop = stopped 4 (length file) }) → (cond t (record { commands = c ∷ []; stop = ended k' }) (before c rest)).commands ≡ c ∷ rest.commands
        by true none = ap (λ (a : Scan). c ∷ a.commands) (sym (none refl))
        by false none = refl
