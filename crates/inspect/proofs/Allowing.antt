-- The kinds on the program's stack, and why no item is ever missing under the commands of a file that reads well.
use Rattle.std.proofs.Common.{◌≡◌, ℕ, suc, true, false, List, [], ◌∷◌, ◌++◌, length, map, reverse, Err, Result, Some, None, Option, sym, refl, ap, ◌∙◌, subst}
use mathlib.Core.List.{reverse-append, map-append}
use Rattle.std.proofs.lemmas.Bool.{false≢true}
use Rattle.policy.specs.declared.kind.Kind.{Kind}
use Rattle.policy.specs.declared.kind.Kind.TheVariants as kind
use Rattle.policy.specs.Commands.{Command, kinds_after, one_policy}
use Rattle.policy.specs.Reading.{Progress, Stop, stopped, ended, Reading, fault, well, unopened, scan_file, commands_of, read_as, reads}
use Rattle.policy.proofs.Files.{ReadsTo, at_end, on, scan_reads_to, ends_with_one}
use Rattle.inspect.specs.declared.failure.Failure.{Failure}
use Rattle.inspect.specs.declared.failure.Failure.TheVariants.{NoMemory, Items}
use Rattle.inspect.specs.declared.formula.Item as i
use Rattle.inspect.specs.declared.formula.Item.TheVariants as item_of_kind
use Rattle.inspect.specs.declared.formula.Target as t
use Rattle.inspect.specs.Kinds.{kind_of, kinds, Turns, Allows, NeedsMemoryAlone}

-- ---- one command

pub kinds_push : (items : List i.Item) (new : i.Item) → kinds (items ++ (new ∷ [])) ≡ kind_of new ∷ kinds items
kinds_push items new = ap reverse (map-append kind_of items (new ∷ [])) ∙ reverse-append (map kind_of items) (kind_of new ∷ [])

-- an item was popped
pub kinds_one : (old mid : List i.Item) (it : i.Item) → old ≡ mid ++ (it ∷ []) → kinds old ≡ kind_of it ∷ kinds mid
kinds_one old mid it e = ap kinds e ∙ kinds_push mid it

-- two items were popped
pub kinds_two : (old mid low : List i.Item) (second first : i.Item) → old ≡ mid ++ (second ∷ []) → mid ≡ low ++ (first ∷ []) → kinds old ≡ kind_of second ∷ kind_of first ∷ kinds low
kinds_two old mid low second first e f = kinds_one old mid second e ∙ ap (λ (ks : List Kind). kind_of second ∷ ks) (kinds_one mid low first f)

-- an item was pushed, as the command asks
pub allows_push : (new mid low old : List i.Item) (it it' : i.Item) (c c' : Command) → new ≡ mid ++ (it ∷ []) → mid ≡ low → it ≡ it' → c ≡ c' →
    kinds_after c' (kinds old) ≡ Some (kind_of it' ∷ kinds low) → kinds_after c (kinds old) ≡ Some (kinds new)
allows_push new mid low old it it' c c' e d f g h =
    let pushed : kind_of it' ∷ kinds low ≡ kinds new =
    sym (kinds_one new mid it e ∙ ap (λ (ls : List i.Item). kind_of it ∷ kinds ls) d ∙ ap (λ (u : i.Item). kind_of u ∷ kinds low) f) in
    ap (λ (k : Command). kinds_after k (kinds old)) g ∙ h ∙ ap (λ (ks : List Kind). Some ks) pushed

-- the items that a command asks for could not be turned
pub turned_away : (res : Result (Unit {0}) Failure) (e : Failure) (c c' : Command) (old new : List i.Item) (ks : List Kind) (turn : List Kind → Option (List Kind)) →
    res ≡ Err e → Turns (Err e) turn → c ≡ c' → kinds_after c' (kinds old) ≡ turn ks → Allows res c old new
turned_away res NoMemory c c' old new ks turn is t g h = rw is tt
turned_away res Items c c' old new ks turn is t g h = rw is (ap (λ (k : Command). kinds_after k (kinds old)) g ∙ h ∙ t ks)

pub refused_items : (e : Failure) (c : Command) (old new : List i.Item) → e ≡ Items → Allows (Err e) c old new → kinds_after c (kinds old) ≡ None
refused_items e c old new is a = subst (λ (f : Failure). Allows (Err f) c old new) is a

-- ---- all commands

-- the kinds on the stack after some commands, if it allows them all
abbrev pub then_kinds : Option (List Kind) → (List Kind → Option (List Kind)) → Option (List Kind)
then_kinds None next = None
then_kinds (Some ks) next = next ks

abbrev pub kinds_under : List Command → List Kind → Option (List Kind)
kinds_under [] ks = Some ks
kinds_under (c ∷ cs) ks = then_kinds (kinds_after c ks) (kinds_under cs)

reads_kinds : {file : List ℕ} {k l : Progress} {p : ℕ} {cs : List Command} → ReadsTo file k p cs l → kinds_under cs k.kinds ≡ Some l.kinds
reads_kinds {l = l} (at_end {c = c} t e) = ap (λ o. then_kinds o (kinds_under [])) t.kinds
reads_kinds (on {c = c} {cs = cs} t r) = ap (λ o. then_kinds o (kinds_under cs)) t.kinds ∙ reads_kinds r

-- the commands of a file that reads well are all allowed, and leave one policy
pub record AllAllowed (file : List ℕ) : Type 0 where
  pub last : List Kind
  pub is : kinds_under (commands_of file) [] ≡ Some last
  pub one : one_policy last ≡ true

-- what a fault in a file lets us conclude nothing about
abbrev pub UnlessFaulty : (Reading → Type 0) → Reading → Type 0
UnlessFaulty P (fault n place) = Unit {0}
UnlessFaulty P (well f) = P (well f)

pub all_allowed : (file : List ℕ) → UnlessFaulty (λ r. AllAllowed file) (reads file)
unfolding scan_file
all_allowed file = by (scan_file file).stop refl
  where
    by : (s : Stop) → (scan_file file).stop ≡ s → UnlessFaulty (λ r. AllAllowed file) (read_as (commands_of file) s)
    by (stopped n place) e = tt
    by (ended k) e =
        let r = scan_reads_to (suc (length file)) unopened file 5 k e in
        record { last = k.kinds; is = reads_kinds r; one = ends_with_one r }

-- ---- failures

-- a failure for items that nothing lets happen
pub needs : {A : Type 0} (res : Result A Failure) (e : Failure) (r : Reading) → res ≡ Err e → (e ≡ Items → UnlessFaulty (λ x. ⊥) r) → NeedsMemoryAlone res r
needs res NoMemory r is h = rw is tt
needs res Items (fault n place) is h = rw is tt
needs res Items (well f) is h = rw is (h refl)

-- from what all commands leave, to what the file reads to
by_reading : {file : List ℕ} (r : Reading) → UnlessFaulty (λ x. AllAllowed file) r → (AllAllowed file → ⊥) → UnlessFaulty (λ x. ⊥) r
by_reading (fault n place) all never = tt
by_reading (well f) all never = never all

none_some : {ks : List Kind} → None ≡ Some ks → ⊥
none_some e = let z : ◌≡◌ {A = ℕ} 0 1 = cc in false≢true (let w : ◌≡◌ {A = Option (List Kind)} None (Some []) = cc in cc)

module _ (file : List ℕ) (ahead : List Command) (items : List i.Item) (same : kinds_under ahead (kinds items) ≡ kinds_under (commands_of file) []) where
  -- a command that the stack does not allow
  pub not_refused : (c : Command) (rest : List Command) → ahead ≡ c ∷ rest → kinds_after c (kinds items) ≡ None → UnlessFaulty (λ x. ⊥) (reads file)
  not_refused c rest e none =
      let all : None ≡ kinds_under (commands_of file) [] =
      sym (ap (λ o. then_kinds o (kinds_under rest)) none) ∙ sym (ap (λ cs. kinds_under cs (kinds items)) e) ∙ same in
      by_reading (reads file) (all_allowed file) (λ a. none_some (all ∙ a.is))

  -- no command is left, and something else than one policy
  pub not_left : ahead ≡ [] → ((ks : List Kind) → kinds items ≡ ks → one_policy ks ≡ true → ⊥) → UnlessFaulty (λ x. ⊥) (reads file)
  not_left e never =
      let all : Some (kinds items) ≡ kinds_under (commands_of file) [] = sym (ap (λ cs. kinds_under cs (kinds items)) e) ∙ same in
      by_reading (reads file) (all_allowed file) (λ a. let is : kinds items ≡ a.last = let w = all ∙ a.is in cc in never a.last is a.one)

-- neither an empty stack nor one with a target on top is one policy
pub none_left : (items : List i.Item) → items ≡ [] → (ks : List Kind) → kinds items ≡ ks → one_policy ks ≡ true → ⊥
none_left items e ks is one = false≢true (ap one_policy (sym (ap kinds e) ∙ is) ∙ one)

target_on_top : (ks : List Kind) → one_policy (kind.Target ∷ ks) ≡ false
target_on_top [] = refl
target_on_top (k ∷ ks) = refl

pub target_left : (items rest : List i.Item) (it : i.Item) (u : t.Target) → items ≡ rest ++ (it ∷ []) → it ≡ item_of_kind.Target u → (ks : List Kind) → kinds items ≡ ks → one_policy ks ≡ true → ⊥
target_left items rest it u e target ks is one =
    false≢true (sym (target_on_top (kinds rest)) ∙ ap (λ (x : i.Item). one_policy (kind_of x ∷ kinds rest)) (sym target) ∙ ap one_policy (sym (kinds_one items rest it e) ∙ is) ∙ one)
