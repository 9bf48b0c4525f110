-- The stack under the declarations of the whole file.
use Rattle.std.proofs.Common.{◌≡◌, ℕ, true, leb, List, [], ◌∷◌, ◌++◌, map, reverse, Ok, sym, refl, ap, ◌∙◌}
use mathlib.Core.List.{reverse-append, map-append}
use Rattle.std.proofs.lemmas.Bool.{and_parts, false≢true}
use Rattle.policy.specs.Commands.{Command, attribute, operator, restrict, act, Context, declares}
use Rattle.policy.specs.Reading.{Item, puts, stack_of, top, Stop, stopped, ended, unopened, scan_file, commands_of, read_as, reads}
use Rattle.inspect.specs.declared.formula.Item as i
use Rattle.inspect.specs.declared.formula.Item.TheVariants as item_of_kind
use Rattle.inspect.specs.declared.formula.Policy as q
use Rattle.inspect.specs.Trees.{item, stack, policy, Builds}
use Rattle.inspect.specs.Lines.{after}
use Rattle.inspect.proofs.Parts.{parted, file_orderly}

-- the stack after some commands, with all declarations made before
abbrev pub stack_under : Context → List Command → List Item → List Item
stack_under x [] s = s
stack_under x (c ∷ cs) s = stack_under x cs (puts x c s)

-- from part four on nothing is declared
late_after : (x : Context) (cs : List Command) → parted 4 cs ≡ true → after x cs ≡ x
late_after x [] h = refl
late_after x (attribute name count ∷ cs) h = absurd (false≢true h)
late_after x (operator ds ∷ cs) h = absurd (false≢true h)
late_after x (restrict r ∷ cs) h = absurd (false≢true h)
late_after x (act a ∷ cs) h = late_after x cs h

late_stack : (x : Context) (cs : List Command) (s : List Item) → parted 4 cs ≡ true → stack_of x cs s ≡ stack_under x cs s
unfolding stack_of
late_stack x [] s h = refl
late_stack x (attribute name count ∷ cs) s h = absurd (false≢true h)
late_stack x (operator ds ∷ cs) s h = absurd (false≢true h)
late_stack x (restrict r ∷ cs) s h = absurd (false≢true h)
late_stack x (act a ∷ cs) s h = late_stack x cs (puts x (act a) s) h

pub all_stack : (n : ℕ) (x : Context) (cs : List Command) → parted n cs ≡ true → stack_of x cs [] ≡ stack_under (after x cs) cs []
unfolding stack_of
all_stack n x [] h = refl
all_stack n x (attribute name count ∷ cs) h = all_stack 1 (declares (attribute name count) x) cs (and_parts _ _ h).1
all_stack n x (operator ds ∷ cs) h = all_stack 2 (declares (operator ds) x) cs (and_parts _ _ h).1
all_stack n x (restrict r ∷ cs) h = all_stack 3 x cs (and_parts _ _ h).1
all_stack n x (act a ∷ cs) h =
    let late = (and_parts (leb n 4) (parted 4 cs) h).1 in
    late_stack x cs (puts x (act a) []) late ∙ ap (λ y. stack_under y cs (puts y (act a) [])) (sym (late_after x cs late))

-- what the whole file declares
abbrev pub all_declared : List ℕ → Context
all_declared file = after unopened.context (commands_of file)

pub file_stack : (file : List ℕ) → stack_of unopened.context (commands_of file) [] ≡ stack_under (all_declared file) (commands_of file) []
file_stack file = all_stack 0 unopened.context (commands_of file) (file_orderly file).parts

-- one more item
pub stack_push : (x : Context) (items : List i.Item) (new : i.Item) → stack x (items ++ (new ∷ [])) ≡ item x new ∷ stack x items
stack_push x items new = ap reverse (map-append (item x) items (new ∷ [])) ∙ reverse-append (map (item x) items) (item x new ∷ [])

module _ (x : Context) where
  -- an item was pushed, as the command asks
  pub by_push : (new mid low : List i.Item) (it it' : i.Item) (s : List Item) (c c' : Command) → new ≡ mid ++ (it ∷ []) → mid ≡ low → it ≡ it' → c ≡ c' → item x it' ∷ stack x low ≡ puts x c' s → stack x new ≡ puts x c s
  by_push new mid low it it' s c c' e d f g h =
      ap (stack x) e ∙ stack_push x mid it ∙ ap (λ (u : i.Item). item x u ∷ stack x mid) f ∙ ap (λ (l : List i.Item). item x it' ∷ stack x l) d ∙ h ∙
      ap (λ (k : Command). puts x k s) (sym g)

  -- an item was popped
  pub popped_one : (old mid : List i.Item) (it : i.Item) → old ≡ mid ++ (it ∷ []) → item x it ∷ stack x mid ≡ stack x old
  popped_one old mid it e = sym (ap (stack x) e ∙ stack_push x mid it)

  -- two items were popped
  pub popped_two : (old mid low : List i.Item) (second first : i.Item) → old ≡ mid ++ (second ∷ []) → mid ≡ low ++ (first ∷ []) → item x second ∷ item x first ∷ stack x low ≡ stack x old
  popped_two old mid low second first e f = ap (λ (s : List Item). item x second ∷ s) (popped_one mid low first f) ∙ popped_one old mid second e

-- the tree that is left in the end
pub finished : (file : List ℕ) (tree : q.Policy) (items rest : List i.Item) → items ≡ rest ++ (item_of_kind.Policy tree ∷ []) → stack (all_declared file) items ≡ stack_under (all_declared file) (commands_of file) [] → Builds (Ok tree) (reads file)
finished file tree items rest e h = by (scan_file file).stop refl
  where
    x : Context
    x = all_declared file

    last : policy x tree ≡ top (stack x items)
    last = ap top (popped_one x items rest (item_of_kind.Policy tree) e)

    by : (s : Stop) → (scan_file file).stop ≡ s → Builds (Ok tree) (read_as (commands_of file) s)
    by (stopped n p) f = tt
    by (ended k) f = ap (λ y. policy y tree) ((file_orderly file).known k f) ∙ last ∙ ap top (h ∙ sym (file_stack file))
