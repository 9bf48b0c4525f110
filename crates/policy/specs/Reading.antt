-- Reading: from the bytes of a file to the first fault, by its number and place, or to the File that they stand for.
--
-- A file is read command by command. `step` has all checks of a command in their order; `scan` goes on to the end or
-- to the first refusal; `reads` makes a File of the commands.
use Rattle.std.specs.Prelude.{ℕ, zero, suc, ◌+◌, cond, not, ◌&&◌, List, [], ◌∷◌, length, Some, None, Option, ◌==◌, nat_le, nat_lt, slice_index_or}
use Rattle.std.specs.List.{find}
use Rattle.std.specs.Option.{unwrap_or}
use Rattle.policy.specs.declared.decision.Decision.TheVariants.{NotApplicable}
use Rattle.policy.specs.declared.opcode.Opcode.{Opcode}
use Rattle.policy.specs.declared.kind.Kind.{Kind}
use Rattle.policy.specs.Values.{Digits, digits_of}
use Rattle.policy.specs.Policies as p
use Rattle.policy.specs.Commands.{Command, attribute, operator, restrict, act, Restriction, exclusion, most, least, Action, push_pair, push, change, combine, guard, end, Context, opcode, part, size, is_end, byte, command, declares, allowed, kinds_after, one_policy, nobody}

-- ---- one command

-- What is known at a command: the part of the file that was reached, the declarations, and the kinds on the stack.
-- Part 0 is the opening.
pub record Progress : Type 0 where
  pub part : ℕ
  pub context : Context
  pub kinds : List Kind

-- a refusal's number and place; or a command, what is known after it, and where the next one begins
pub data Step : Type 0 where
  refused : ℕ → ℕ → Step
  took : Command → Progress → ℕ → Step

-- the last checks, at the kinds after the command: 9 a seventeenth item, 10 at the end a wrong stack or a byte after it
unfoldable pub settled : Progress → List ℕ → ℕ → Opcode → Command → Option (List Kind) → Step
settled k file p o c None = refused 8 p
settled k file p o c (Some ks) =
    cond (nat_lt 16 (length ks)) (refused 9 p) (
    cond (is_end c && not (one_policy ks)) (refused 10 p) (
    cond (is_end c && nat_lt (p + 1) (length file)) (refused 10 (p + 1)) (
    took c (record { part = part o; context = declares c k.context; kinds = ks }) (p + 1 + size o))))

-- 7 an operand that is not allowed, 8 items that are missing or of the wrong kind
unfoldable pub checked : Progress → List ℕ → ℕ → Opcode → Command → Step
checked k file p o c = cond (allowed k.context c) (settled k file p o c (kinds_after c k.kinds)) (refused 7 p)

-- 5 an unknown command, 6 one of an earlier part, 4 operands cut short
unfoldable pub begun : Progress → List ℕ → ℕ → Option Opcode → Step
begun k file p None = refused 5 p
begun k file p (Some o) =
    cond (nat_lt (part o) k.part) (refused 6 p) (
    cond (nat_lt (length file) (p + 1 + size o)) (refused 4 (length file)) (checked k file p o (command file p o)))

-- the command at p; 4 where there is none
unfoldable pub command_step : Progress → List ℕ → ℕ → Step
command_step k file p = cond (nat_le (length file) p) (refused 4 (length file)) (begun k file p (opcode (byte file p)))

-- ---- the opening

-- the first five bytes of every file
abbrev pub opening : List ℕ
opening = 0x50 ∷ 0x54 ∷ 0x41 ∷ 0x43 ∷ 0x01 ∷ []

-- the place of the first byte of the opening that is wrong or missing
unfoldable pub differs : List ℕ → List ℕ → ℕ → Option ℕ
differs [] bs i = None
differs (o ∷ os) [] i = Some i
differs (o ∷ os) (b ∷ bs) i = cond (b == o) (differs os bs (i + 1)) (Some i)

-- before the opening was looked at
abbrev pub unopened : Progress
unopened = record { part = 0; context = record { attributes = []; pairs = 0; operators = [] }; kinds = [] }

-- 3 a wrong opening, and then the first command
unfoldable pub opened : Progress → List ℕ → ℕ → Option ℕ → Step
opened k file p (Some i) = refused 3 i
opened k file p None = command_step k file p

-- 2 a file that is too long
unfoldable pub first_step : Progress → List ℕ → ℕ → Step
first_step k file p = cond (nat_lt 65535 (length file)) (refused 2 0) (opened k file p (differs opening file 0))

-- the next command, or why there is none
unfoldable pub step : Progress → List ℕ → ℕ → Step
step k file p = cond (k.part == 0) (first_step k file p) (command_step k file p)

-- ---- the whole file

-- where reading stops: refused, with a number and a place, or at the end, with what was read
pub data Stop : Type 0 where
  stopped : ℕ → ℕ → Stop
  ended : Progress → Stop

-- the commands in their order, and why the reading stopped
pub record Scan : Type 0 where
  pub commands : List Command
  pub stop : Stop

-- a command, and then the rest
abbrev pub before : Command → Scan → Scan
before c s = record { commands = c ∷ s.commands; stop = s.stop }

-- reading goes on after a step, unless that was refused or took the end
abbrev pub goes_on : Step → (Progress → ℕ → Scan) → Scan
goes_on (refused n p) next = record { commands = []; stop = stopped n p }
goes_on (took c k p) next = cond (is_end c) (record { commands = c ∷ []; stop = ended k }) (before c (next k p))

-- n bounds the number of commands: each has a byte or more, so one more than the file's length is enough
unfoldable pub scan : ℕ → Progress → List ℕ → ℕ → Scan
scan zero k file p = record { commands = []; stop = stopped 4 (length file) }
scan (suc n) k file p = goes_on (step k file p) (λ k' q. scan n k' file q)

-- the whole file
unfoldable pub scan_file : List ℕ → Scan
scan_file file = scan (suc (length file)) unopened file 5

-- the commands of a file, up to its end or its first fault
abbrev pub commands_of : List ℕ → List Command
commands_of file = (scan_file file).commands

-- ---- the File that the commands stand for

-- the constraint that a restriction states
abbrev pub constraint : Context → Restriction → p.Constraint
constraint x (exclusion i j) = p.never_both i j
constraint x (most a k) = p.at_most (slice_index_or x.attributes a nobody) k
constraint x (least a k) = p.at_least (slice_index_or x.attributes a nobody) k

-- the constraints, with the one that a command states before them
abbrev pub constrains : Context → Command → List p.Constraint → List p.Constraint
constrains x (attribute name count) l = l
constrains x (operator ds) l = l
constrains x (restrict r) l = constraint x r ∷ l
constrains x (act a) l = l

-- the constraints that commands state, in their order
unfoldable pub constraints_of : Context → List Command → List p.Constraint
constraints_of x [] = []
constraints_of x (c ∷ cs) = constrains x c (constraints_of (declares c x) cs)

-- what stands on the stack of part four
pub data Item : Type 0 where
  as_target : p.Target → Item
  as_policy : p.Policy → Item

-- the attribute that has the pair i: attributes have their pairs one after the other, from 0 on
abbrev pub attribute_with : List p.Attribute → ℕ → Option p.Attribute
attribute_with ats i = find (λ a. nat_lt i (a.start + a.count)) ats

-- the target of the pair i
abbrev pub target_of : List p.Attribute → ℕ → p.Target
target_of ats i = p.pair (unwrap_or (attribute_with ats i) nobody) i

-- a one-operand code on the top item
abbrev pub changes : ℕ → List Item → List Item
changes code [] = []
changes code (as_target t ∷ s) = as_target (p.altered code t) ∷ s
changes code (as_policy r ∷ s) = as_policy (p.changed code r) ∷ s

-- the lower item is the first operand; the other cases do not come where the kinds have been checked
abbrev pub combines : Digits → List Item → List Item
combines ds [] = []
combines ds (y ∷ []) = []
combines ds (as_target u ∷ as_target t ∷ s) = as_target (p.joined ds t u) ∷ s
combines ds (as_target u ∷ as_policy r ∷ s) = []
combines ds (as_policy q ∷ as_target t ∷ s) = []
combines ds (as_policy q ∷ as_policy r ∷ s) = as_policy (p.combined ds r q) ∷ s

-- the policy on top, under the target below it
abbrev pub guards : List Item → List Item
guards [] = []
guards (y ∷ []) = []
guards (as_target u ∷ y ∷ s) = []
guards (as_policy r ∷ as_target t ∷ s) = as_policy (p.guarded t r) ∷ s
guards (as_policy r ∷ as_policy q ∷ s) = []

-- what an action makes of the stack
abbrev pub does : Context → Action → List Item → List Item
does x (push_pair i) s = as_target (target_of x.attributes i) ∷ s
does x (push d) s = as_policy (p.always d) ∷ s
does x (change code) s = changes code s
does x (combine code) s = combines (digits_of x.operators code) s
does x guard s = guards s
does x end s = s

-- what a command makes of the stack
abbrev pub puts : Context → Command → List Item → List Item
puts x (attribute name count) s = s
puts x (operator ds) s = s
puts x (restrict r) s = s
puts x (act a) s = does x a s

-- the stack after the commands, the last item first
unfoldable pub stack_of : Context → List Command → List Item → List Item
stack_of x [] s = s
stack_of x (c ∷ cs) s = stack_of (declares c x) cs (puts x c s)

-- the policy on top; a file that reads well has just one item, and that is a policy
abbrev pub top : List Item → p.Policy
top [] = p.always NotApplicable
top (as_target t ∷ s) = p.always NotApplicable
top (as_policy r ∷ s) = r

-- the file that commands stand for
abbrev pub file_of : List Command → Context → p.File
file_of cs x =
    record {
      attributes = x.attributes;
      pairs = x.pairs;
      operators = x.operators;
      constraints = constraints_of unopened.context cs;
      policy = top (stack_of unopened.context cs []);
    }

-- a fault by its number and place, or the file
pub data Reading : Type 0 where
  fault : ℕ → ℕ → Reading
  well : p.File → Reading

-- a fault, or a file that reads well
abbrev pub read_as : List Command → Stop → Reading
read_as cs (stopped n p) = fault n p
read_as cs (ended k) = well (file_of cs k.context)

-- what the bytes read to
abbrev pub reads : List ℕ → Reading
reads file = read_as (scan_file file).commands (scan_file file).stop
