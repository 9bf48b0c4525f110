-- What the program's types stand for, in the words of the format.
use Rattle.std.specs.Prelude.{◌≡◌, ℕ, suc, ◌+◌, ◌-◌, ◌≤◌, true, false, cond, ◌||◌, List, [], ◌∷◌, map, reverse, length, drop, Some, None, Ok, Err, Option, Result, ◌==◌, slice_index_or}
use Rattle.policy.specs.declared.command.Attribute.{Attribute}
use Rattle.policy.specs.declared.command.Command.{Command}
use Rattle.policy.specs.declared.commands.Commands.{Commands}
use Rattle.policy.specs.declared.fault.ReadFault.{ReadFault}
use Rattle.policy.specs.declared.encoded.Encoded.{Encoded}
use Rattle.policy.specs.declared.reader.steps.Checked.{Checked}
use Rattle.policy.specs.declared.reader.Reader.{Reader}
use Rattle.policy.specs.declared.command.Command.TheVariants as code
use Rattle.policy.specs.declared.kind.Kind.{Kind}
use Rattle.policy.specs.declared.kinds.Kinds.{Kinds}
use Rattle.policy.specs.declared.kinds.Effect.{Effect}
use Rattle.policy.specs.declared.kinds.Effect.TheVariants.{Keep, Push, Join}
use Rattle.policy.specs.declared.operator.Row.{Row}
use Rattle.policy.specs.Values.{Digits, standard, is_standard, is_own, digits_of}
use Rattle.policy.specs.Policies as p
use Rattle.policy.specs.Commands as c
use Rattle.policy.specs.Reading.{Progress, Step, refused, took, step, command_step, checked, Scan, scan, Reading, fault, well}
use Rattle.policy.specs.Codes.{change_code, operator_code}
use Rattle.policy.specs.Rows.{tables}
use Rattle.policy.specs.Parts.{part_number, reached}
use Rattle.policy.specs.Refusals.{number, place as fault_place}

-- the command that a value of the code stands for
abbrev pub command : Command → c.Command
command (code.Attribute name count) = c.attribute name.now count
command (code.Operator digits) = c.operator digits.now
command (code.Exclusion first second) = c.restrict (c.exclusion first second)
command (code.AtMost attribute limit) = c.restrict (c.most attribute limit)
command (code.AtLeast attribute limit) = c.restrict (c.least attribute limit)
command (code.Pair i) = c.act (c.push_pair i)
command (code.Constant d) = c.act (c.push d)
command (code.Change change) = c.act (c.change (change_code change))
command (code.Combine operator) = c.act (c.combine (operator_code operator))
command code.Guard = c.act c.guard
command code.End = c.act c.end

-- the answer of decoding a command: it, or none where the code of its operator is no code
abbrev pub Decoded : Option Command → c.Command → Type 0
Decoded None x = c.has_code x ≡ false
Decoded (Some k) x = command k ≡ x

-- the kinds on the stack, the top first
abbrev pub stack : Kinds → List Kind
stack k = reverse k.items.items

-- the kinds after what a command does
abbrev pub stack_after : List Kind → Effect → List Kind
stack_after ks Keep = ks
stack_after ks (Push k) = k ∷ ks
stack_after ks (Join k) = k ∷ drop 2 ks

-- the row of a standard code, and none for any other code
abbrev pub StandardRow : Option Row → ℕ → Type 0
StandardRow None code = is_standard code ≡ false
StandardRow (Some row) code = (is_standard code ≡ true) × (row.entries ≡ slice_index_or standard (code - 0x10) [])

-- ---- the reader

-- the file that a reader reads
abbrev pub bytes : Reader → List ℕ
bytes r = r.file.now

-- where a reader's next command begins
abbrev pub place : Reader → ℕ
place r = r.place

-- the attribute that a value of the code stands for
abbrev pub attribute : Attribute → p.Attribute
attribute a = record { name = a.name.now; start = a.start; count = a.count }

-- what a reader has met of declarations
abbrev pub context : Reader → c.Context
context r = record { attributes = map attribute r.attributes.items; pairs = r.pairs; operators = tables r.operators.items }

-- how far a reader is
abbrev pub progress : Reader → Progress
progress r = record { part = reached r.part; context = context r; kinds = stack r.kinds }

-- the next step of a reader, as it answers it
abbrev pub told : Result Command ReadFault → Reader → Step
told (Ok x) r = took (command x) (progress r) (place r)
told (Err f) r = refused (number f) (fault_place f)

-- the next step of a reader
abbrev pub next_step : Reader → Step
next_step r = step (progress r) (bytes r) (place r)

-- the next step of a reader that has looked at the opening
abbrev pub next_command : Reader → Step
next_command r = command_step (progress r) (bytes r) (place r)

-- the file is not too long and has the opening, so that the next step is that of the command
pub record Opened (r : Reader) : Type 0 where
  pub short : length (bytes r) ≤ 65535
  pub within : place r ≤ length (bytes r)
  pub is : next_step r ≡ next_command r

-- the next step is this refusal
abbrev pub Refuses : ReadFault → Reader → Type 0
Refuses f r = next_step r ≡ refused (number f) (fault_place f)

-- the opening is in order, or refused so
abbrev pub Opens : Result (Unit {0}) ReadFault → Reader → Type 0
Opens (Ok u) r = Opened r
Opens (Err f) r = Refuses f r

-- the checks of a command that are left once its operands are there
abbrev pub checks_left : Reader → Encoded → c.Command → Step
checks_left r e x = checked (progress r) (bytes r) e.place e.opcode x

-- a command of the file begins so where the reader stands, and its operands are there
pub record Begun (e : Encoded) (r : Reader) : Type 0 where
  pub at : e.place ≡ place r
  pub operands : e.operands.now ≡ c.bytes_from (bytes r) (place r + 1) (c.size e.opcode)
  pub short : length (bytes r) ≤ 65535
  pub within : e.next ≤ length (bytes r)
  pub is : next_step r ≡ checks_left r e (c.decoded e.opcode e.operands.now)

-- a command begins so, or is refused so
abbrev pub Begins : Result Encoded ReadFault → Reader → Type 0
Begins (Ok e) r = Begun e r
Begins (Err f) r = Refuses f r

-- what a reader knows after a command of this part that does this to the stack
abbrev pub after : Reader → ℕ → c.Command → Effect → Progress
after r part x e = record { part = part; context = c.declares x (context r); kinds = stack_after (stack r.kinds) e }

-- the operands and the stack allow the command, which does this to the stack
pub record Settled (x : c.Command) (e : Effect) (r : Reader) : Type 0 where
  pub allows : c.allowed (context r) x ≡ true
  pub few : length (stack_after (stack r.kinds) e) ≤ 16

-- the checks that are left pass with this effect on the stack, or refuse so
abbrev pub Settles : Encoded → c.Command → Result Effect ReadFault → Reader → Type 0
Settles y x (Ok e) r = Settled x e r × (checks_left r y x ≡ took x (after r (c.part y.opcode) x e) y.next)
Settles y x (Err f) r = checks_left r y x ≡ refused (number f) (fault_place f)

-- a command is in order: the next step takes it
pub record InOrder (x : Checked) (r : Reader) : Type 0 where
  pub short : length (bytes r) ≤ 65535
  pub within : x.next ≤ length (bytes r)
  pub settled : Settled (command x.command) x.effect r
  pub is : next_step r ≡ took (command x.command) (after r (part_number x.part) (command x.command) x.effect) x.next

-- all checks of the next command pass so, or refuse so
abbrev pub Checks : Result Checked ReadFault → Reader → Type 0
Checks (Ok x) r = InOrder x r
Checks (Err f) r = Refuses f r

-- a refusal leaves the reader as it was
abbrev pub UnlessTaken : Result Command ReadFault → Reader → Reader → Type 0
UnlessTaken (Ok x) old new = Unit {0}
UnlessTaken (Err f) old new = new ≡ old

-- what is still ahead of a reader
abbrev pub ahead : Reader → Scan
ahead r = scan (suc (length (bytes r))) (progress r) (bytes r) (place r)

-- ---- what was declared

-- the code of the own operator that was declared last
abbrev pub newest : List Digits → Option ℕ
newest own = cond (length own == 0) None (Some (0x20 + (length own - 1)))

-- the operator of a code, and none where there is no such operator
abbrev pub RowOf : Option Row → List Digits → ℕ → Type 0
RowOf None own code = (is_standard code || is_own own code) ≡ false
RowOf (Some row) own code = ((is_standard code || is_own own code) ≡ true) × (row.entries ≡ digits_of own code) × (c.are_digits row.entries ≡ true)

-- ---- a whole file

-- the answer of a check is what the file reads to: how many pairs it has, or the fault by its number and place
abbrev pub Answers : Result ℕ ReadFault → Reading → Type 0
Answers (Ok n) (well f) = n ≡ f.pairs
Answers (Ok n) (fault m p) = ⊥
Answers (Err e) (well f) = ⊥
Answers (Err e) (fault m p) = (number e ≡ m) × (fault_place e ≡ p)

-- the commands that are still to come
abbrev pub to_come : Commands → List c.Command
to_come s = cond s.over [] (ahead s.reader).commands

-- the first of them is yielded, and the others are then to come; or there are none
abbrev pub Yields : Commands → Option Command → Commands → Type 0
Yields old None new = (to_come old ≡ []) × (to_come new ≡ [])
Yields old (Some x) new = (to_come old ≡ command x ∷ to_come new) × (next_step old.reader ≡ told (Ok x) new.reader)
