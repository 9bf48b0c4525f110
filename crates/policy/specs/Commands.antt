-- The commands of a policy file: their bytes, their operands, and what each one asks for.
use Rattle.std.specs.Prelude.{ℕ, ◌+◌, Bool, true, false, cond, not, ◌&&◌, ◌||◌, List, [], ◌∷◌, ◌++◌, length, take, drop, Some, None, Option, ◌==◌, nat_le, nat_lt, slice_index, slice_index_or}
use Rattle.std.specs.List.{list_all, list_any}
use Rattle.std.specs.Str.{bytes_eq}
use Rattle.policy.specs.declared.decision.Decision.{Decision}
use Rattle.policy.specs.declared.decision.Decision.TheVariants as decision
use Rattle.policy.specs.declared.opcode.Opcode.{Opcode}
use Rattle.policy.specs.declared.opcode.Opcode.TheVariants.{Attribute, Operator, Exclusion, AtMost, AtLeast, Pair, Allow, Deny, Change, Combine, Guard, End}
use Rattle.policy.specs.declared.kind.Kind.{Kind}
use Rattle.policy.specs.declared.kind.Kind.TheVariants.{Target, Policy}
use Rattle.policy.specs.Values.{Digits, is_change, is_standard, is_own, is_operator}
use Rattle.policy.specs.Policies as p

-- ---- what a command looks like

-- the command that a byte begins
abbrev pub opcode : ℕ → Option Opcode
opcode b =
    cond (b == 0x41) (Some Attribute) (
    cond (b == 0x4F) (Some Operator) (
    cond (b == 0x58) (Some Exclusion) (
    cond (b == 0x4D) (Some AtMost) (
    cond (b == 0x4C) (Some AtLeast) (
    cond (b == 0x74) (Some Pair) (
    cond (b == 0x31) (Some Allow) (
    cond (b == 0x30) (Some Deny) (
    cond (b == 0x6E) (Some Change) (
    cond (b == 0x62) (Some Combine) (
    cond (b == 0x67) (Some Guard) (
    cond (b == 0x2E) (Some End) None)))))))))))

-- which of the four parts of a file it belongs to
abbrev pub part : Opcode → ℕ
part Attribute = 1
part Operator = 2
part Exclusion = 3
part AtMost = 3
part AtLeast = 3
part Pair = 4
part Allow = 4
part Deny = 4
part Change = 4
part Combine = 4
part Guard = 4
part End = 4

-- how many bytes its operands have
abbrev pub size : Opcode → ℕ
size Attribute = 9
size Operator = 9
size Exclusion = 2
size AtMost = 2
size AtLeast = 2
size Pair = 1
size Allow = 0
size Deny = 0
size Change = 1
size Combine = 1
size Guard = 0
size End = 0

-- a constraint, with attributes by their number
pub data Restriction : Type 0 where
  exclusion : ℕ → ℕ → Restriction
  most : ℕ → ℕ → Restriction
  least : ℕ → ℕ → Restriction

-- a command of part four
pub data Action : Type 0 where
  push_pair : ℕ → Action
  push : Decision → Action
  change : ℕ → Action
  combine : ℕ → Action
  guard : Action
  end : Action

-- a command declares something, states a constraint, or acts on the stack
pub data Command : Type 0 where
  attribute : List ℕ → ℕ → Command
  operator : Digits → Command
  restrict : Restriction → Command
  act : Action → Command

-- is it the action that ends a file?
abbrev pub is_last : Action → Bool
is_last (push_pair i) = false
is_last (push d) = false
is_last (change c) = false
is_last (combine c) = false
is_last guard = false
is_last end = true

-- is it the end of the file?
abbrev pub is_end : Command → Bool
is_end (attribute name count) = false
is_end (operator ds) = false
is_end (restrict r) = false
is_end (act a) = is_last a

-- the byte at place p
abbrev pub byte : List ℕ → ℕ → ℕ
byte file p = slice_index file p

-- so many bytes, from a place on
abbrev pub bytes_from : List ℕ → ℕ → ℕ → List ℕ
bytes_from file from size = take size (drop from file)

-- the command with this opcode and these operands
abbrev pub decoded : Opcode → List ℕ → Command
decoded Attribute bs = attribute (take 8 bs) (slice_index bs 8)
decoded Operator bs = operator bs
decoded Exclusion bs = restrict (exclusion (slice_index bs 0) (slice_index bs 1))
decoded AtMost bs = restrict (most (slice_index bs 0) (slice_index bs 1))
decoded AtLeast bs = restrict (least (slice_index bs 0) (slice_index bs 1))
decoded Pair bs = act (push_pair (slice_index bs 0))
decoded Allow bs = act (push decision.Allow)
decoded Deny bs = act (push decision.Deny)
decoded Change bs = act (change (slice_index bs 0))
decoded Combine bs = act (combine (slice_index bs 0))
decoded Guard bs = act guard
decoded End bs = act end

-- is an action's code one, if it has any?
abbrev pub action_has_code : Action → Bool
action_has_code (push_pair i) = true
action_has_code (push d) = true
action_has_code (change code) = is_change code
action_has_code (combine code) = is_operator code
action_has_code guard = true
action_has_code end = true

-- is a command's code one, if it has any?
abbrev pub has_code : Command → Bool
has_code (attribute name count) = true
has_code (operator ds) = true
has_code (restrict r) = true
has_code (act a) = action_has_code a

-- the command at p, once its operands are there
abbrev pub command : List ℕ → ℕ → Opcode → Command
command file p o = decoded o (bytes_from file (p + 1) (size o))

-- ---- what the declarations so far say

-- what is declared so far: attributes, how many pairs they have together, own operators
pub record Context : Type 0 where
  pub attributes : List p.Attribute
  pub pairs : ℕ
  pub operators : List Digits

-- what is declared once a command is taken
abbrev pub declares : Command → Context → Context
declares (attribute name count) x =
    record {
      attributes = x.attributes ++ (record { name = name; start = x.pairs; count = count } ∷ []);
      pairs = x.pairs + count;
      operators = x.operators;
    }
declares (operator ds) x = record { attributes = x.attributes; pairs = x.pairs; operators = x.operators ++ (ds ∷ []) }
declares (restrict r) x = x
declares (act a) x = x

-- ---- are the operands allowed?

-- 21 to 7E (hexadecimal)
abbrev pub printable : ℕ → Bool
printable b = nat_le 0x21 b && nat_le b 0x7E

-- nothing but 00
abbrev pub zeros : List ℕ → Bool
zeros bs = list_all (λ b. b == 0) bs

-- printable bytes, and then 00 to the end
unfoldable pub padded : List ℕ → Bool
padded [] = true
padded (b ∷ bs) = cond (b == 0) (zeros bs) (printable b && padded bs)

-- one or more printable bytes, and then 00 to the end
unfoldable pub is_name : List ℕ → Bool
is_name bs = not (slice_index bs 0 == 0) && padded bs

-- no attribute has this name yet
abbrev pub fresh : List ℕ → List p.Attribute → Bool
fresh name ats = not (list_any (λ a. bytes_eq a.name name) ats)

-- 0, 1 or 2
abbrev pub are_digits : List ℕ → Bool
are_digits ds = list_all (λ d. nat_le d 2) ds

-- what stands where a number has no attribute
abbrev pub nobody : p.Attribute
nobody = record { name = []; start = 0; count = 0 }

-- an attribute that is declared, and a number up to its count
abbrev pub limits : Context → ℕ → ℕ → Bool
limits x a k = nat_lt a (length x.attributes) && nat_le k (slice_index_or x.attributes a nobody).count

-- are the operands of a constraint within what is declared?
abbrev pub restricts : Context → Restriction → Bool
restricts x (exclusion i j) = nat_lt i x.pairs && (nat_lt j x.pairs && not (i == j))
restricts x (most a k) = limits x a k
restricts x (least a k) = limits x a k

-- are the operands of an action allowed?
abbrev pub acts : Context → Action → Bool
acts x (push_pair i) = nat_lt i x.pairs
acts x (push d) = true
acts x (change code) = is_change code
acts x (combine code) = is_standard code || is_own x.operators code
acts x guard = true
acts x end = true

-- are the operands of a command allowed, after these declarations?
abbrev pub allowed : Context → Command → Bool
allowed x (attribute name count) = is_name name && (fresh name x.attributes && (nat_le 1 count && nat_le (x.pairs + count) 48))
allowed x (operator ds) = are_digits ds && nat_lt (length x.operators) 8
allowed x (restrict r) = restricts x r
allowed x (act a) = acts x a

-- ---- the kinds of the items on the stack, the last one pushed first

-- is it the kind of a policy?
abbrev pub is_policy : Kind → Bool
is_policy Target = false
is_policy Policy = true

-- are both targets, or both policies?
abbrev pub same_kind : Kind → Kind → Bool
same_kind Target y = not (is_policy y)
same_kind Policy y = is_policy y

-- some item
abbrev pub one_item : List Kind → Option (List Kind)
one_item [] = None
one_item (x ∷ ks) = Some (x ∷ ks)

-- two items of one kind become one of it
abbrev pub two_alike : List Kind → Option (List Kind)
two_alike [] = None
two_alike (x ∷ []) = None
two_alike (x ∷ y ∷ ks) = cond (same_kind x y) (Some (y ∷ ks)) None

-- a target and the policy above it become a policy
abbrev pub guarding : List Kind → Option (List Kind)
guarding [] = None
guarding (x ∷ []) = None
guarding (x ∷ y ∷ ks) = cond (is_policy x && not (is_policy y)) (Some (Policy ∷ ks)) None

-- the kinds after an action; none where items are missing or of the wrong kind
abbrev pub turns : Action → List Kind → Option (List Kind)
turns (push_pair i) ks = Some (Target ∷ ks)
turns (push d) ks = Some (Policy ∷ ks)
turns (change code) ks = one_item ks
turns (combine code) ks = two_alike ks
turns guard ks = guarding ks
turns end ks = Some ks

-- the kinds on the stack once a command is taken, if the stack allows it
abbrev pub kinds_after : Command → List Kind → Option (List Kind)
kinds_after (attribute name count) ks = Some ks
kinds_after (operator ds) ks = Some ks
kinds_after (restrict r) ks = Some ks
kinds_after (act a) ks = turns a ks

-- just one policy
abbrev pub one_policy : List Kind → Bool
one_policy [] = false
one_policy (x ∷ []) = is_policy x
one_policy (x ∷ y ∷ ks) = false
