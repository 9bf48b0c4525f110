-- Results that are kept beside the table, four words to an entry: a key, two references, the result.
use Rattle.std.specs.Prelude.{◌≡◌, ℕ, ◌+◌, ◌-◌, ◌*◌, ◌/◌, ◌%◌, ◌<◌, ◌≤◌, Bool, cond, ◌&&◌, List, length, Some, None, Option, ◌==◌, nat_lt, slice_index, slice_set}
use Rattle.diagram.specs.declared.memo.Operation.{Operation}
use Rattle.diagram.specs.Closing.{closed}
use Rattle.diagram.specs.Combining.{combined}
use Rattle.diagram.specs.Fixing.{fixed}
use Rattle.diagram.specs.Rules.{keyed}
use Rattle.diagram.specs.Spread.{spread}
use Rattle.diagram.specs.Store.{Store, mark, Outcome, done}

-- the operation of a key on two references
abbrev pub operation_of : ℕ → ℕ → ℕ → Operation
operation_of key a b = record { key = key; a = a; b = b }

-- are two operations equal?
abbrev pub alike : Operation → Operation → Bool
alike o p = o.key == p.key && (o.a == p.a && o.b == p.b)

-- how many results there is room for
abbrev pub entries : List ℕ → ℕ
entries memo = length memo / 4

-- the operation of entry k
abbrev pub operation_at : List ℕ → ℕ → Operation
operation_at memo k = operation_of (slice_index memo (4 * k)) (slice_index memo (4 * k + 1)) (slice_index memo (4 * k + 2))

-- the result in entry k
abbrev pub result_at : List ℕ → ℕ → ℕ
result_at memo k = slice_index memo (4 * k + 3)

-- the one entry where a result may be
abbrev pub slot : List ℕ → Operation → ℕ
slot memo o = spread (entries memo) o.key o.a o.b

-- the result that is kept of an operation, if one is
unfoldable pub recalled : List ℕ → Operation → Option ℕ
recalled memo o =
    cond (entries memo == 0) None
    (cond (alike (operation_at memo (slot memo o)) o) (Some (result_at memo (slot memo o))) None)

-- the words, with this result in entry k
abbrev pub written : List ℕ → ℕ → Operation → ℕ → List ℕ
written memo k o r = slice_set (slice_set (slice_set (slice_set memo (4 * k) o.key) (4 * k + 1) o.a) (4 * k + 2) o.b) (4 * k + 3) r

-- the words once a result is kept; where there is room for none they stay
unfoldable pub noted : List ℕ → Operation → ℕ → List ℕ
noted memo o r = cond (entries memo == 0) memo (written memo (slot memo o) o r)

-- the key under which a fixed pair is kept: 4 divides it, and no rule's
abbrev pub fix_key : ℕ → ℕ
fix_key j = 4 * (j + 1)

-- the key under which a closing is kept, from its rule's key, which is below 536,870,912
abbrev pub close_key : ℕ → ℕ
close_key key = 536870912 + key

-- what an operation comes to
unfoldable pub built : ℕ → Store → Operation → Outcome
built room s o =
    cond (nat_lt o.key 536870912)
    (cond (o.key % 4 == 0) (fixed room s (o.key / 4 - 1) o.a) (combined room s (keyed o.key) o.a o.b))
    (closed room s (keyed (o.key - 536870912)) o.a)

-- building anew would give r, with no new node, however much room there is
abbrev pub Known : Store → Operation → ℕ → Type 0
Known s o r = (o.a < mark s) × (o.b < mark s) × (o.key % 4 ≡ 0 → o.key ≤ 192) × ((room : ℕ) → built room s o ≡ done s r)

-- an entry whose key is 0 is empty
abbrev pub Entry : Store → Operation → ℕ → Type 0
Entry s o r = 0 < o.key → Known s o r

-- at most 4,096 entries
abbrev pub Few : List ℕ → Type 0
Few memo = length memo ≤ 16384

-- every entry is empty, or what building anew would give
abbrev pub Remembers : Store → List ℕ → Type 0
Remembers s memo = (k : ℕ) → k < entries memo → Entry s (operation_at memo k) (result_at memo k)
