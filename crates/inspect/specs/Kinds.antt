-- The kinds of the items on the program's stack, and what making a tree of a policy can fail for.
use Rattle.std.specs.Prelude.{◌≡◌, List, ◌∷◌, map, reverse, Ok, Err, Result, Some, None, Option}
use Rattle.policy.specs.declared.kind.Kind.{Kind}
use Rattle.policy.specs.declared.kind.Kind.TheVariants as kind
use Rattle.policy.specs.Commands.{Command, kinds_after}
use Rattle.policy.specs.Reading.{Reading, fault, well}
use Rattle.inspect.specs.declared.failure.Failure.{Failure}
use Rattle.inspect.specs.declared.failure.Failure.TheVariants.{NoMemory, Items}
use Rattle.inspect.specs.declared.formula.Item as i
use Rattle.inspect.specs.declared.formula.Item.TheVariants as item_of_kind

-- the kind of an item
abbrev pub kind_of : i.Item → Kind
kind_of (item_of_kind.Target u) = kind.Target
kind_of (item_of_kind.Policy r) = kind.Policy

-- the kinds on the stack, the last item first
abbrev pub kinds : List i.Item → List Kind
kinds items = reverse (map kind_of items)

-- an item takes the place of some others, whatever is below them; or these are of the wrong kind
abbrev pub Turns : Result i.Item Failure → (List Kind → Option (List Kind)) → Type 0
Turns (Ok new) turn = (ks : List Kind) → turn ks ≡ Some (kind_of new ∷ ks)
Turns (Err Items) turn = (ks : List Kind) → turn ks ≡ None
Turns (Err NoMemory) turn = Unit {0}

-- the stack after a command; or items for it are missing or of the wrong kind
abbrev pub Allows : Result (Unit {0}) Failure → Command → List i.Item → List i.Item → Type 0
Allows (Ok u) c old new = kinds_after c (kinds old) ≡ Some (kinds new)
Allows (Err Items) c old new = kinds_after c (kinds old) ≡ None
Allows (Err NoMemory) c old new = Unit {0}

-- where the file reads well, this fails for want of memory alone
abbrev pub NeedsMemoryAlone : {A : Type 0} → Result A Failure → Reading → Type 0
NeedsMemoryAlone (Ok x) r = Unit {0}
NeedsMemoryAlone (Err NoMemory) r = Unit {0}
NeedsMemoryAlone (Err Items) (fault n place) = Unit {0}
NeedsMemoryAlone (Err Items) (well f) = ⊥
