-- What a reader has kept of declarations are parts of its file.
use Rattle.std.specs.Prelude.{◌≡◌, ℕ, Bool, true, ◌&&◌, ◌||◌, List, [], ◌∷◌, length, take, ◌==◌}
use Rattle.std.specs.List.{list_all}
use Rattle.std.specs.Str.{bytes_eq}
use Rattle.policy.specs.declared.command.Attribute.{Attribute}
use Rattle.policy.specs.declared.operator.Row.{Row}

-- do these bytes stand in the file, from some place on?
unfoldable pub stands_in : List ℕ → List ℕ → Bool
stands_in [] bs = bytes_eq [] bs
stands_in (b ∷ file) bs = bytes_eq (take (length bs) (b ∷ file)) bs || stands_in file bs

-- are these so many bytes of the file?
abbrev pub part_of : List ℕ → ℕ → List ℕ → Bool
part_of file size bs = length bs == size && stands_in file bs

-- each name is eight bytes of the file
abbrev pub NamesWithin : List ℕ → List Attribute → Type 0
NamesWithin file ats = list_all (λ a. part_of file 8 a.name.now) ats ≡ true

-- the digits of each operator are nine bytes of the file
abbrev pub OperatorsWithin : List ℕ → List Row → Type 0
OperatorsWithin file rows = list_all (λ row. part_of file 9 row.entries) rows ≡ true
