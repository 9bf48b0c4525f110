-- What stands in a text, and what is added to it.
use Rattle.std.specs.Prelude.{◌≡◌, ℕ, List, ◌++◌, Ok, Err, string_bytes, Result}
use Rattle.inspect.specs.declared.text.Text.{Text}

-- the bytes that a text has so far
abbrev pub written : Text → List ℕ
written t = string_bytes t.text

-- these bytes were added
pub record Added (old new : Text) (bs : List ℕ) : Type 0 where
  pub is : written new ≡ written old ++ bs

-- unless memory fails, these bytes were added
abbrev pub Adds : {E : Type 0} → Result (Unit {0}) E → Text → Text → List ℕ → Type 0
Adds (Ok u) old new bs = Added old new bs
Adds (Err e) old new bs = Unit {0}
