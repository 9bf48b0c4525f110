-- What a source means: for each pair silence, or a label.
use Rattle.std.specs.Prelude.{◌≡◌, ℕ, ◌%◌, ◌<◌, ◌≤◌, Bool, is_some, Some, None, Option}

-- Whoever gives a meaning owes its two laws: labels are 0 to 255, and only pairs 0 to 47 have one.
pub record Meaning : Type 0 where
  pub label : ℕ → Option ℕ
  pub one_byte : (i l : ℕ) → label i ≡ Some l → l < 256
  pub silent_above : (i : ℕ) → 48 ≤ i → label i ≡ None

-- does the source tell the pair?
abbrev pub tells : Meaning → ℕ → Bool
tells m i = is_some (m.label i)

-- a label is one byte: of any other number the last eight bits
abbrev pub labelled : ℕ → Option ℕ
labelled l = Some (l % 256)
