-- Printable ASCII and line ends.
use Rattle.std.specs.Prelude.{ℕ, Bool, ◌&&◌, ◌||◌, List, ◌==◌, nat_le}
use Rattle.std.specs.List.{filter, list_all}

-- a line end, or a printable ASCII character
abbrev pub is_plain : ℕ → Bool
is_plain b = b == 10 || (nat_le 0x20 b && nat_le b 0x7E)

-- are all bytes so?
abbrev pub all_plain : List ℕ → Bool
all_plain bs = list_all is_plain bs

-- the plain ones of some bytes
abbrev pub kept : List ℕ → List ℕ
kept bs = filter is_plain bs
