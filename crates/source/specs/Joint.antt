-- A joint of two sources tells what either tells, with the first's label where the first tells it.
use Rattle.std.specs.Prelude.{◌≡◌, ℕ, ◌<◌, Some, None, Option}
use Rattle.std.proofs.Common.{ap, ◌∙◌}
use Rattle.source.specs.Meanings.{Meaning}

-- the first label, and where there is none the second
abbrev pub or_else : Option ℕ → Option ℕ → Option ℕ
or_else None b = b
or_else (Some l) b = Some l

-- ---- the laws that it owes

-- it is one byte
pub either_byte : (a b : Option ℕ) (l : ℕ) → (a ≡ Some l → l < 256) → (b ≡ Some l → l < 256) → or_else a b ≡ Some l → l < 256
either_byte None b l f g e = g e
either_byte (Some x) b l f g e = f e

-- there is none where both have none
pub neither : (a b : Option ℕ) → a ≡ None → b ≡ None → or_else a b ≡ None
neither a b e f = ap (λ x. or_else x b) e ∙ f

-- what a joint of two sources means
abbrev pub joint : Meaning → Meaning → Meaning
joint first second =
    record {
      label = λ i. or_else (first.label i) (second.label i);
      one_byte = λ i l e. either_byte (first.label i) (second.label i) l (first.one_byte i l) (second.one_byte i l) e;
      silent_above = λ i h. neither (first.label i) (second.label i) (first.silent_above i h) (second.silent_above i h);
    }
