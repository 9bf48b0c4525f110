-- A shutter hides a fixed set of pairs of the source below it.
use Rattle.std.specs.Prelude.{◌≡◌, ℕ, ◌<◌, Bool, true, false, cond, Some, None, Option, refl}
use Rattle.std.proofs.Common.{arith}
use Rattle.source.specs.Meanings.{Meaning}
use Rattle.source.specs.Sets.{has}

-- the label, unless the pair is hidden
abbrev pub unless : Bool → Option ℕ → Option ℕ
unless hides x = cond hides None x

-- ---- the laws that it owes

-- it is one byte
pub unless_byte : (b : Bool) (x : Option ℕ) (l : ℕ) → (x ≡ Some l → l < 256) → unless b x ≡ Some l → l < 256
unless_byte true x l f e = absurd (let z : ◌≡◌ {A = ℕ} 0 1 = cc in omega arith)
unless_byte false x l f e = f e

-- there is none where there was none
pub unless_silent : (b : Bool) (x : Option ℕ) → x ≡ None → unless b x ≡ None
unless_silent true x e = refl
unless_silent false x e = e

-- what a shutter over a source means
abbrev pub shutter : ℕ → Meaning → Meaning
shutter hidden below =
    record {
      label = λ i. unless (has hidden i) (below.label i);
      one_byte = λ i l e. unless_byte (has hidden i) (below.label i) l (below.one_byte i l) e;
      silent_above = λ i h. unless_silent (has hidden i) (below.label i) (below.silent_above i h);
    }
