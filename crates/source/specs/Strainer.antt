-- A strainer passes the pairs whose label is among its first eight listed labels.
use Rattle.std.specs.Prelude.{◌≡◌, ℕ, ◌<◌, Bool, true, false, cond, List, take, Some, None, Option, ◌==◌}
use Rattle.std.specs.List.{list_any}
use Rattle.std.proofs.Common.{ap, arith}
use Rattle.source.specs.Meanings.{Meaning}

-- is l one of these?
abbrev pub among : List ℕ → ℕ → Bool
among labels l = list_any (λ x. x == l) labels

-- the label, if it is one of the first eight that are listed
abbrev pub strained : List ℕ → Option ℕ → Option ℕ
strained labels None = None
strained labels (Some l) = cond (among (take 8 labels) l) (Some l) None

-- ---- the laws that it owes

only : (b : Bool) (x l : ℕ) → cond b (Some x) None ≡ Some l → Some x ≡ Some l
only true x l e = e
only false x l e = absurd (let z : ◌≡◌ {A = ℕ} 0 1 = cc in omega arith)

-- it is one byte
pub strained_byte : (labels : List ℕ) (x : Option ℕ) (l : ℕ) → (x ≡ Some l → l < 256) → strained labels x ≡ Some l → l < 256
strained_byte labels None l f e = f e
strained_byte labels (Some x) l f e = f (only (among (take 8 labels) x) x l e)

-- there is none where there was none
pub strained_silent : (labels : List ℕ) (x : Option ℕ) → x ≡ None → strained labels x ≡ None
strained_silent labels x e = ap (strained labels) e

-- what a strainer over a source means
abbrev pub strainer : List ℕ → Meaning → Meaning
strainer labels below =
    record {
      label = λ i. strained labels (below.label i);
      one_byte = λ i l e. strained_byte labels (below.label i) l (below.one_byte i l) e;
      silent_above = λ i h. strained_silent labels (below.label i) (below.silent_above i h);
    }
