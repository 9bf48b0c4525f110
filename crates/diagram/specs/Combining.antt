-- What combining two diagrams by a rule comes to, node by node.
use Rattle.std.specs.Prelude.{ℕ, zero, suc, min, cond, ◌==◌, nat_lt}
use Rattle.diagram.specs.Store.{Store, node_of, top, low_part, high_part, Outcome, done, bind, made}

-- the part of r once the pair v is decided: r itself where r does not test v
abbrev pub low_at : Store → ℕ → ℕ → ℕ
low_at s v r = cond (top s r == v) (low_part s r) r

-- the high part at pair v; a reference that does not test v is its own
abbrev pub high_at : Store → ℕ → ℕ → ℕ
high_at s v r = cond (top s r == v) (high_part s r) r

-- the smallest top pair, and 48 where both are leaves
abbrev pub first : Store → ℕ → ℕ → ℕ
first s a b = min (top s a) (top s b)

-- low parts first, then the high parts, then their node; `deep` bounds how many pairs are tested on any way down
unfoldable pub combining : ℕ → ℕ → Store → (ℕ → ℕ → ℕ) → ℕ → ℕ → Outcome
combining zero room s rule a b = done s (rule a b)
combining (suc deep) room s rule a b =
    cond (nat_lt (first s a b) 48)
    (bind (combining deep room s rule (low_at s (first s a b) a) (low_at s (first s a b) b)) (λ s₁ l.
    bind (combining deep room s₁ rule (high_at s (first s a b) a) (high_at s (first s a b) b)) (λ s₂ h.
    made room s₂ (node_of (first s a b) l h))))
    (done s (rule a b))

-- there are 48 pairs
unfoldable pub combined : ℕ → Store → (ℕ → ℕ → ℕ) → ℕ → ℕ → Outcome
combined room s rule a b = combining 48 room s rule a b
