-- What fixing a pair as present comes to, node by node.
use Rattle.std.specs.Prelude.{ℕ, zero, suc, cond, ◌==◌, nat_lt}
use Rattle.diagram.specs.Store.{Store, node_of, top, low_part, high_part, Outcome, done, bind, made}

-- the high part at the pair j; nodes of later pairs stay; those of earlier pairs are built anew, the low part first
unfoldable pub fixing : ℕ → ℕ → Store → ℕ → ℕ → Outcome
fixing zero room s j r = done s r
fixing (suc deep) room s j r =
    cond (top s r == j) (done s (high_part s r))
    (cond (nat_lt j (top s r)) (done s r)
    (bind (fixing deep room s j (low_part s r)) (λ s₁ l.
    bind (fixing deep room s₁ j (high_part s r)) (λ s₂ h.
    made room s₂ (node_of (top s r) l h)))))

-- there are 48 pairs
unfoldable pub fixed : ℕ → Store → ℕ → ℕ → Outcome
fixed room s j r = fixing 48 room s j r
