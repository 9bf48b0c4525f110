-- What closing a diagram comes to, node by node, and what it is for.
use Rattle.std.specs.Prelude.{◌≡◌, ℕ, zero, suc, ◌<◌, true, cond, nat_lt}
use Rattle.diagram.specs.Combining.{combined}
use Rattle.diagram.specs.Kinds.{Under}
use Rattle.diagram.specs.Store.{Store, Query, node_of, top, low_part, high_part, Outcome, done, bind, made}

-- a leaf stays; of a node the low part is closed, then the high part, the two are joined, and the node has the join for its low part
unfoldable pub closing : ℕ → ℕ → Store → (ℕ → ℕ → ℕ) → ℕ → Outcome
closing zero room s join r = done s r
closing (suc deep) room s join r =
    cond (nat_lt (top s r) 48)
    (bind (closing deep room s join (low_part s r)) (λ s₁ l.
    bind (closing deep room s₁ join (high_part s r)) (λ s₂ h.
    bind (combined room s₂ join l h) (λ s₃ j.
    made room s₃ (node_of (top s r) j h)))))
    (done s r)

-- there are 48 pairs
abbrev pub closed : ℕ → Store → (ℕ → ℕ → ℕ) → ℕ → Outcome
closed room s join r = closing 48 room s join r

-- p contains q: it has every pair that q has
abbrev pub Contains : Query → Query → Type 0
Contains p q = (i : ℕ) → i < 48 → q i ≡ true → p i ≡ true

-- some query that contains q, which is shown, does so
pub record ContainedIn (P : Query → Type 0) (q : Query) : Type 0 where
  pub later : Query
  pub contains : Contains later q
  pub holds : P later

-- every query comes to one of the codes 0 to codes − 1
abbrev pub Coded : ℕ → (Query → ℕ) → Type 0
Coded codes f = (q : Query) → f q < codes

-- u is the least upper bound of f over all queries that contain q, in the order that the join gives
pub record Bound (codes : ℕ) (join : ℕ → ℕ → ℕ) (f : Query → ℕ) (q : Query) (u : ℕ) : Type 0 where
  pub code : u < codes
  pub upper : (p : Query) → Contains p q → Under join (f p) u
  pub least : (b : ℕ) → b < codes → ((p : Query) → Contains p q → Under join (f p) b) → Under join u b
