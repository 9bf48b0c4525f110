-- What the type of diagrams holds of every value, for its methods and for the crates above.
use Rattle.std.proofs.Common.{ℕ, ◌+◌, ◌-◌, ◌<◌, ◌≤◌, arith}
use Rattle.diagram.specs.declared.diagrams.Diagrams.{Diagrams}
use Rattle.diagram.specs.Held.{store_of}
use Rattle.diagram.specs.Memo.{Remembers}
use Rattle.diagram.specs.Store.{mark, Sound}
use Rattle.diagram.specs.Words.{Chained, node_at}
use Rattle.diagram.proofs.Once.{sound_of, remembers_of}
use Rattle.diagram.proofs.Stands.{Standing}
use Rattle.diagram.proofs.Words.{length-stored, read}

-- the nodes in use are sound
pub standing : (d : Diagrams) → Sound (store_of d)
standing d = sound_of (store_of d) d.sound

-- the chains are in order
pub chained : (d : Diagrams) → Chained d.words.now d.fill
chained d = record { few = d.few; within = d.within; heads = d.heads; links = d.links }

-- the memo knows only what building anew would give
pub remembered : (d : Diagrams) → Remembers (store_of d) d.memo.now
remembered d = remembers_of (store_of d) d.memo.now d.knows

module _ (d : Diagrams) (r : ℕ) (stands : r < mark (store_of d)) where
  -- a reference that stands is below the fill mark
  pub below_fill : r < 8 + d.fill
  below_fill = omega (arith, length-stored d.words.now d.fill)

  -- and a node's is read from the words
  pub node_read : 8 ≤ r → Standing (store_of d) (node_at d.words.now (r - 8)) r
  node_read h = read d.words.now d.fill r h below_fill
