use Rattle.std.proofs.Common.{◌≡◌, ◌+◌, ◌*◌, ◌<◌, set, sym, ◌∙◌, subst, arith}
use Rattle.diagram.specs.declared.node.Node.{Node}
use Rattle.diagram.specs.Store.{node_of}
use Rattle.diagram.specs.Words.{putting}
use Rattle.diagram.proofs.Counts.{older_parts}
use Rattle.diagram.proofs.Marks.{packing_none, packing_left, packing_taken}
use Rattle.diagram.proofs.sweep.pack.Goals as goal
use Rattle.diagram.proofs.sweep.pack.Goals.{After-node_at-node, then-words-k-ne0, else-words-k-ne0}

pub loop-k-init : goal.loop-k-init
loop-k-init c = packing_none c.args.words.now

-- the parts of the node, which is as it was at the start, are older than it
older : (c : After-node_at-node) → (c.node_at-node.result.low < 8 + c.loop-k.k) × (c.node_at-node.result.high < 8 + c.loop-k.k)
older c =
    let k = c.loop-k.k in
    subst (λ (m : Node). (m.low < 8 + k) × (m.high < 8 + k)) (sym (c.node_at-node.ensures ∙ c.loop-k.invariant.nodes k (omega arith)))
    (older_parts c.args.words.now c.args.fill k (omega arith) c.requires.sound)

pub new_at-low-requires : goal.new_at-low-requires
new_at-low-requires c = omega (arith, (older (goal.at.new_at-low-requires c).After-node_at-node).0)

pub new_at-high-requires : goal.new_at-high-requires
new_at-high-requires c = omega (arith, (older (goal.at.new_at-high-requires c).After-node_at-node).1)

pub loop-k-preserved : goal.loop-k-preserved
loop-k-preserved c =
    let ws = c.args.words.now in
    let vs = c.loop-k.words in
    let k = c.loop-k.k in
    let j = c.loop-k.place in
    let inv = c.loop-k.invariant in
    elim c.if-words-k-ne0.branch [
      | then-words-k-ne0 w ↦
          let n : Node = node_of w.node_at-node.result.pair w.new_at-low.result w.new_at-high.result in
          let is : c.if-words-k-ne0.words ≡ set (putting vs j n) (7 * k + 5) (8 + j) = w.words-is ∙ (λ i. set (w.put_node.ensures i) (7 * k + 5) (8 + j)) in
          rw (is, w.place-is) (packing_taken ws c.args.fill vs k j inv c.loop-k-test.true c.requires.sound c.requires.closed (omega arith) w.if-words-k-ne0.true w.node_at-node.result w.node_at-node.ensures _ _ w.new_at-low.ensures w.new_at-high.ensures)
      | else-words-k-ne0 w ↦ rw (w.words-is, w.place-is) (packing_left ws c.args.fill vs k j inv c.loop-k-test.true w.if-words-k-ne0.false)
    ]
