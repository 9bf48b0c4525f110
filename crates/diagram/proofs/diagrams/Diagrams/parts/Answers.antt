use Rattle.std.proofs.Common.{sym, ap, ◌∙◌, arith}
use Rattle.diagram.specs.declared.node.Node.{Node}
use Rattle.diagram.specs.Held.{store_of}
use Rattle.diagram.proofs.Halves.{low_other, high_other, low_here, high_here}
use Rattle.diagram.proofs.Standing.{below_fill, node_read}
use Rattle.diagram.proofs.Stands.{top_leaf}
use Rattle.diagram.proofs.diagrams.Diagrams.parts.Goals as goal

pub returns-then-r-lt-LEAVES-clause-low : goal.returns-then-r-lt-LEAVES-clause-low
returns-then-r-lt-LEAVES-clause-low c =
    let s = store_of c.args.self.now in
    low_other s c.args.v c.args.r (λ e. omega (arith, top_leaf s c.args.r c.if-r-lt-LEAVES.true))

pub returns-then-r-lt-LEAVES-clause-high : goal.returns-then-r-lt-LEAVES-clause-high
returns-then-r-lt-LEAVES-clause-high c =
    let s = store_of c.args.self.now in
    high_other s c.args.v c.args.r (λ e. omega (arith, top_leaf s c.args.r c.if-r-lt-LEAVES.true))

pub node_at-node-requires : goal.node_at-node-requires
node_at-node-requires c = omega (arith, below_fill c.args.self.now c.args.r c.requires.stands, c.args.self.now.within)

pub returns-then-node-v-clause-low : goal.returns-then-node-v-clause-low
returns-then-node-v-clause-low c =
    let st = node_read c.args.self.now c.args.r c.requires.stands c.if-r-lt-LEAVES.false in
    let is = c.node_at-node.ensures in
    low_here (store_of c.args.self.now) c.args.v c.args.r _ (st.pairs ∙ ap (λ (n : Node). n.pair) (sym is) ∙ c.if-node-v.true) (st.lows ∙ ap (λ (n : Node). n.low) (sym is))

pub returns-then-node-v-clause-high : goal.returns-then-node-v-clause-high
returns-then-node-v-clause-high c =
    let st = node_read c.args.self.now c.args.r c.requires.stands c.if-r-lt-LEAVES.false in
    let is = c.node_at-node.ensures in
    high_here (store_of c.args.self.now) c.args.v c.args.r _ (st.pairs ∙ ap (λ (n : Node). n.pair) (sym is) ∙ c.if-node-v.true) (st.highs ∙ ap (λ (n : Node). n.high) (sym is))

pub returns-else-node-v-clause-low : goal.returns-else-node-v-clause-low
returns-else-node-v-clause-low c =
    let st = node_read c.args.self.now c.args.r c.requires.stands c.if-r-lt-LEAVES.false in
    low_other (store_of c.args.self.now) c.args.v c.args.r (λ e. c.if-node-v.false (ap (λ (n : Node). n.pair) c.node_at-node.ensures ∙ sym st.pairs ∙ e))

pub returns-else-node-v-clause-high : goal.returns-else-node-v-clause-high
returns-else-node-v-clause-high c =
    let st = node_read c.args.self.now c.args.r c.requires.stands c.if-r-lt-LEAVES.false in
    high_other (store_of c.args.self.now) c.args.v c.args.r (λ e. c.if-node-v.false (ap (λ (n : Node). n.pair) c.node_at-node.ensures ∙ sym st.pairs ∙ e))
