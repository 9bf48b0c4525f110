use Rattle.std.proofs.Common.{sym, ◌∙◌, arith}
use Rattle.std.proofs.lemmas.Bool.{cond-true, cond-false}
use Rattle.diagram.specs.Calls.{asked}
use Rattle.diagram.specs.Held.{seen_in}
use Rattle.diagram.proofs.Once.{sound_of}
use Rattle.diagram.proofs.Stands.{Seen, seen, eval_leaf}
use Rattle.diagram.proofs.Words.{read, length-stored}
use Rattle.diagram.proofs.view.View.leaf.Goals as goal
use Rattle.diagram.proofs.view.View.leaf.Goals.{After-node_at-node}

at : (c : After-node_at-node) → Seen (seen_in c.args.self.now) c.node_at-node.result c.loop-r.r
at c =
    let v = c.args.self.now in
    seen (seen_in v) (sound_of (seen_in v) v.sound) c.node_at-node.result c.loop-r.r
    (rw c.node_at-node.ensures (read v.words.now v.fill c.loop-r.r (omega arith) (omega (arith, c.loop-r.invariant.0, length-stored v.words.now v.fill))))

pub node_at-node-requires : goal.node_at-node-requires
node_at-node-requires c = let v = c.args.self.now in omega (arith, c.loop-r.invariant.0, v.within, length-stored v.words.now v.fill)

pub bounds-query-node : goal.bounds-query-node
bounds-query-node c = (at (goal.at.bounds-query-node c).After-node_at-node).small

pub loop-r-smaller-then-query-node : goal.loop-r-smaller-then-query-node
loop-r-smaller-then-query-node c =
    let n = at (goal.at.loop-r-smaller-then-query-node c).After-node_at-node in
    let later = n.high.later in
    let small = n.small in
    let tops = n.tops in
    omega arith

pub loop-r-smaller : goal.loop-r-smaller
loop-r-smaller c =
    let n = at (goal.at.loop-r-smaller c).After-node_at-node in
    let later = n.low.later in
    let small = n.small in
    let tops = n.tops in
    omega arith

pub loop-r-preserved-then-query-node : goal.loop-r-preserved-then-query-node
loop-r-preserved-then-query-node c =
    let n = at (goal.at.loop-r-preserved-then-query-node c).After-node_at-node in
    (n.high.below, sym (n.means (asked c.args.query) ∙ cond-true _ _ _ c.if-query-node.true) ∙ c.loop-r.invariant.1)

pub loop-r-preserved : goal.loop-r-preserved
loop-r-preserved c =
    let n = at (goal.at.loop-r-preserved c).After-node_at-node in
    (n.low.below, sym (n.means (asked c.args.query) ∙ cond-false _ _ _ c.if-query-node.false) ∙ c.loop-r.invariant.1)

pub returns : goal.returns
returns c = sym (eval_leaf (seen_in c.args.self.now) c.loop-r.r (asked c.args.query) c.loop-r-test.false) ∙ c.loop-r.invariant.1
