use Rattle.std.proofs.Common.{◌≡◌, ℕ, ◌+◌, ◌-◌, ◌<◌, sym, ◌∙◌, subst, arith}
use Rattle.diagram.specs.declared.node.Node.{Node}
use Rattle.diagram.specs.Sweeping.{marking}
use Rattle.diagram.specs.Words.{node_at}
use Rattle.diagram.proofs.Counts.{older_parts}
use Rattle.diagram.proofs.Marks.{Parted, only_node, marked_yes, marked_not, parted_none, parted_pass, parted_more}
use Rattle.diagram.proofs.sweep.mark_parts.Goals as goal
use Rattle.diagram.proofs.sweep.mark_parts.Goals.{After-node_at-node}

-- the node is the one that stood there at the start
node : (c : After-node_at-node) → c.node_at-node.result ≡ node_at c.args.words.now (c.loop-k.k - 1)
node c = c.node_at-node.ensures ∙ only_node c.args.words.now c.loop-k.words c.loop-k.invariant.only (c.loop-k.k - 1)

older : (c : After-node_at-node) → (c.node_at-node.result.low < 8 + c.args.fill) × (c.node_at-node.result.high < 8 + c.args.fill)
older c =
    let k : ℕ = c.loop-k.k - 1 in
    let parts = older_parts c.args.words.now c.args.fill k (omega arith) c.requires.sound in
    subst (λ (m : Node). (m.low < 8 + c.args.fill) × (m.high < 8 + c.args.fill)) (sym (node c)) (omega (arith, parts.0), omega (arith, parts.1))

pub set_mark-requires : goal.set_mark-requires
set_mark-requires c = let parts = older (goal.at.set_mark-requires c).After-node_at-node in omega (arith, parts.0, parts.1)

pub set_mark-requires-then-words-k-ne0 : goal.set_mark-requires-then-words-k-ne0
set_mark-requires-then-words-k-ne0 c = let parts = older (goal.at.set_mark-requires-then-words-k-ne0 c).After-node_at-node in omega (arith, parts.0, parts.1)

pub loop-k-preserved-then-words-k-ne0 : goal.loop-k-preserved-then-words-k-ne0
loop-k-preserved-then-words-k-ne0 c =
    let ws = c.args.words.now in
    let vs = c.loop-k.words in
    let k : ℕ = c.loop-k.k - 1 in
    let up : c.loop-k.k ≡ k + 1 = omega arith in
    let at = (goal.at.loop-k-preserved-then-words-k-ne0 c).After-node_at-node in
    let same = node at in
    let is : c.set_mark-then-words-k-ne0.new.words ≡ marking (marking vs (node_at ws k).low) (node_at ws k).high =
    c.set_mark-then-words-k-ne0.ensures ∙ (λ i. marking (c.set_mark.ensures i) c.node_at-node.result.high) ∙ (λ i. marking (marking vs (same i).low) (same i).high) in
    let parts = older_parts ws c.args.fill k (omega arith) c.requires.sound in
    subst (λ us. Parted ws c.args.fill us k) (sym is)
    (parted_more ws c.args.fill vs k (omega arith) (subst (Parted ws c.args.fill vs) up c.loop-k.invariant) (marked_yes vs k c.if-words-k-ne0.true) (omega (arith, parts.0)) (omega (arith, parts.1)))

pub loop-k-preserved : goal.loop-k-preserved
loop-k-preserved c =
    let k : ℕ = c.loop-k.k - 1 in
    let up : c.loop-k.k ≡ k + 1 = omega arith in
    parted_pass c.args.words.now c.args.fill c.loop-k.words k (omega arith) (subst (Parted c.args.words.now c.args.fill c.loop-k.words) up c.loop-k.invariant) (marked_not c.loop-k.words k c.if-words-k-ne0.false)

pub returns-clause-is : goal.returns-clause-is
returns-clause-is c =
    let none : c.loop-k.k ≡ 0 = omega arith in
    parted_none c.args.words.now c.args.fill c.loop-k.words (subst (Parted c.args.words.now c.args.fill c.loop-k.words) none c.loop-k.invariant)
