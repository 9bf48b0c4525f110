use Rattle.std.proofs.Common.{sym, ap, ◌∙◌, subst, arith}
use Rattle.diagram.specs.Store.{same}
use Rattle.diagram.proofs.Chains.{Walk, walk_start, walk_less, walk_again, walk_found, walk_end}
use Rattle.diagram.proofs.table.find.Goals as goal

pub loop-k-init : goal.loop-k-init
loop-k-init c = walk_start _ _ _ _ c.requires.here c.requires.chained c.requires.below

pub returns : goal.returns
returns c = walk_end _ _ _ _ c.requires.here (subst (Walk c.args.words.now c.args.fill c.args.b c.args.node) (omega (arith, c.in_default.ensures)) c.loop-k.invariant)

pub returns-then-eq : goal.returns-then-eq
returns-then-eq c = walk_found _ _ _ _ c.requires.here c.requires.chained _ c.in-Some.k (omega (arith, c.in-Some.ensures)) c.loop-k.invariant (ap (λ m. same m c.args.node) (sym c.node_at.ensures) ∙ sym c.if-eq.ensures)

pub loop-k-smaller : goal.loop-k-smaller
loop-k-smaller c = walk_less _ _ _ _ c.requires.here c.requires.chained _ c.in-Some.k (omega (arith, c.in-Some.ensures)) c.loop-k.invariant

pub loop-k-preserved : goal.loop-k-preserved
loop-k-preserved c = walk_again _ _ _ _ c.requires.here c.requires.chained _ c.in-Some.k (omega (arith, c.in-Some.ensures)) c.loop-k.invariant (ap (λ m. same m c.args.node) (sym c.node_at.ensures) ∙ sym c.if-eq.ensures)
