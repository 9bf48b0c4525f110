use Rattle.std.proofs.Common.{◌≡◌, ◌+◌, None, sym, refl, ap, ◌∙◌, subst, arith}
use Rattle.std.proofs.lemmas.Bool.{false≢true}
use Rattle.diagram.specs.Store.{done, found}
use Rattle.diagram.specs.Words.{Chained, capacity, node_at, stored}
use Rattle.diagram.specs.declared.node.Node.{Node}
use Rattle.diagram.proofs.Chains.{put_chained}
use Rattle.diagram.proofs.Kept.{kept_still, kept_new}
use Rattle.diagram.proofs.Makes.{made_same, made_found, made_full, made_new, made_at}
use Rattle.diagram.proofs.Words.{length-stored, found_none, stored_put}
use Rattle.diagram.proofs.table.make.Goals as goal

pub returns-then-node : goal.returns-then-node
returns-then-node c = record { told = made_same _ _ _ c.if-node.true; kept = kept_still _ _ c.requires.chained c.requires.sound; alike = λ e. refl }

pub returns-then-n-eq0 : goal.returns-then-n-eq0
returns-then-n-eq0 c =
    let ws = c.args.words.now in
    let f = c.args.fill.now in
    let none : found (stored ws f) c.args.node ≡ None = found_none ws f c.args.node (λ j h. absurd (omega (arith, c.requires.chained.within))) in
    record { told = made_full _ _ _ c.if-node.false none (omega arith); kept = kept_still _ _ c.requires.chained c.requires.sound; alike = λ e. refl }

pub returns-in-Some : goal.returns-in-Some
returns-in-Some c = record { told = made_found _ _ _ c.if-node.false _ (sym c.in-Some.ensures); kept = kept_still _ _ c.requires.chained c.requires.sound; alike = λ e. refl }

pub returns-then-k-n : goal.returns-then-k-n
returns-then-k-n c = record {
  told = made_full _ _ _ c.if-node.false (sym c.in_default.ensures) (omega (arith, length-stored c.args.words.now c.args.fill.now));
  kept = kept_still _ _ c.requires.chained c.requires.sound;
  alike = λ e. refl;
}

pub enter-requires-clause-chained : goal.enter-requires-clause-chained
enter-requires-clause-chained c = subst (λ ws. Chained ws c.args.fill.now) (sym c.put_node.ensures) (put_chained c.args.words.now c.args.fill.now c.args.node c.requires.chained)

pub returns : goal.returns
returns c =
    let ws = c.args.words.now in
    let f = c.args.fill.now in
    let n : Node = c.args.node in
    let long = length-stored ws f in
    let new = made_new (capacity ws) (stored ws f) n c.if-node.false (sym c.in_default.ensures) (omega (arith, long)) in
    let now = sym (stored_put ws c.enter.new.words f n (omega arith) (λ k. c.enter.ensures.nodes k ∙ ap (λ us. node_at us k) c.put_node.ensures)) in
    record {
      told = new ∙ (λ i. done (now i) (8 + long i));
      kept = kept_new ws f c.enter.new.words (f + 1) _ _ _ c.enter.ensures.chained now (made_at (stored ws f) n c.requires.sound c.requires.fits (capacity ws) _ _ new);
      alike = λ e. absurd (false≢true e);
    }
