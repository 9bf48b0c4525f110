use Rattle.std.proofs.Common.{◌≡◌, map, sym, ap, ◌∙◌, subst, arith}
use Rattle.diagram.specs.Store.{Sound}
use Rattle.diagram.specs.Sweeping.{Swept, swept, wanted}
use Rattle.diagram.specs.Words.{stored}
use Rattle.diagram.proofs.Marks.{Reached, only_node, empty_chains, reached_from, reached_closed, reached_packed, reached_roots}
use Rattle.diagram.proofs.Words.{stored_ext}
use Rattle.diagram.proofs.sweep.sweep.Goals as goal
use Rattle.diagram.proofs.sweep.sweep.Goals.{After-mark_roots, After-mark_parts}

-- the nodes stand as at the start
nodes : (c : After-mark_roots) → stored c.mark_roots.new.words c.args.fill ≡ stored c.args.words.now c.args.fill
nodes c = stored_ext _ _ c.args.fill (λ k h. only_node _ _ c.mark_roots.ensures.only k ∙ c.wipe.ensures.nodes k)

pub mark_parts-requires-clause-sound : goal.mark_parts-requires-clause-sound
mark_parts-requires-clause-sound c = subst Sound (sym (nodes (goal.at.mark_parts-requires-clause-sound c).After-mark_roots)) c.requires.sound

all : (c : After-mark_parts) → Reached c.mark_roots.new.words c.args.fill c.args.roots.now c.mark_parts.new.words
all c = reached_from c.args.fill c.args.roots.now c.wipe.new.words c.mark_roots.new.words c.mark_parts.new.words c.wipe.ensures.unmarked c.mark_roots.ensures.is c.mark_parts.ensures.only c.mark_parts.ensures.is

sound : (c : After-mark_parts) → Sound (stored c.mark_parts.new.words c.args.fill)
sound c = subst Sound (sym ((all c).nodes ∙ nodes (goal.at.After-mark_parts c).After-mark_roots)) c.requires.sound

pub pack-kept-requires-clause-sound : goal.pack-kept-requires-clause-sound
pack-kept-requires-clause-sound c = sound (goal.at.pack-kept-requires-clause-sound c).After-mark_parts

pub pack-kept-requires-clause-closed : goal.pack-kept-requires-clause-closed
pack-kept-requires-clause-closed c = let at = (goal.at.pack-kept-requires-clause-closed c).After-mark_parts in reached_closed _ _ _ _ (all at) (sound at)

pub link-requires-clause-chained : goal.link-requires-clause-chained
link-requires-clause-chained c = empty_chains c.wipe.new.words c.pack-kept.new.words (omega arith)
    (λ b. c.pack-kept.ensures.heads b ∙ c.mark_parts.ensures.only _ (λ e. omega arith) ∙ c.mark_roots.ensures.only _ (λ e. omega arith)) c.wipe.ensures.chained

pub returns-clause-store : goal.returns-clause-store
returns-clause-store c =
    let at = (goal.at.returns-clause-store c).After-mark_parts in
    c.link.ensures.stored ∙ c.pack-kept.ensures.store ∙ ap (λ (w : Swept). w.store) (reached_packed _ _ _ _ (all at) (sound at))
    ∙ ap (λ s. (swept s (wanted c.args.roots.now)).store) (nodes (goal.at.returns-clause-store c).After-mark_roots)

pub returns-clause-roots : goal.returns-clause-roots
returns-clause-roots c =
    let at = (goal.at.returns-clause-roots c).After-mark_parts in
    c.translate.ensures ∙ reached_roots _ _ _ _ (all at) (sound at) c.pack-kept.new.words c.pack-kept.ensures.news
    ∙ ap (λ s. map (swept s (wanted c.args.roots.now)).renumber c.args.roots.now) (nodes (goal.at.returns-clause-roots c).After-mark_roots)
