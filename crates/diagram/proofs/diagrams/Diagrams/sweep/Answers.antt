use Rattle.std.proofs.Common.{sym, subst}
use Rattle.diagram.specs.Held.{store_of}
use Rattle.diagram.specs.Store.{Sound}
use Rattle.diagram.specs.Sweeping.{wanted}
use Rattle.diagram.proofs.Memos.{remembers_none}
use Rattle.diagram.proofs.Standing.{standing}
use Rattle.diagram.proofs.Sweeps.{swept_right, swept_moves, swept_left}
use Rattle.diagram.proofs.diagrams.Diagrams.sweep.Goals as goal

pub sweep-self-requires-clause-sound : goal.sweep-self-requires-clause-sound
sweep-self-requires-clause-sound c = standing c.args.self.now

pub invariant_of-self-2-clause-sound : goal.invariant_of-self-2-clause-sound
invariant_of-self-2-clause-sound c =
    let was = c.args.self.now in
    ∣ subst Sound (sym c.sweep-self.ensures.store) (swept_right (store_of was) (standing was) (wanted c.args.roots.now)).sound ∣₁

pub invariant_of-self-2-clause-knows : goal.invariant_of-self-2-clause-knows
invariant_of-self-2-clause-knows c = ∣ remembers_none _ _ _ (c.fill.ensures.after (λ y e. e)) ∣₁

pub returns-clause-moves : goal.returns-clause-moves
returns-clause-moves c = swept_moves (store_of c.args.self.now) c.args.roots.now _ c.sweep-self.ensures.store (standing c.args.self.now) _ c.sweep-self.ensures.roots

pub returns-clause-fewer : goal.returns-clause-fewer
returns-clause-fewer c = swept_left (store_of c.args.self.now) c.args.roots.now _ c.sweep-self.ensures.store
