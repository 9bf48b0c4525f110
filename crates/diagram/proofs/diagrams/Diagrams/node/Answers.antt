use Rattle.diagram.proofs.Memos.{remembers_grown}
use Rattle.diagram.proofs.Standing.{standing, remembered}
use Rattle.diagram.proofs.diagrams.Diagrams.node.Goals as goal

pub make-requires-clause-sound : goal.make-requires-clause-sound
make-requires-clause-sound c = standing c.args.self.now

pub invariant_of-self-clause-sound : goal.invariant_of-self-clause-sound
invariant_of-self-clause-sound c = ∣ c.make.ensures.kept.sound ∣₁

pub invariant_of-self-clause-knows : goal.invariant_of-self-clause-knows
invariant_of-self-clause-knows c = ∣ remembers_grown _ _ _ c.make.ensures.kept.sound c.make.ensures.kept.grown (remembered c.args.self.now) ∣₁
