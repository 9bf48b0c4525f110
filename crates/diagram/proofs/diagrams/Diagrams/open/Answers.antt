use Rattle.std.proofs.Common.{◌+◌, ◌*◌, refl, arith}
use Rattle.diagram.specs.Words.{last, stored}
use Rattle.diagram.proofs.Lawful.{laws}
use Rattle.diagram.proofs.Memos.{remembers_none}
use Rattle.diagram.proofs.Words.{zeros}
use Rattle.diagram.proofs.diagrams.Diagrams.open.Goals as goal

pub invariant_of-result-clause-heads : goal.invariant_of-result-clause-heads
unfolding last
invariant_of-result-clause-heads c b h = zeros _ _ (c.fill.ensures.after (λ y e. e)) (7 * b + 3) (omega arith)

pub invariant_of-result-clause-sound : goal.invariant_of-result-clause-sound
unfolding stored
invariant_of-result-clause-sound c = ∣ tt ∣₁

pub invariant_of-result-clause-knows : goal.invariant_of-result-clause-knows
invariant_of-result-clause-knows c = ∣ remembers_none _ _ _ (c.fill-2.ensures.after (λ y e. e)) ∣₁

pub returns-clause-none : goal.returns-clause-none
unfolding stored
returns-clause-none c = refl

pub returns-clause-laws : goal.returns-clause-laws
returns-clause-laws c = laws
