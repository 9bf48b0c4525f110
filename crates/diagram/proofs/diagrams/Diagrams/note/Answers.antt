use Rattle.std.proofs.Common.{sym, subst}
use Rattle.diagram.specs.Held.{store_of}
use Rattle.diagram.specs.Memo.{Remembers}
use Rattle.diagram.proofs.Memos.{noted_known}
use Rattle.diagram.proofs.Standing.{remembered}
use Rattle.diagram.proofs.diagrams.Diagrams.note.Goals as goal

pub invariant_of-self-clause-knows : goal.invariant_of-self-clause-knows
invariant_of-self-clause-knows c =
    let was = c.args.self.now in
    ∣ subst (Remembers (store_of was)) (sym c.note.ensures) (noted_known (store_of was) was.memo.now c.args.operation c.args.r (remembered was) c.requires) ∣₁
