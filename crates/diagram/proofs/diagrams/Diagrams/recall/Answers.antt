use Rattle.std.proofs.Common.{ℕ, Some, None, Option, IfSome, ◌≡◌, sym}
use Rattle.diagram.specs.Held.{store_of}
use Rattle.diagram.specs.Memo.{Known, recalled}
use Rattle.diagram.proofs.Memos.{recalled_known}
use Rattle.diagram.proofs.Standing.{remembered}
use Rattle.diagram.proofs.diagrams.Diagrams.recall.Goals as goal
use Rattle.diagram.proofs.diagrams.Diagrams.recall.Goals.{After-recall}

-- whatever is recalled is known
each : (c : After-recall) (r : Option ℕ) → r ≡ recalled c.args.self.now.memo.now c.args.operation → IfSome r (Known (store_of c.args.self.now) c.args.operation)
each c None e = tt
each c (Some r) e = recalled_known _ _ c.args.operation r c.requires (remembered c.args.self.now) (sym e)

pub returns-clause-known : goal.returns-clause-known
returns-clause-known c = each c c.recall.result c.recall.ensures
