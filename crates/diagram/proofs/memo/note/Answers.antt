use Rattle.diagram.proofs.Memos.{noted_nowhere, noted_here}
use Rattle.diagram.proofs.memo.note.Goals as goal

pub returns-in_default : goal.returns-in_default
returns-in_default c = noted_nowhere _ _ _ c.in_default.ensures

pub returns : goal.returns
returns c = noted_here _ c.args.operation _ c.in-Some.ensures _
