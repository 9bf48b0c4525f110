use Rattle.std.proofs.Common.{sym}
use Rattle.diagram.proofs.Words.{length-stored}
use Rattle.diagram.proofs.diagrams.Diagrams.len.Goals as goal

pub returns : goal.returns
returns c = sym (length-stored c.args.self.now.words.now c.args.self.now.fill)
