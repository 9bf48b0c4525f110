use Rattle.std.proofs.Common.{◌+◌, ltb, sym, ap}
use Rattle.diagram.proofs.Words.{length-stored}
use Rattle.diagram.proofs.diagrams.Diagrams.stands.Goals as goal

pub returns : goal.returns
returns c =
    let was = c.args.self.now in
    ap (λ n. ltb c.args.a (8 + n)) (sym (length-stored was.words.now was.fill))
