use Rattle.std.proofs.Common.{◌<◌, subst, sym}
use Rattle.diagram.specs.Calls.{Valued}
use Rattle.diagram.specs.Held.{store_of}
use Rattle.diagram.proofs.Canonical.{eval_code}
use Rattle.diagram.proofs.Standing.{standing}
use Rattle.bench.proofs.bench.Bench.leaf.Goals as goal

pub returns-clause-code : goal.returns-clause-code
returns-clause-code g c =
    let d = c.args.self.now.diagrams in
    let value = subst (Valued (store_of d) c.args.a c.ask.result) c.unwrap.ensures c.value.ensures in
    subst (λ x. x < 8) (sym value.1) (eval_code (store_of d) (standing d) c.args.a c.requires.stands _)
