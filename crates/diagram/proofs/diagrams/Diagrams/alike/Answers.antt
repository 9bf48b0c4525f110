use Rattle.std.proofs.Common.{sym}
use Rattle.std.proofs.lemmas.Bool.{eqb-true, eq-eqb}
use Rattle.diagram.specs.Held.{store_of}
use Rattle.diagram.proofs.Calling.{known_parts}
use Rattle.diagram.proofs.Canonical.{canonicity}
use Rattle.diagram.proofs.Once.{sound_of}
use Rattle.diagram.proofs.diagrams.Diagrams.alike.Goals as goal

pub returns : goal.returns
returns c =
    let s = store_of c.args.self.now in
    let known = known_parts s c.args.a c.args.b (sym c.if-not-both_stand.ensures) in
    let one = canonicity s (sound_of s c.args.self.now.sound) c.args.a c.args.b known.0 known.1 in
    (sym c.if-not-both_stand.ensures, ((λ e. one.0 (eqb-true _ _ e)), (λ alike. eq-eqb _ _ (one.1 alike))))
