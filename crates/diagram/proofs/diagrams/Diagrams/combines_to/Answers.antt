use Rattle.std.proofs.Common.{sym}
use Rattle.std.proofs.lemmas.Bool.{ltb-true}
use Rattle.diagram.specs.Combining.{combined}
use Rattle.diagram.specs.Held.{store_of}
use Rattle.diagram.proofs.Calling.{known_parts, compared}
use Rattle.diagram.proofs.Combines.{combines_rule}
use Rattle.diagram.proofs.Settles.{rolled_back}
use Rattle.diagram.proofs.Steps.{came}
use Rattle.diagram.proofs.diagrams.Diagrams.combines_to.Goals as goal

pub returns-in_err-built-clause-same : goal.returns-in_err-built-clause-same
returns-in_err-built-clause-same c = rolled_back c.build_combined-built.ensures c.roll_back.ensures.is

pub returns-clause-same : goal.returns-clause-same
returns-clause-same c = rolled_back c.build_combined-built.ensures c.roll_back.ensures.is

pub returns-clause-is : goal.returns-clause-is
unfolding combined
returns-clause-is c =
    let was = c.args.self.now in
    let known = known_parts (store_of was) c.args.a c.args.b (sym c.if-not-both_stand.ensures) in
    let other = sym c.if-not-stands.ensures in
    let built = c.in_ok-built.ensures in
    let ran = came (combines_rule c.args.rule) known built in
    let told = compared c.in_ok-built.field-0 c.args.c _ ran.sound built.grown built.told ran.below ran.means (ltb-true _ _ other) in
    (sym c.if-not-both_stand.ensures, other, told.0, told.1)
