use Rattle.std.proofs.Common.{sym, refl}
use Rattle.diagram.specs.Combining.{combined}
use Rattle.diagram.specs.Held.{store_of}
use Rattle.diagram.specs.Rules.{value_of}
use Rattle.diagram.specs.Store.{eval, still}
use Rattle.diagram.specs.Told.{Gives}
use Rattle.diagram.proofs.Calling.{known_parts}
use Rattle.diagram.proofs.Combines.{combines_rule}
use Rattle.diagram.proofs.Settles.{settled, settled_grown, settled_holds}
use Rattle.diagram.proofs.diagrams.Diagrams.combine.Goals as goal

pub returns-then-not-both_stand-clause-grown : goal.returns-then-not-both_stand-clause-grown
returns-then-not-both_stand-clause-grown c = still

pub returns-clause-is : goal.returns-clause-is
returns-clause-is c = settled _ (sym c.if-not-both_stand.ensures) refl c.build_combined-built.result c.settle.result c.build_combined-built.ensures c.settle.ensures

pub returns-clause-grown : goal.returns-clause-grown
returns-clause-grown c = settled_grown _ c.build_combined-built.result c.settle.result c.build_combined-built.ensures c.settle.ensures

pub returns-clause-means : goal.returns-clause-means
unfolding combined
returns-clause-means c =
    let s = store_of c.args.self.now in
    settled_holds (combines_rule c.args.rule) c.settle.new.self (known_parts s c.args.a c.args.b (sym c.if-not-both_stand.ensures))
    (Gives (store_of c.settle.new.self) (λ q. value_of c.args.rule (eval s c.args.a q) (eval s c.args.b q)))
    (λ x ran. (ran.below, ran.means)) tt c.build_combined-built.result c.settle.result c.build_combined-built.ensures c.settle.ensures
