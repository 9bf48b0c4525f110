use Rattle.std.proofs.Common.{true, sym}
use Rattle.std.proofs.lemmas.Bool.{ltb-true, lt-ltb}
use Rattle.diagram.specs.Fixing.{fixed}
use Rattle.diagram.specs.Held.{store_of}
use Rattle.diagram.specs.Store.{eval, put, still}
use Rattle.diagram.specs.Told.{Gives}
use Rattle.diagram.proofs.Fixes.{fixes_so}
use Rattle.diagram.proofs.Settles.{settled, settled_grown, settled_holds}
use Rattle.diagram.proofs.diagrams.Diagrams.fix.Goals as goal

pub returns-then-not-stands-clause-grown : goal.returns-then-not-stands-clause-grown
returns-then-not-stands-clause-grown c = still

pub returns-then-pair-ge-PAIRS-clause-grown : goal.returns-then-pair-ge-PAIRS-clause-grown
returns-then-pair-ge-PAIRS-clause-grown c = still

pub returns-clause-is : goal.returns-clause-is
returns-clause-is c = settled _ (sym c.if-not-stands.ensures) (lt-ltb c.args.pair 48 c.if-pair-ge-PAIRS.false) c.build_fixed-built.result c.settle.result c.build_fixed-built.ensures c.settle.ensures

pub returns-clause-grown : goal.returns-clause-grown
returns-clause-grown c = settled_grown _ c.build_fixed-built.result c.settle.result c.build_fixed-built.ensures c.settle.ensures

pub returns-clause-means : goal.returns-clause-means
unfolding fixed
returns-clause-means c =
    settled_holds (fixes_so c.args.pair c.if-pair-ge-PAIRS.false) c.settle.new.self (ltb-true _ _ (sym c.if-not-stands.ensures))
    (Gives (store_of c.settle.new.self) (λ q. eval (store_of c.args.self.now) c.args.a (put q c.args.pair true)))
    (λ x ran. (ran.below, ran.means)) tt c.build_fixed-built.result c.settle.result c.build_fixed-built.ensures c.settle.ensures
