use Rattle.std.proofs.Common.{true, sym, refl, subst}
use Rattle.std.proofs.lemmas.Bool.{ltb-true}
use Rattle.diagram.specs.Calls.{Answers, stands}
use Rattle.diagram.specs.Closing.{closed}
use Rattle.diagram.specs.Held.{store_of, room_of}
use Rattle.diagram.specs.Store.{eval, still}
use Rattle.diagram.specs.Told.{Closes}
use Rattle.diagram.proofs.Closes.{Bounds, closes_rule}
use Rattle.diagram.proofs.Settles.{settled, settled_grown, settled_holds}
use Rattle.diagram.proofs.diagrams.Diagrams.close.Goals as goal

pub returns-then-not-stands-clause-grown : goal.returns-then-not-stands-clause-grown
returns-then-not-stands-clause-grown g c = still

pub returns-clause-is : goal.returns-clause-is
returns-clause-is g c =
    let s = store_of c.args.self.now in
    subst (λ j. Answers (stands s c.args.a) true (closed (room_of c.args.self.now) s j c.args.a) s (store_of c.settle.new.self) c.settle.result) c.rule.ensures
    (settled _ (sym c.if-not-stands.ensures) refl c.build_closed-built.result c.settle.result c.build_closed-built.ensures c.settle.ensures)

pub returns-clause-grown : goal.returns-clause-grown
returns-clause-grown g c = settled_grown _ c.build_closed-built.result c.settle.result c.build_closed-built.ensures c.settle.ensures

pub returns-clause-means : goal.returns-clause-means
returns-clause-means g c =
    let s = store_of c.args.self.now in
    settled_holds (closes_rule c.rule.result) c.settle.new.self (ltb-true _ _ (sym c.if-not-stands.ensures))
    (Closes g.K.Kind.codes g.K.Kind.join s c.args.a (store_of c.settle.new.self))
    (λ x ran. (ran.below, subst (λ j. Bounds j s c.args.a (eval (store_of c.settle.new.self) x)) c.rule.ensures ran.means g.K.Kind.codes g.met.K.Kind.laws))
    tt c.build_closed-built.result c.settle.result c.build_closed-built.ensures c.settle.ensures
