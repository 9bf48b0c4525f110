use Rattle.std.proofs.Common.{sym}
use Rattle.diagram.specs.Held.{store_of}
use Rattle.diagram.specs.Store.{still}
use Rattle.diagram.proofs.Calling.{fits_from}
use Rattle.diagram.proofs.Standing.{standing}
use Rattle.diagram.proofs.diagrams.Diagrams.make.Goals as goal

pub returns-then-not-both_stand-clause-grown : goal.returns-then-not-both_stand-clause-grown
returns-then-not-both_stand-clause-grown c = still

pub returns-then-not-orders-clause-grown : goal.returns-then-not-orders-clause-grown
returns-then-not-orders-clause-grown c = still

pub node-requires : goal.node-requires
node-requires c = fits_from (store_of c.args.self.now) c.args.node (standing c.args.self.now) (sym c.if-not-both_stand.ensures) (sym c.if-not-orders.ensures)
