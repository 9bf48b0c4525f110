use Rattle.std.proofs.Common.{sym, ◌∙◌}
use Rattle.bench.proofs.Asks.{on_shelf}
use Rattle.bench.proofs.bench.Bench.closed.Goals as goal

pub returns-in-Closed-clause-stands : goal.returns-in-Closed-clause-stands
returns-in-Closed-clause-stands c =
    let here = on_shelf c.args.self.now c.args.shelf _ _ (sym c.in_ok-at.was ∙ c.at.ensures) c.in-Closed.is in
    (here.few, here.stands 2, here.stands 3)
