use Rattle.source.proofs.Slips.{held}
use Rattle.source.proofs.slip.Slip.of.Goals as goal

pub returns-clause-every_meaning : goal.returns-clause-every_meaning
returns-clause-every_meaning c = held
