use Rattle.std.proofs.Common.{refl}
use Rattle.diagram.specs.Spread.{hash, spread}
use Rattle.diagram.proofs.spread.spread.Goals as goal

pub returns-clause-is : goal.returns-clause-is
unfolding spread hash
returns-clause-is c = refl
