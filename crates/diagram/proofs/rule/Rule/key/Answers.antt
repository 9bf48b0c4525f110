use Rattle.diagram.proofs.Rulings.{told_apart}
use Rattle.diagram.proofs.rule.Rule.key.Goals as goal

pub returns-in-One-clause-apart : goal.returns-in-One-clause-apart
returns-in-One-clause-apart c = told_apart c.args.self

pub returns-in-Two-clause-apart : goal.returns-in-Two-clause-apart
returns-in-Two-clause-apart c = told_apart c.args.self
