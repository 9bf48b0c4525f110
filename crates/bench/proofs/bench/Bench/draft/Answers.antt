use Rattle.std.proofs.Common.{sym, inl, ◌∙◌}
use Rattle.bench.proofs.Asks.{policy_stands}
use Rattle.bench.proofs.bench.Bench.draft.Goals as goal

pub returns-in-Draft-clause-stands : goal.returns-in-Draft-clause-stands
returns-in-Draft-clause-stands c = policy_stands c.args.self.now c.args.shelf _ _ (sym c.in_ok-at.was ∙ c.at.ensures) (inl c.in-Draft.is)
