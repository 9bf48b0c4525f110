use Rattle.source.specs.Sets.{QueryOf}
use Rattle.source.proofs.query_of.Given as goal

abbrev pub invariant-loop-pair : goal.invariant-loop-pair
invariant-loop-pair g l = QueryOf l.pair (g.S.Source.meaning l.source) l.query
