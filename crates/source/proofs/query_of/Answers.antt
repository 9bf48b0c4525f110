use Rattle.std.proofs.Common.{ℕ, ◌+◌, sym, subst, arith}
use Rattle.source.specs.Sets.{QueryOf}
use Rattle.source.proofs.Asked.{asked_told, asked_silent}
use Rattle.source.proofs.query_of.Goals as goal
use Rattle.source.proofs.query_of.Goals.{then-tells, else-tells}

pub loop-pair-preserved : goal.loop-pair-preserved
loop-pair-preserved g c =
    let m = g.S.Source.meaning c.args.source.now in
    let p = c.loop-pair.pair in
    elim c.if-tells.branch [
      | then-tells w ↦ subst (λ (s : ℕ). QueryOf (p + 1) m s) (sym w.query-is) (asked_told m c.loop-pair.query p c.loop-pair.invariant (omega (arith, c.min-pair-end.ensures)) (sym w.if-tells.ensures))
      | else-tells w ↦ subst (λ (s : ℕ). QueryOf (p + 1) m s) (sym w.query-is) (asked_silent m c.loop-pair.query p c.loop-pair.invariant (sym w.if-tells.ensures))
    ]
