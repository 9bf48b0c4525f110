use Rattle.std.proofs.Common.{◌≡◌, ℕ, ◌+◌, ◌-◌, ◌*◌, ◌/◌, get_or, set, sym, ap, ◌∙◌, subst, arith}
use Rattle.diagram.specs.Words.{Chained, stored, bucket_at, bucket}
use Rattle.diagram.proofs.Chains.{shrunk_chained, shrunk_stored}
use Rattle.diagram.proofs.table.roll_back.Goals as goal

pub loop-k-preserved : goal.loop-k-preserved
unfolding bucket_at
loop-k-preserved c =
    let ws = c.loop-k.words in
    let m : ℕ = c.loop-k.k - 1 in
    let up : m + 1 ≡ c.loop-k.k = omega arith in
    let chained : Chained ws (m + 1) = subst (Chained ws) (sym up) c.loop-k.invariant.0 in
    let is : c.bucket_of-b.result ≡ bucket_at ws m = c.bucket_of-b.ensures.is ∙ (λ i. bucket (sym c.loop-k.auto.words i / 7) (c.node_at.ensures i)) in
    let put = ap (λ b. set ws (7 * b + 3) (get_or ws (7 * m + 4) 0)) (sym is) in
    (subst (λ l. Chained l m) put (shrunk_chained ws m chained), omega arith, ap (λ l. stored l c.args.mark) (sym put) ∙ shrunk_stored ws m chained c.args.mark ∙ c.loop-k.invariant.2)
