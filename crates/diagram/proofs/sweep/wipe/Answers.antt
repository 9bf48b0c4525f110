use Rattle.std.proofs.Common.{◌≡◌, ap, ◌∙◌, subst, arith}
use Rattle.diagram.specs.Words.{bucket, bucket_at, capacity}
use Rattle.diagram.proofs.Marks.{Wiped, wiped_none, wiped_more, wiped_chained}
use Rattle.diagram.proofs.sweep.wipe.Goals as goal

pub loop-k-init : goal.loop-k-init
loop-k-init c = wiped_none c.args.words.now

pub loop-k-preserved : goal.loop-k-preserved
unfolding bucket_at
loop-k-preserved c =
    let ws = c.args.words.now in
    let k = c.loop-k.k in
    let is : c.bucket_of-b.result ≡ bucket_at ws k = c.bucket_of-b.ensures.is ∙ ap (bucket (capacity ws)) (c.node_at.ensures ∙ c.loop-k.invariant.nodes k) in
    wiped_more ws c.loop-k.words k c.bucket_of-b.result (omega (arith, c.requires.within)) (omega (arith, c.bucket_of-b.ensures.below)) is c.loop-k.invariant

pub returns-clause-chained : goal.returns-clause-chained
returns-clause-chained c =
    let end : c.loop-k.k ≡ c.args.fill = omega arith in
    let w : Wiped c.args.words.now c.loop-k.words c.args.fill = subst (Wiped c.args.words.now c.loop-k.words) end c.loop-k.invariant in
    wiped_chained _ _ _ c.requires c.loop-k.auto.words w
