use Rattle.std.proofs.Common.{cond, sym, ap, ◌∙◌, zero-add, arith, ext_get_or}
use Rattle.bench.specs.Building.{is_met, leaves}
use Rattle.bench.proofs.Limits.{leaves_at, leaves_length}
use Rattle.bench.proofs.build.leaves.Goals as goal

pub returns : goal.returns
returns c =
    let met = is_met c.args.limit in
    ext_get_or 0 c.loop-seen.leaf-items (leaves met 0 49) (c.loop-seen.invariant.0 ∙ sym (leaves_length met 0 49))
    (λ i h. c.loop-seen.invariant.1 i (omega (arith, c.loop-seen.invariant.0)) ∙ sym (leaves_at met 0 49 i (omega (arith, c.loop-seen.invariant.0)) ∙ ap (λ n. cond (met n) 1 0) (zero-add i)))
