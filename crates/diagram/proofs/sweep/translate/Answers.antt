use Rattle.std.proofs.Common.{get_or, set, ap, ◌∙◌, arith}
use Rattle.std.proofs.lemmas.List.Edits.{map_over_more}
use Rattle.std.proofs.lemmas.List.{get_or_default}
use Rattle.diagram.specs.Sweeping.{new_root}
use Rattle.diagram.proofs.sweep.translate.Goals as goal

pub loop-r-preserved : goal.loop-r-preserved
loop-r-preserved c =
    let xs = c.loop-r.roots in
    let i = c.loop-r.r-index in
    ap (set xs i) c.new_root.ensures
    ∙ map_over_more (new_root c.args.words.now c.args.fill) c.args.roots.now xs i (get_or xs i 0) (omega arith) c.loop-r.invariant (get_or_default xs i 0 (get_or xs i 0) (omega arith))
