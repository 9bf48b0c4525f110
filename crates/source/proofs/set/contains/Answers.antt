use Rattle.std.proofs.Common.{◌^◌, ◌<◌, sym, ◌∙◌}
use Rattle.std.proofs.lemmas.Bool.{le-ltb}
use Rattle.source.proofs.Bits.{none_above}
use Rattle.source.proofs.set.contains.Goals as goal

pub returns-else-pair-lt64 : goal.returns-else-pair-lt64
returns-else-pair-lt64 c =
    let fits : c.args.set < 2 ^ 64 = c.ranges.set.fits in
    le-ltb _ _ c.if-pair-lt64.false ∙ sym (none_above c.args.set c.args.pair fits c.if-pair-lt64.false)
