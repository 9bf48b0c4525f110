use Rattle.std.proofs.Common.{rules, ◌≡◌, ◌%◌, ◌<◌, get_or, sym, ◌∙◌, mod-eq_of_lt}
use Rattle.source.specs.Slip.{slip}
use Rattle.source.proofs.Slips.{few, found, passed}
use Rattle.source.proofs.slip.SlipSource.label.Goals as goal

pub returns-then-pair-ge-PAIRS : goal.returns-then-pair-ge-PAIRS
returns-then-pair-ge-PAIRS c = sym ((slip c.args.self.now.bytes.now).silent_above c.args.pair c.if-pair-ge-PAIRS.true)

pub returns-then-told-pair : goal.returns-then-told-pair
returns-then-told-pair c =
    let bs = c.loop-rest.rest.now in
    let first : get_or bs 0 0 ≡ c.args.pair = cc in
    let is = sym c.loop-rest.invariant ∙ found bs c.args.pair c.in-len2-up.len_at_least c.if-pair-ge-PAIRS.false first in
    let fits : get_or bs 1 0 < 256 = search rules in
    let byte : get_or bs 1 0 % 256 ≡ get_or bs 1 0 = mod-eq_of_lt fits in
    cc

pub loop-rest-preserved : goal.loop-rest-preserved
loop-rest-preserved c = sym (passed c.loop-rest.rest.now c.args.pair c.in-len2-up.len_at_least c.if-told-pair.false) ∙ c.loop-rest.invariant

pub returns : goal.returns
returns c = sym (few c.loop-rest.rest.now c.args.pair c.in_default.len_below) ∙ c.loop-rest.invariant
