use Rattle.std.proofs.Common.{◌≡◌, false, ◌&&◌, ltb, sym, refl, ap, ◌∙◌, arith}
use Rattle.std.proofs.lemmas.Bool.{le-ltb}
use Rattle.source.specs.Meanings.{tells}
use Rattle.bench.proofs.Asks.{blank}
use Rattle.bench.proofs.bench.asking.ask.Goals as goal

pub loop-pair-init : goal.loop-pair-init
loop-pair-init g c =
    (refl, λ i. let none : ltb i 0 ≡ false = le-ltb _ _ (omega arith) in blank 48 i ∙ sym (ap (λ b. b && tells (g.S.Source.meaning c.args.source.now) i) none))
