use Rattle.std.proofs.Common.{◌≡◌, ℕ, false, ◌&&◌, ltb, length, get_or}
use Rattle.source.specs.Meanings.{tells}
use Rattle.bench.proofs.bench.asking.ask.Given as goal

abbrev pub invariant-loop-pair : goal.invariant-loop-pair
invariant-loop-pair g l = (length l.query ≡ 48) × ((i : ℕ) → get_or l.query i false ≡ (ltb i l.pair && tells (g.S.Source.meaning l.source) i))
