use Rattle.std.proofs.Common.{◌≡◌, ℕ, ◌<◌, cond, length, get_or}
use Rattle.bench.specs.Building.{is_met}
use Rattle.bench.proofs.build.leaves.Given as goal

abbrev pub invariant-loop-seen : goal.invariant-loop-seen
invariant-loop-seen l = (length l.leaf-items ≡ 49) × ((i : ℕ) → i < l.seen → get_or l.leaf-items i 0 ≡ cond (is_met l.limit i) 1 0)
