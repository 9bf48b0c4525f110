use Rattle.std.proofs.Common.{◌-◌, ◌≤◌, vec_len}
use Rattle.inspect.proofs.input.Given as goal

abbrev pub invariant-parts : goal.invariant-parts
invariant-parts l = vec_len l.file ≤ 65536

abbrev pub decreases-parts : goal.decreases-parts
decreases-parts l = 65536 - vec_len l.file
