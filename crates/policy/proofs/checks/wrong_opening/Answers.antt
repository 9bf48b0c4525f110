use Rattle.std.proofs.Common.{arith}
use Rattle.policy.specs.Reading.{opening}
use Rattle.policy.proofs.Spelling.{opening_wrong, opening_short}
use Rattle.policy.proofs.checks.wrong_opening.Goals as goal

pub returns-then-ne : goal.returns-then-ne
returns-then-ne c =
    let wrong = opening_wrong opening c.args.file.now c.loop-i.i c.loop-i-test.true in
    let short = opening_short opening c.args.file.now c.loop-i.i c.loop-i-test.true in
    grind arith
