use Rattle.std.proofs.Common.{◌∙◌, arith}
use Rattle.diagram.proofs.Standing.{standing}
use Rattle.diagram.proofs.Stands.{grown_trans}
use Rattle.bench.proofs.Answering.{told_full}
use Rattle.bench.proofs.Chaining.{turn_start, turn_full, turn_next, turn_end}
use Rattle.bench.proofs.build.chain.Goals as goal

pub loop-j-init : goal.loop-j-init
loop-j-init c = turn_start _ _ _ _ _ _ c.requires.order c.requires.before_low c.requires.before_high

pub returns-in_err-r : goal.returns-in_err-r
returns-in_err-r c =
    let turn = c.loop-j.invariant in
    let made = c.in_err-r.ensures in
    record { told = told_full _ _ c.from_residual.result c.from_residual.ensures.0 (turn_full turn c.loop-j-test.true made.told); room = made.room ∙ turn.same; grown = grown_trans turn.grown made.grown }

pub loop-j-preserved : goal.loop-j-preserved
loop-j-preserved c =
    let made = c.in_ok-r.ensures in
    turn_next c.loop-j.invariant _ _ _ c.loop-j-test.true (omega (arith, c.requires.small, c.loop-j.auto.j)) (standing c.loop-j.diagrams) made.told made.room

pub returns : goal.returns
returns c = let turn = c.loop-j.invariant in record { told = turn_end turn c.loop-j-test.false; room = turn.same; grown = turn.grown }
