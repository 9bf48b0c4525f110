use Rattle.diagram.proofs.Standing.{standing}
use Rattle.bench.proofs.Answering.{told_no_row}
use Rattle.bench.proofs.Rowing.{row_start, row_full, row_next, row_end}
use Rattle.bench.proofs.build.next_row.Goals as goal

pub loop-c-init : goal.loop-c-init
loop-c-init c = row_start _ _ _ _ _ c.requires.later

pub returns-in_err-row-clause-told : goal.returns-in_err-row-clause-told
returns-in_err-row-clause-told c = told_no_row _ _ _ c.from_residual.result c.from_residual.ensures.0 (row_full c.loop-c.invariant c.loop-c-test.true c.in_err-row.ensures.told)

pub loop-c-preserved : goal.loop-c-preserved
loop-c-preserved c =
    let made = c.in_ok-row.ensures in
    row_next c.loop-c.invariant _ _ _ c.loop-c-test.true c.requires.small (standing c.loop-c.diagrams) made.told made.room

pub returns-clause-told : goal.returns-clause-told
returns-clause-told c = row_end c.loop-c.invariant c.loop-c-test.false
