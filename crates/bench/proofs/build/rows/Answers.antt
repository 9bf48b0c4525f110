use Rattle.std.proofs.Common.{◌≡◌, length, ◌∙◌, arith}
use Rattle.diagram.specs.Held.{room_of, store_of}
use Rattle.diagram.proofs.Standing.{standing}
use Rattle.diagram.proofs.Stands.{grown_trans}
use Rattle.bench.specs.Building.{rows}
use Rattle.bench.proofs.Answering.{told_full}
use Rattle.bench.proofs.Counting.{rows_start, rows_full, rows_next, rows_end}
use Rattle.bench.proofs.build.rows.Goals as goal

pub loop-j-init : goal.loop-j-init
loop-j-init c = let long : length c.args.row ≡ 49 = omega arith in rows_start _ _ _ _ _ long c.requires

pub loop-j-preserved : goal.loop-j-preserved
loop-j-preserved c =
    let row = c.in_ok-next_row.ensures in
    rows_next c.loop-j.invariant _ _ _ c.loop-j-test.true (omega (arith, c.args.span.few, c.loop-j.auto.j)) (standing c.loop-j.diagrams) row.told row.room

pub returns-in_err-next_row : goal.returns-in_err-next_row
returns-in_err-next_row c =
    let turn = c.loop-j.invariant in
    let row = c.in_err-next_row.ensures in
    let d = c.args.diagrams.now in
    let o = rows (room_of d) (store_of d) c.args.span.start c.args.span.count c.args.row in
    record {
      told = told_full (store_of c.next_row.new.diagrams) o c.from_residual.result c.from_residual.ensures.0 (rows_full turn c.loop-j-test.true row.told);
      room = row.room ∙ turn.same;
      grown = grown_trans turn.grown row.grown;
    }

pub returns : goal.returns
returns c = let turn = c.loop-j.invariant in record { told = rows_end turn c.loop-j-test.false; room = turn.same; grown = turn.grown }
