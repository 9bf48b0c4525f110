use Rattle.diagram.specs.Held.{room_of, store_of}
use Rattle.diagram.proofs.Standing.{standing}
use Rattle.bench.specs.Building.{limited}
use Rattle.diagram.specs.Told.{Told}
use Rattle.bench.proofs.Answering.{told_as}
use Rattle.bench.proofs.Counting.{leaves_later, from_leaves, limit_means}
use Rattle.bench.proofs.build.limited.Goals as goal

pub rows-requires : goal.rows-requires
rows-requires c =
    let d = c.args.diagrams.now in
    leaves_later (room_of d) (store_of d) c.args.span.start c.args.span.count c.args.limit c.args.span.few c.leaves-row.result c.leaves-row.ensures

pub returns : goal.returns
returns c =
    let d = c.args.diagrams.now in
    let built = c.rows.ensures in
    let r = c.rows.result in
    let o = limited (room_of d) (store_of d) c.args.span.start c.args.span.count c.args.limit in
    let t = store_of c.rows.new.diagrams in
    let told : Told o t r = told_as t o _ r (from_leaves (room_of d) (store_of d) c.args.span.start c.args.span.count c.args.limit c.args.span.few c.leaves-row.result c.leaves-row.ensures) built.told in
    record { built = record { told = told; room = built.room; grown = built.grown }; means = limit_means (room_of d) (store_of d) c.args.span.start c.args.span.count c.args.limit c.args.span.few t r (standing d) told }
