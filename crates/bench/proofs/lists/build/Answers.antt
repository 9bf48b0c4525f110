use Rattle.std.proofs.Common.{◌∙◌, arith}
use Rattle.std.proofs.lemmas.Result.{err_from_is_err_and}
use Rattle.diagram.specs.Held.{room_of, store_of}
use Rattle.diagram.proofs.Stands.{grown_length}
use Rattle.bench.proofs.Listings.{no_sets, no_unions, no_valid, no_reaches, all_listed}
use Rattle.bench.proofs.lists.build.Goals as goal

pub returns-in_err-sets-clause-told : goal.returns-in_err-sets-clause-told
returns-in_err-sets-clause-told c =
    let d = c.args.diagrams.now in
    let p = err_from_is_err_and c.from_residual.result c.from_residual.ensures.1 in
    let one = c.in_err-sets.ensures.built in
    rw p.1 (no_sets (room_of d) (store_of d) c.args.draft one.told)

pub returns-in_err-unions-clause-told : goal.returns-in_err-unions-clause-told
returns-in_err-unions-clause-told c =
    let d = c.args.diagrams.now in
    let p = err_from_is_err_and c.from_residual-in_err-unions.result c.from_residual-in_err-unions.ensures.1 in
    let one = c.in_ok-sets.ensures.built in
    let two = c.in_err-unions.ensures.built in
    rw p.1 (no_unions (room_of d) (store_of d) c.args.draft one.told _ one.room two.told)

pub combine-requires-2-clause-left : goal.combine-requires-2-clause-left
combine-requires-2-clause-left c =
    let one = c.in_ok-sets.ensures.built in
    let two = c.in_ok-unions.ensures.built in
    omega (arith, c.requires.valid, grown_length one.grown, grown_length two.grown)

pub returns-in_err-lists-clause-told : goal.returns-in_err-lists-clause-told
returns-in_err-lists-clause-told c =
    let d = c.args.diagrams.now in
    let p = err_from_is_err_and c.from_residual-in_err-lists.result c.from_residual-in_err-lists.ensures.1 in
    let one = c.in_ok-sets.ensures.built in
    let two = c.in_ok-unions.ensures.built in
    let three = c.in_err-lists.ensures.built in
    rw p.1 (no_valid (room_of d) (store_of d) c.args.draft one.told _ one.room two.told _ (two.room ∙ one.room) three.told)

pub close-requires-2 : goal.close-requires-2
close-requires-2 c =
    let one = c.in_ok-sets.ensures.built in
    let two = c.in_ok-unions.ensures.built in
    let three = c.in_ok-lists.ensures.built in
    omega (arith, c.requires.valid, grown_length one.grown, grown_length two.grown, grown_length three.grown)

pub returns-in_err-reaches-clause-told : goal.returns-in_err-reaches-clause-told
returns-in_err-reaches-clause-told c =
    let d = c.args.diagrams.now in
    let p = err_from_is_err_and c.from_residual-in_err-reaches.result c.from_residual-in_err-reaches.ensures.1 in
    let one = c.in_ok-sets.ensures.built in
    let two = c.in_ok-unions.ensures.built in
    let three = c.in_ok-lists.ensures.built in
    let four = c.in_err-reaches.ensures.built in
    rw p.1 (no_reaches (room_of d) (store_of d) c.args.draft one.told _ one.room two.told _ (two.room ∙ one.room) three.told _ (three.room ∙ two.room ∙ one.room) four.told)

pub returns-clause-told : goal.returns-clause-told
returns-clause-told c =
    let d = c.args.diagrams.now in
    let one = c.in_ok-sets.ensures.built in
    let two = c.in_ok-unions.ensures.built in
    let three = c.in_ok-lists.ensures.built in
    let four = c.in_ok-reaches.ensures.built in (
      all_listed (room_of d) (store_of d) c.args.draft one.told _ one.room two.told _ (two.room ∙ one.room) three.told _ (three.room ∙ two.room ∙ one.room) four.told,
      omega (arith, c.in_ok-lists.ensures.means.0, grown_length four.grown),
      c.in_ok-reaches.ensures.means.0,
    )
