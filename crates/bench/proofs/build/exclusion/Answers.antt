use Rattle.std.proofs.Common.{◌∙◌, arith}
use Rattle.diagram.specs.Held.{room_of, store_of}
use Rattle.diagram.proofs.Standing.{standing}
use Rattle.diagram.proofs.Stands.{grown_trans}
use Rattle.bench.specs.Building.{exclusion}
use Rattle.diagram.specs.Told.{Told}
use Rattle.bench.proofs.Answering.{told_as, told_full}
use Rattle.bench.proofs.Exclusions.{exclusion_means, no_second, second_later, then_first}
use Rattle.bench.proofs.Yielding.{leaf_later}
use Rattle.bench.proofs.build.exclusion.Goals as goal

pub node-requires : goal.node-requires
node-requires c =
    let small = c.requires.small in
    record { small = small; before_low = leaf_later _ _ _ small (omega arith); before_high = leaf_later _ _ _ small (omega arith) }

pub returns-in_err-without : goal.returns-in_err-without
returns-in_err-without c =
    let d = c.args.diagrams.now in
    let second = c.in_err-without.ensures in
    let r = c.from_residual.result in
    let o = exclusion (room_of d) (store_of d) c.args.first c.args.second in
    let t = store_of c.node.new.diagrams in
    let told : Told o t r = told_full t o r c.from_residual.ensures.0 (no_second _ _ _ _ c.requires.order c.requires.small (standing d) second.told) in
    record { built = record { told = told; room = second.room; grown = second.grown }; means = exclusion_means _ _ _ _ c.requires.order c.requires.small (standing d) t r told }

pub node-requires-2 : goal.node-requires-2
node-requires-2 c =
    let small = c.requires.small in
    record {
      small = omega (arith, c.requires.order);
      before_low = leaf_later _ _ _ (omega (arith, c.requires.order)) (omega arith);
      before_high = second_later _ _ _ _ c.requires.order small (standing c.args.diagrams.now) c.in_ok-without.ensures.told;
    }

pub returns : goal.returns
returns c =
    let d = c.args.diagrams.now in
    let second = c.in_ok-without.ensures in
    let first = c.node-2.ensures in
    let r = c.node-2.result in
    let o = exclusion (room_of d) (store_of d) c.args.first c.args.second in
    let t = store_of c.node-2.new.diagrams in
    let told : Told o t r = told_as t o _ r (then_first _ _ _ _ c.requires.order c.requires.small (standing d) second.told second.room) first.told in
    record { built = record { told = told; room = first.room ∙ second.room; grown = grown_trans second.grown first.grown }; means = exclusion_means _ _ _ _ c.requires.order c.requires.small (standing d) t r told }
