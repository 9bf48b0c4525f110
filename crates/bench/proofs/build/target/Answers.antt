use Rattle.std.proofs.Common.{ℕ, ◌+◌, ◌<◌, ◌≤◌, Ok, ◌∙◌, arith}
use Rattle.diagram.specs.declared.diagrams.Diagrams.{Diagrams}
use Rattle.diagram.specs.Held.{room_of, store_of}
use Rattle.diagram.proofs.Standing.{standing}
use Rattle.diagram.proofs.Stands.{grown_trans}
use Rattle.bench.specs.Building.{target}
use Rattle.diagram.specs.Told.{Told}
use Rattle.bench.proofs.Aims.{Aim, target_means, no_after, after_later, no_here, none_earlier, no_only, here_from, only_from, then_chain}
use Rattle.bench.proofs.Answering.{told_as, told_full}
use Rattle.bench.proofs.Yielding.{leaf_from, leaf_later}
use Rattle.bench.proofs.build.target.Goals as goal

-- what is owed of the pair and of the table as the call found it
aimed : (d : Diagrams) {start count i : ℕ} → start ≤ i → i < start + count → start + count ≤ 48 → Aim (store_of d) start count i
aimed d from to small = record { from = from; to = to; small = small; sound = standing d }

pub chain-requires : goal.chain-requires
chain-requires c =
    let small = c.args.span.few in
    record {
      order = omega (arith, c.requires.to);
      small = small;
      before_low = leaf_from _ _ _ small (omega arith);
      before_high = leaf_from _ _ _ small (omega arith);
    }

pub returns-in_err-after : goal.returns-in_err-after
returns-in_err-after c =
    let d = c.args.diagrams.now in
    let aim = aimed d c.requires.from c.requires.to c.args.span.few in
    let after = c.in_err-after.ensures in
    let r = c.from_residual.result in
    let t = store_of c.chain.new.diagrams in
    let told : Told (target (room_of d) (store_of d) c.args.span.start c.args.span.count c.args.pair) t r = told_full t _ r c.from_residual.ensures.0 (no_after (room_of d) aim after.told) in
    record { built = record { told = told; room = after.room; grown = after.grown }; means = target_means (room_of d) aim t r told }

pub node-requires : goal.node-requires
node-requires c =
    let d = c.args.diagrams.now in
    let aim = aimed d c.requires.from c.requires.to c.args.span.few in
    record {
      small = omega (arith, c.requires.to, c.args.span.few);
      before_low = after_later (room_of d) aim c.in_ok-after.ensures.told;
      before_high = leaf_later _ _ _ (omega (arith, c.requires.to, c.args.span.few)) (omega arith);
    }

pub returns-in_err-here : goal.returns-in_err-here
returns-in_err-here c =
    let d = c.args.diagrams.now in
    let aim = aimed d c.requires.from c.requires.to c.args.span.few in
    let after = c.in_ok-after.ensures in
    let here = c.in_err-here.ensures in
    let r = c.from_residual-in_err-here.result in
    let t = store_of c.node.new.diagrams in
    let told : Told (target (room_of d) (store_of d) c.args.span.start c.args.span.count c.args.pair) t r = told_full t _ r c.from_residual-in_err-here.ensures.0 (no_here (room_of d) aim after.told after.room here.told) in
    record { built = record { told = told; room = here.room ∙ after.room; grown = grown_trans after.grown here.grown }; means = target_means (room_of d) aim t r told }

pub returns-then-span-pair : goal.returns-then-span-pair
returns-then-span-pair c =
    let d = c.args.diagrams.now in
    let aim = aimed d c.requires.from c.requires.to c.args.span.few in
    let after = c.in_ok-after.ensures in
    let here = c.in_ok-here.ensures in
    let t = store_of c.node.new.diagrams in
    let told = none_earlier (room_of d) aim after.told after.room here.told c.if-span-pair.true in
    record { built = record { told = told; room = here.room ∙ after.room; grown = grown_trans after.grown here.grown }; means = target_means (room_of d) aim t (Ok c.in_ok-here.here) told }

pub node-requires-2 : goal.node-requires-2
node-requires-2 c =
    let small : c.args.pair < 48 = omega (arith, c.requires.to, c.args.span.few) in
    record { small = small; before_low = leaf_later _ _ _ small (omega arith); before_high = leaf_later _ _ _ small (omega arith) }

pub returns-in_err-only : goal.returns-in_err-only
returns-in_err-only c =
    let d = c.args.diagrams.now in
    let aim = aimed d c.requires.from c.requires.to c.args.span.few in
    let after = c.in_ok-after.ensures in
    let here = c.in_ok-here.ensures in
    let only = c.in_err-only.ensures in
    let r = c.from_residual-in_err-only.result in
    let t = store_of c.node-2.new.diagrams in
    let told : Told (target (room_of d) (store_of d) c.args.span.start c.args.span.count c.args.pair) t r =
    told_full t _ r c.from_residual-in_err-only.ensures.0 (no_only (room_of d) aim after.told after.room here.told here.room c.if-span-pair.false only.told) in
    record { built = record { told = told; room = only.room ∙ here.room ∙ after.room; grown = grown_trans after.grown (grown_trans here.grown only.grown) }; means = target_means (room_of d) aim t r told }

pub chain-requires-2 : goal.chain-requires-2
chain-requires-2 c =
    let d = c.args.diagrams.now in
    let aim = aimed d c.requires.from c.requires.to c.args.span.few in
    let after = c.in_ok-after.ensures in
    let here = c.in_ok-here.ensures in
    let only = c.in_ok-only.ensures in
    record {
      order = c.requires.from;
      small = omega (arith, c.requires.to, c.args.span.few);
      before_low = here_from (room_of d) aim after.told after.room here.told here.room c.if-span-pair.false only.told;
      before_high = only_from (room_of d) aim after.told after.room here.told here.room c.if-span-pair.false only.told;
    }

pub returns : goal.returns
returns c =
    let d = c.args.diagrams.now in
    let aim = aimed d c.requires.from c.requires.to c.args.span.few in
    let after = c.in_ok-after.ensures in
    let here = c.in_ok-here.ensures in
    let only = c.in_ok-only.ensures in
    let last = c.chain-2.ensures in
    let r = c.chain-2.result in
    let t = store_of c.chain-2.new.diagrams in
    let told : Told (target (room_of d) (store_of d) c.args.span.start c.args.span.count c.args.pair) t r =
    told_as t _ _ r (then_chain (room_of d) aim after.told after.room here.told here.room c.if-span-pair.false only.told only.room) last.told in
    record {
      built = record { told = told; room = last.room ∙ only.room ∙ here.room ∙ after.room; grown = grown_trans after.grown (grown_trans here.grown (grown_trans only.grown last.grown)) };
      means = target_means (room_of d) aim t r told;
    }
