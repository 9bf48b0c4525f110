use Rattle.std.proofs.Common.{◌≡◌, ℕ, ◌-◌, Ok, sym, ◌∙◌, subst, arith}
use Rattle.std.proofs.lemmas.Result.{err_from_is_err_and}
use Rattle.diagram.specs.Building.{Builds}
use Rattle.diagram.specs.Fixing.{fixed}
use Rattle.diagram.specs.Held.{store_of, room_of}
use Rattle.diagram.specs.Store.{top, high_part}
use Rattle.diagram.proofs.Fixes.{fixes, fixes_so, fix_later, fix_pair, fix_node}
use Rattle.diagram.proofs.Descents.{Goes}
use Rattle.diagram.proofs.Halves.{low_is, high_is}
use Rattle.diagram.proofs.Memos.{known_fixed, fixed_known}
use Rattle.diagram.proofs.Standing.{standing}
use Rattle.diagram.proofs.Steps.{builds_none, builds_same, ended, came, low_full, high_stands, high_later, high_full, node_fits, then_after}
use Rattle.diagram.proofs.diagrams.Diagrams.+build_fixed.Goals as goal
use Rattle.diagram.proofs.diagrams.Diagrams.+build_fixed.Goals.{In_default, In_ok-r}

pub returns-then-v-pair : goal.returns-then-v-pair
unfolding fixed
returns-then-v-pair t c =
    let j = c.args.pair in
    ended (fixes j) (fix_later j c.requires.small (store_of c.args.self.now) c.args.a (standing c.args.self.now) c.requires.stands (omega (arith, c.top-v.ensures)))

pub returns-then-v-pair-2 : goal.returns-then-v-pair-2
unfolding fixed
returns-then-v-pair-2 t c =
    let j = c.args.pair in
    let s = store_of c.args.self.now in
    let hi : high_part s c.args.a ≡ c.parts-low.result.1 = high_is s _ _ c.top-v.ensures ∙ sym c.parts-low.ensures.high in
    subst (λ r. Builds (fixed (room_of c.args.self.now) s j c.args.a) c.args.self.now c.args.self.now (Ok r)) hi (ended (fixes j) (fix_pair j c.requires.small s c.args.a (standing c.args.self.now) c.requires.stands (sym c.top-v.ensures ∙ c.if-v-pair-2.true)))

pub returns-in-Some : goal.returns-in-Some
returns-in-Some t c = builds_none (fixed_known c.requires.small c.in-Some.ensures.known (room_of c.args.self.now))

goes : (t : ℕ) (c : In_default t) → Goes (fixes c.args.pair) (store_of c.args.self.now) c.args.a c.top-v.result c.parts-low.result.0 c.parts-low.result.1
goes t c =
    let s = store_of c.args.self.now in
    let v = c.top-v.ensures in
    let ne = c.if-v-pair-2.false in
    fix_node c.args.pair c.requires.small s c.args.a (standing c.args.self.now) c.requires.stands _ _ _ (sym v) (omega (arith, c.if-v-pair.false))
    (low_is s _ _ v ∙ sym c.parts-low.ensures.low) (high_is s _ _ v ∙ sym c.parts-low.ensures.high)

pub returns-in_err-fixed_low : goal.returns-in_err-fixed_low
unfolding fixed
returns-in_err-fixed_low t c =
    rw (err_from_is_err_and c.from_residual.result c.from_residual.ensures.1).1 (low_full (fixes_so _ c.requires.small) (goes t (goal.at.returns-in_err-fixed_low t c).In_default) c.in_err-fixed_low.ensures)

pub returns-in_err-fixed_high : goal.returns-in_err-fixed_high
unfolding fixed
returns-in_err-fixed_high t c =
    rw (err_from_is_err_and c.from_residual-in_err-fixed_high.result c.from_residual-in_err-fixed_high.ensures.1).1 (high_full (fixes_so _ c.requires.small) (goes t (goal.at.returns-in_err-fixed_high t c).In_default) c.in_ok-fixed_low.ensures c.in_err-fixed_high.ensures)

pub returns-in_err-r : goal.returns-in_err-r
unfolding fixed
returns-in_err-r t c =
    rw (err_from_is_err_and c.from_residual-in_err-r.result c.from_residual-in_err-r.ensures.1).1 (then_after (fixes_so _ c.requires.small) (goes t (goal.at.returns-in_err-r t c).In_default) c.in_ok-fixed_low.ensures c.in_ok-fixed_high.ensures c.in_err-r.ensures.builds)

-- the three calls are done
built : (t : ℕ) (c : In_ok-r t) → Builds (fixed (room_of c.args.self.now) (store_of c.args.self.now) c.args.pair c.args.a) c.args.self.now c.node.new.self (Ok c.in_ok-r.r)
unfolding fixed
built t c = then_after (fixes_so _ c.requires.small) (goes t (goal.at.In_ok-r t c).In_default) c.in_ok-fixed_low.ensures c.in_ok-fixed_high.ensures c.in_ok-r.ensures.builds

pub returns : goal.returns
returns t c = builds_same (built t (goal.at.returns t c).In_ok-r) c.note.ensures.store c.note.ensures.room

pub build_fixed-requires : goal.build_fixed-requires
build_fixed-requires t c =
    let go = goes t (goal.at.build_fixed-requires t c).In_default in
    let m : 48 - top (store_of c.args.self.now) c.args.a ≡ t = c.decreases in
    (omega (arith, go.at, go.small, go.low_later), (c.requires.small, go.low_stands))

pub build_fixed-requires-2 : goal.build_fixed-requires-2
unfolding fixed
build_fixed-requires-2 t c =
    let go = goes t (goal.at.build_fixed-requires-2 t c).In_default in
    let m : 48 - top (store_of c.args.self.now) c.args.a ≡ t = c.decreases in
    let later = high_later (fixes_so _ c.requires.small) go c.in_ok-fixed_low.ensures in
    (omega (arith, go.at, go.small), (c.requires.small, high_stands (fixes_so _ c.requires.small) go c.in_ok-fixed_low.ensures))

pub node-requires : goal.node-requires
unfolding fixed
node-requires t c = node_fits (fixes_so _ c.requires.small) (goes t (goal.at.node-requires t c).In_default) c.in_ok-fixed_low.ensures c.in_ok-fixed_high.ensures

pub note-requires : goal.note-requires
unfolding fixed
note-requires t c =
    let ran = came (fixes_so _ c.requires.small) c.requires.stands (built t (goal.at.note-requires t c).In_ok-r) in
    known_fixed c.args.pair c.args.a c.in_ok-r.r c.requires.small c.requires.stands ran
