use Rattle.std.proofs.Common.{◌≡◌, ℕ, ◌-◌, Result, sym, ◌∙◌, subst, arith}
use Rattle.std.proofs.lemmas.Result.{err_from_is_err_and}
use Rattle.diagram.specs.Building.{Builds}
use Rattle.diagram.specs.Closing.{closed}
use Rattle.diagram.specs.Combining.{combined}
use Rattle.diagram.specs.Held.{store_of, room_of}
use Rattle.diagram.specs.Rules.{value_of}
use Rattle.diagram.specs.Store.{top, node_of, made, Later}
use Rattle.diagram.specs.declared.diagrams.Diagrams.{Diagrams}
use Rattle.diagram.specs.declared.table.TableFull.{TableFull}
use Rattle.diagram.proofs.Closes.{closes, closes_rule, close_leaf, close_node}
use Rattle.diagram.proofs.Combines.{combines_rule}
use Rattle.diagram.proofs.Descents.{Goes}
use Rattle.diagram.proofs.Halves.{low_is, high_is}
use Rattle.diagram.proofs.Memos.{known_closed, closed_known}
use Rattle.diagram.proofs.Standing.{standing}
use Rattle.diagram.proofs.Stands.{later_grown}
use Rattle.diagram.proofs.Steps.{builds_none, builds_same, builds_full, builds_then, ended, came, low_full, high_stands, high_later, high_full, low_fits, high_fits, then_after}
use Rattle.diagram.proofs.diagrams.Diagrams.+build_closed.Goals as goal
use Rattle.diagram.proofs.diagrams.Diagrams.+build_closed.Goals.{After-parts-low, In_ok-closed_high, In_ok-joined}

pub returns-then-v-ge-PAIRS : goal.returns-then-v-ge-PAIRS
returns-then-v-ge-PAIRS t c =
    ended (closes (value_of c.args.rule)) (close_leaf (value_of c.args.rule) (store_of c.args.self.now) c.args.a (standing c.args.self.now) c.requires (omega (arith, c.top-v.ensures)))

pub returns-in-Some : goal.returns-in-Some
returns-in-Some t c = builds_none (closed_known c.args.rule c.key.ensures.is c.in-Some.ensures.known (room_of c.args.self.now))

goes : (t : ℕ) (c : After-parts-low t) → Goes (closes (value_of c.args.rule)) (store_of c.args.self.now) c.args.a c.top-v.result c.parts-low.result.0 c.parts-low.result.1
goes t c =
    let s = store_of c.args.self.now in
    let v = c.top-v.ensures in
    close_node (value_of c.args.rule) s c.args.a (standing c.args.self.now) c.requires _ _ _ (sym v) c.if-v-ge-PAIRS.false
    (low_is s _ _ v ∙ sym c.parts-low.ensures.low) (high_is s _ _ v ∙ sym c.parts-low.ensures.high)

pub returns-in_err-closed_low : goal.returns-in_err-closed_low
returns-in_err-closed_low t c =
    let at = goal.at.returns-in_err-closed_low t c in
    rw (err_from_is_err_and c.from_residual.result c.from_residual.ensures.1).1 (low_full (closes_rule c.args.rule) (goes t at.After-parts-low) c.in_err-closed_low.ensures)

pub returns-in_err-closed_high : goal.returns-in_err-closed_high
returns-in_err-closed_high t c =
    let at = goal.at.returns-in_err-closed_high t c in
    rw (err_from_is_err_and c.from_residual-in_err-closed_high.result c.from_residual-in_err-closed_high.ensures.1).1 (high_full (closes_rule c.args.rule) (goes t at.After-parts-low) c.in_ok-closed_low.ensures c.in_err-closed_high.ensures)

pub returns-in_err-joined : goal.returns-in_err-joined
returns-in_err-joined t c =
    let at = goal.at.returns-in_err-joined t c in
    rw (err_from_is_err_and c.from_residual-in_err-joined.result c.from_residual-in_err-joined.ensures.1).1 (then_after (closes_rule c.args.rule) (goes t at.After-parts-low) c.in_ok-closed_low.ensures c.in_ok-closed_high.ensures (builds_full _ c.in_err-joined.ensures))

-- the parts and their join are done
then_node : (t : ℕ) (c : In_ok-joined t) {new : Diagrams} {r : Result ℕ TableFull} →
    Builds (made (room_of c.build_combined.new.self) (store_of c.build_combined.new.self) (node_of c.top-v.result c.in_ok-joined.joined c.in_ok-closed_high.closed_high)) c.build_combined.new.self new r →
    Builds (closed (room_of c.args.self.now) (store_of c.args.self.now) (value_of c.args.rule) c.args.a) c.args.self.now new r
then_node t c {new} {r} b =
    let at = goal.at.In_ok-joined t c in
    let joined = c.in_ok-joined.ensures in
    then_after (closes_rule c.args.rule) (goes t at.After-parts-low) c.in_ok-closed_low.ensures c.in_ok-closed_high.ensures
    (builds_then _ joined (subst (λ n. Builds (made n (store_of c.build_combined.new.self) (node_of c.top-v.result c.in_ok-joined.joined c.in_ok-closed_high.closed_high)) c.build_combined.new.self new r) joined.room b))

pub returns-in_err-r : goal.returns-in_err-r
returns-in_err-r t c =
    rw (err_from_is_err_and c.from_residual-in_err-r.result c.from_residual-in_err-r.ensures.1).1 (then_node t (goal.at.returns-in_err-r t c).In_ok-joined c.in_err-r.ensures.builds)

pub returns : goal.returns
returns t c = builds_same (then_node t (goal.at.returns t c).In_ok-joined c.in_ok-r.ensures.builds) c.note.ensures.store c.note.ensures.room

pub build_closed-requires : goal.build_closed-requires
build_closed-requires t c =
    let go = goes t (goal.at.build_closed-requires t c).After-parts-low in
    let m : 48 - top (store_of c.args.self.now) c.args.a ≡ t = c.decreases in
    (omega (arith, go.at, go.small, go.low_later), go.low_stands)

pub build_closed-requires-2 : goal.build_closed-requires-2
build_closed-requires-2 t c =
    let at = goal.at.build_closed-requires-2 t c in
    let go = goes t at.After-parts-low in
    let m : 48 - top (store_of c.args.self.now) c.args.a ≡ t = c.decreases in
    let later = high_later (closes_rule c.args.rule) go c.in_ok-closed_low.ensures in
    (omega (arith, go.at, go.small), high_stands (closes_rule c.args.rule) go c.in_ok-closed_low.ensures)

-- the closed parts stand, and test later pairs than v
lows : (t : ℕ) (c : In_ok-closed_high t) → Later (store_of c.build_closed-2.new.self) c.top-v.result c.in_ok-closed_low.closed_low
lows t c =
    let at = goal.at.In_ok-closed_high t c in
    low_fits (closes_rule c.args.rule) (goes t at.After-parts-low) c.in_ok-closed_low.ensures c.in_ok-closed_high.ensures

highs : (t : ℕ) (c : In_ok-closed_high t) → Later (store_of c.build_closed-2.new.self) c.top-v.result c.in_ok-closed_high.closed_high
highs t c =
    let at = goal.at.In_ok-closed_high t c in
    high_fits (closes_rule c.args.rule) (goes t at.After-parts-low) c.in_ok-closed_low.ensures c.in_ok-closed_high.ensures

pub build_combined-requires-clause-left : goal.build_combined-requires-clause-left
build_combined-requires-clause-left t c = (lows t (goal.at.build_combined-requires-clause-left t c).In_ok-closed_high).below

pub build_combined-requires-clause-right : goal.build_combined-requires-clause-right
build_combined-requires-clause-right t c = (highs t (goal.at.build_combined-requires-clause-right t c).In_ok-closed_high).below

pub node-requires : goal.node-requires
unfolding combined
node-requires t c =
    let at = goal.at.node-requires t c in
    let low = lows t at.In_ok-closed_high in
    let high = highs t at.In_ok-closed_high in
    let ran = came (combines_rule c.args.rule) (low.below, high.below) c.in_ok-joined.ensures in
    record {
      low = record { below = ran.below; later = omega (arith, ran.later, low.later, high.later) };
      high = later_grown c.in_ok-joined.ensures.grown _ _ high;
      small = c.if-v-ge-PAIRS.false;
    }

pub note-requires : goal.note-requires
note-requires t c =
    let at = goal.at.note-requires t c in
    known_closed c.args.rule c.key.ensures.is c.args.a c.in_ok-r.r c.requires (came (closes_rule c.args.rule) c.requires (then_node t at.In_ok-joined c.in_ok-r.ensures.builds))
