use Rattle.std.proofs.Common.{◌≡◌, ℕ, ◌-◌, Ok, sym, arith}
use Rattle.std.proofs.lemmas.Result.{err_from_is_err_and}
use Rattle.diagram.specs.Building.{Builds}
use Rattle.diagram.specs.Combining.{first, combined}
use Rattle.diagram.specs.Held.{store_of, room_of}
use Rattle.diagram.specs.Rules.{value_of}
use Rattle.diagram.proofs.Combines.{combines, combines_rule, combine_leaves, combine_node}
use Rattle.diagram.proofs.Descents.{Goes}
use Rattle.diagram.proofs.Memos.{known_combined, combined_known}
use Rattle.diagram.proofs.Rulings.{value_leaves}
use Rattle.diagram.proofs.Standing.{standing}
use Rattle.diagram.proofs.Steps.{builds_none, builds_same, ended, came, low_full, high_stands, high_later, high_full, node_fits, then_after}
use Rattle.diagram.proofs.diagrams.Diagrams.+build_combined.Goals as goal
use Rattle.diagram.proofs.diagrams.Diagrams.+build_combined.Goals.{After-min-v, After-parts-bl, In_ok-r}

-- the pair v is the first that a and b test
first_is : (t : ℕ) (c : After-min-v t) → first (store_of c.args.self.now) c.args.a c.args.b ≡ c.min-v.result
first_is t c = omega (arith, c.min-v.ensures, c.top.ensures, c.top-2.ensures)

pub returns-then-v-ge-PAIRS : goal.returns-then-v-ge-PAIRS
unfolding combined
returns-then-v-ge-PAIRS t c =
    let after = (goal.at.returns-then-v-ge-PAIRS t c).After-min-v in
    let end = combine_leaves (value_of c.args.rule) (value_leaves c.args.rule) (store_of c.args.self.now) c.args.a c.args.b (standing c.args.self.now) c.requires.left c.requires.right (omega (arith, first_is t after, c.if-v-ge-PAIRS.true)) in
    rw c.value.ensures (ended (combines (value_of c.args.rule)) end)

pub returns-in-Some : goal.returns-in-Some
returns-in-Some t c = builds_none (combined_known c.args.rule c.key.ensures.is c.key.ensures.below c.in-Some.ensures.known (room_of c.args.self.now))

goes : (t : ℕ) (c : After-parts-bl t) → Goes (combines (value_of c.args.rule)) (store_of c.args.self.now) (c.args.a, c.args.b) c.min-v.result (c.parts-al.result.0, c.parts-bl.result.0) (c.parts-al.result.1, c.parts-bl.result.1)
goes t c =
    combine_node (value_of c.args.rule) (value_leaves c.args.rule) _ c.args.a c.args.b (standing c.args.self.now) c.requires.left c.requires.right _ _ _ _ _
    (first_is t (goal.at.After-parts-bl t c).After-min-v) c.if-v-ge-PAIRS.false (sym c.parts-al.ensures.low) (sym c.parts-bl.ensures.low) (sym c.parts-al.ensures.high) (sym c.parts-bl.ensures.high)

pub returns-in_err-low : goal.returns-in_err-low
unfolding combined
returns-in_err-low t c =
    let at = goal.at.returns-in_err-low t c in
    rw (err_from_is_err_and c.from_residual.result c.from_residual.ensures.1).1 (low_full (combines_rule c.args.rule) (goes t at.After-parts-bl) c.in_err-low.ensures)

pub returns-in_err-high : goal.returns-in_err-high
unfolding combined
returns-in_err-high t c =
    let at = goal.at.returns-in_err-high t c in
    rw (err_from_is_err_and c.from_residual-in_err-high.result c.from_residual-in_err-high.ensures.1).1 (high_full (combines_rule c.args.rule) (goes t at.After-parts-bl) c.in_ok-low.ensures c.in_err-high.ensures)

pub returns-in_err-r : goal.returns-in_err-r
unfolding combined
returns-in_err-r t c =
    let at = goal.at.returns-in_err-r t c in
    rw (err_from_is_err_and c.from_residual-in_err-r.result c.from_residual-in_err-r.ensures.1).1 (then_after (combines_rule c.args.rule) (goes t at.After-parts-bl) c.in_ok-low.ensures c.in_ok-high.ensures c.in_err-r.ensures.builds)

-- the three calls are done
built : (t : ℕ) (c : In_ok-r t) → Builds (combined (room_of c.args.self.now) (store_of c.args.self.now) (value_of c.args.rule) c.args.a c.args.b) c.args.self.now c.node.new.self (Ok c.in_ok-r.r)
unfolding combined
built t c =
    let at = goal.at.In_ok-r t c in
    then_after (combines_rule c.args.rule) (goes t at.After-parts-bl) c.in_ok-low.ensures c.in_ok-high.ensures c.in_ok-r.ensures.builds

pub returns : goal.returns
returns t c = builds_same (built t (goal.at.returns t c).In_ok-r) c.note.ensures.store c.note.ensures.room

pub build_combined-requires : goal.build_combined-requires
build_combined-requires t c =
    let go = goes t (goal.at.build_combined-requires t c).After-parts-bl in
    let m : 48 - first (store_of c.args.self.now) c.args.a c.args.b ≡ t = c.decreases in
    (omega (arith, go.at, go.small, go.low_later), go.low_stands)

pub build_combined-requires-2 : goal.build_combined-requires-2
unfolding combined
build_combined-requires-2 t c =
    let at = goal.at.build_combined-requires-2 t c in
    let go = goes t at.After-parts-bl in
    let m : 48 - first (store_of c.args.self.now) c.args.a c.args.b ≡ t = c.decreases in
    let later = high_later (combines_rule c.args.rule) go c.in_ok-low.ensures in
    (omega (arith, go.at, go.small), high_stands (combines_rule c.args.rule) go c.in_ok-low.ensures)

pub node-requires : goal.node-requires
unfolding combined
node-requires t c =
    let at = goal.at.node-requires t c in
    node_fits (combines_rule c.args.rule) (goes t at.After-parts-bl) c.in_ok-low.ensures c.in_ok-high.ensures

pub note-requires : goal.note-requires
unfolding combined
note-requires t c =
    let at = goal.at.note-requires t c in
    let ran = came (combines_rule c.args.rule) (c.requires.left, c.requires.right) (built t at.In_ok-r) in
    known_combined c.args.rule c.key.ensures.is c.args.a c.args.b c.in_ok-r.r c.key.ensures.below c.requires.left c.requires.right ran
