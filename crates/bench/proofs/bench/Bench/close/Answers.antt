use Rattle.std.proofs.Common.{ℕ, ◌<◌, get_or, sym, ◌∙◌, subst}
use Rattle.diagram.specs.Store.{mark}
use Rattle.bench.specs.Shelves.{reference}
use Rattle.bench.specs.State.{state_of}
use Rattle.bench.specs.declared.shelf.Shelf.TheVariants as shelf
use Rattle.bench.proofs.Shuts.{all_back, none_back, closes_full, closed_fits}
use Rattle.bench.proofs.bench.Bench.close.Goals as goal

pub invariant_of-self : goal.invariant_of-self
invariant_of-self c =
    let old = c.args.self.now in
    let built = c.in-Ok.ensures in
    let stood = c.in_ok-draft.ensures.stands in
    let left = none_back c.roll_back.ensures.is built.fill in
    let fits = closed_fits old.shelves _ _ _ c.args.shelf _ c.in-Ok.lists left (record { stand = old.stand; pairs = old.pairs }) built.grown stood.0 stood.1 stood.2 built.told.1 built.told.2 in
    record { stand = fits.stand; pairs = fits.pairs }

pub invariant_of-self-in-Err : goal.invariant_of-self-in-Err
invariant_of-self-in-Err c =
    let old = c.args.self.now in
    let built = c.in-Err.ensures in
    let left = all_back c.roll_back.ensures.is built.grown (built.fill ∙ c.len-fill.ensures) in
    record { stand = subst (λ t. (i k : ℕ) → reference (get_or old.shelves i shelf.Empty) k < mark t) (sym left) old.stand; pairs = old.pairs }

pub returns-in-Err : goal.returns-in-Err
returns-in-Err c =
    let built = c.in-Err.ensures in
    let left = all_back c.roll_back.ensures.is built.grown (built.fill ∙ c.len-fill.ensures) in
    let room = c.roll_back.ensures.room ∙ built.room in
    closes_full (state_of c.args.self.now) c.args.shelf _ (sym c.in_ok-draft.was ∙ c.draft.ensures.is) _ _ _ c.full.ensures room left built.told
