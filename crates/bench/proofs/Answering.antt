-- What an answer says once its outcome is known.
use Rattle.std.proofs.Common.{◌≡◌, ℕ, true, List, is_err, Ok, Err, Result, ◌∙◌}
use mathlib.Core.Bool.{false≢true}
use Rattle.diagram.specs.declared.table.TableFull.{TableFull}
use Rattle.diagram.specs.Store.{Store, Query, Outcome, full}
use Rattle.diagram.specs.Told.{Gives}
use Rattle.diagram.proofs.Builds.{Holds, holds_at}
use Rattle.bench.specs.Building.{Row, no_row, ToldRow}
use Rattle.diagram.specs.Told.{Told}
use Rattle.bench.proofs.Yielding.{Yields}

module _ (t : Store) where
  pub told_as : (o p : Outcome) (r : Result ℕ TableFull) → o ≡ p → Told p t r → Told o t r
  told_as o p (Ok x) e told = e ∙ told
  told_as o p (Err x) e told = e ∙ told

  pub told_full : (o : Outcome) (r : Result ℕ TableFull) → is_err r ≡ true → o ≡ full → Told o t r
  told_full o (Ok x) e told = absurd (false≢true e)
  told_full o (Err x) e told = told

  pub told_gives : (s : Store) (v : ℕ) (g : Query → ℕ) (o : Outcome) (r : Result ℕ TableFull) → Holds (Yields s v g) o → Told o t r → Gives t g r
  told_gives s v g o (Ok x) h told = let y = holds_at (Yields s v g) o t x h told in (y.below, y.means)
  told_gives s v g o (Err x) h told = tt

  pub told_no_row : (o : Row) (xs : List ℕ) (r : Result (Unit {0}) TableFull) → is_err r ≡ true → o ≡ no_row → ToldRow o t xs r
  told_no_row o xs (Ok x) e told = absurd (false≢true e)
  told_no_row o xs (Err x) e told = told
