-- The laws hold of every sound store.
use Rattle.std.proofs.Common.{◌≡◌, ℕ, ◌<◌}
use Rattle.diagram.specs.Fixing.{fixed}
use Rattle.diagram.specs.Combining.{combined}
use Rattle.diagram.specs.declared.rule.Rule.{Rule}
use Rattle.diagram.specs.declared.rule.Rule.TheVariants.{Two, Union}
use Rattle.diagram.specs.Closing.{closed}
use Rattle.diagram.specs.Kinds.{or_entries}
use Rattle.diagram.specs.Laws.{Laws, LeastUpperBound, DecisionStillPossible, TruthStillPossible}
use Rattle.diagram.specs.Rules.{value_of}
use Rattle.diagram.specs.Store.{Store, Query, mark, eval, done, Sound}
use Rattle.diagram.proofs.Canonical.{extension, dependence, canonicity, eval_code}
use Rattle.diagram.proofs.Closes.{closes, closes_rule}
use Rattle.diagram.proofs.Combines.{combines, combines_rule}
use Rattle.diagram.proofs.Descents.{Ran, ran_at}
use Rattle.diagram.proofs.Fixes.{fixes, fixes_so}
use Rattle.diagram.specs.Joining.{either_joins, union_joins}
use Rattle.diagram.proofs.Possible.{truth_possible, decision_possible}

closing : (rule : Rule) (room : ℕ) (s : Store) (a : ℕ) → Sound s → a < mark s → (t : Store) (r : ℕ) → closed room s (value_of rule) a ≡ done t r → Ran (closes (value_of rule)) 48 s a t r
closing rule room s a so h t r e = ran_at (closes (value_of rule)) (closes_rule rule) room s a so h t r e

least_upper_bound : LeastUpperBound
least_upper_bound rule codes joins room s a so h coded t r e = (closing rule room s a so h t r e).means codes joins coded

-- a query's pairs below 48 are all that counts
depends : (s : Store) → Sound s → (a : ℕ) → a < mark s → (p q : Query) → ((i : ℕ) → i < 48 → p i ≡ q i) → eval s a p ≡ eval s a q
depends s so a h p q same = dependence s so a h p q (λ i from below. same i below)

decision_still_possible : DecisionStillPossible
decision_still_possible room s a so h t r e q d small =
    decision_possible (eval s a) (depends s so a h) q (eval t r q) d small (eval_code s so a h) (least_upper_bound Union 8 union_joins room s a so h (eval_code s so a h) t r e q)

truth_still_possible : TruthStillPossible
truth_still_possible room s a so h coded t r e q =
    truth_possible (eval s a) (depends s so a h) q (eval t r q) coded (least_upper_bound (Two or_entries) 2 either_joins room s a so h coded t r e q)

pub laws : Laws
unfolding combined fixed
laws = record {
  extension = extension;
  dependence = dependence;
  canonicity = canonicity;
  stability = λ rule room s a b so ha hb t r e. (ran_at (combines (value_of rule)) (combines_rule rule) room s (a, b) so (ha, hb) t r e).stable;
  fixed_again = λ j room s a small so h t r e. (ran_at (fixes j) (fixes_so j small) room s a so h t r e).stable;
  closed_again = λ rule room s a so h t r e. (closing rule room s a so h t r e).stable;
  least_upper_bound = least_upper_bound;
  decision_still_possible = decision_still_possible;
  truth_still_possible = truth_still_possible;
}
