use Rattle.std.proofs.Common.{vec_items, Err, refl, ap, ◌∙◌}
use Rattle.std.proofs.lemmas.Result.{err_from_is_err_and}
use Rattle.policy.specs.Commands.{one_item, two_alike, guarding}
use Rattle.policy.specs.Reading.{changes, combines, guards}
use Rattle.policy.specs.Codes.{change_code, operator_code}
use Rattle.policy.specs.Values.{digits_of}
use Rattle.policy.specs.View as view
use Rattle.inspect.specs.Kinds.{kinds}
use Rattle.inspect.specs.Trees.{stack}
use Rattle.inspect.proofs.Allowing.{allows_push, kinds_one, kinds_two, turned_away}
use Rattle.inspect.proofs.Stacking.{by_push, popped_one, popped_two}
use Rattle.inspect.proofs.formula.build.act.Goals as goal
use Rattle.inspect.proofs.formula.build.act.Goals.{in-Pair, in-Constant, in-Change+in_ok-item-in-Change+in_ok-item-in-Change-2, in-Combine+in_ok-second-in-Combine+in_ok-first-in-Combine+in_ok-item-in-Combine, in-Guard+in_ok-policy-in-Guard+in_ok-target-in-Guard+in_ok-item-in-Guard}

-- case by case, so that an edit of one case fails at what it breaks
pub returns-clause-tree : goal.returns-clause-tree
returns-clause-tree c =
    let pushed = c.in_ok-push.ensures.items in
    elim c.match-taken.branch [
      | in-Pair w ↦ λ x. by_push x _ _ _ _ _ _ _ _ pushed (ap vec_items w.items-is) w.item-is (ap view.command w.in-Pair.is) refl
      | in-Constant w ↦ λ x. by_push x _ _ _ _ _ _ _ _ pushed (ap vec_items w.items-is) w.item-is (ap view.command w.in-Constant.is) refl
      | in-Change+in_ok-item-in-Change+in_ok-item-in-Change-2 w ↦ λ x.
          by_push x _ _ _ _ _ _ _ _ pushed (ap vec_items w.items-is) w.item-is (ap view.command w.in-Change.is)
          (w.in_ok-item-in-Change-2.ensures.tree x (stack x (vec_items w.popped.new.items)) ∙
          ap (changes (change_code w.in-Change.change)) (popped_one x _ _ w.in_ok-item-in-Change.item w.in_ok-item-in-Change.ensures.last))
      | in-Combine+in_ok-second-in-Combine+in_ok-first-in-Combine+in_ok-item-in-Combine w ↦ λ x.
          by_push x _ _ _ _ _ _ _ _ pushed (ap vec_items w.items-is) w.item-is (ap view.command w.in-Combine.is)
          (w.in_ok-item-in-Combine.ensures.tree x (stack x (vec_items w.popped-in-Combine-2.new.items)) ∙
          ap (combines (digits_of x.operators (operator_code w.in-Combine.operator)))
          (popped_two x _ _ _ w.in_ok-second-in-Combine.second w.in_ok-first-in-Combine.first w.in_ok-second-in-Combine.ensures.last w.in_ok-first-in-Combine.ensures.last))
      | in-Guard+in_ok-policy-in-Guard+in_ok-target-in-Guard+in_ok-item-in-Guard w ↦ λ x.
          by_push x _ _ _ _ _ _ _ _ pushed (ap vec_items w.items-is) w.item-is (ap view.command w.in-Guard.is)
          (w.in_ok-item-in-Guard.ensures.tree x (stack x (vec_items w.popped-in-Guard-2.new.items)) ∙
          ap guards (popped_two x _ _ _ w.in_ok-policy-in-Guard.policy w.in_ok-target-in-Guard.target w.in_ok-policy-in-Guard.ensures.last w.in_ok-target-in-Guard.ensures.last))
    ]

pub returns-clause-kinds : goal.returns-clause-kinds
returns-clause-kinds c =
    let pushed = c.in_ok-push.ensures.items in
    let old = vec_items c.args.items.now in
    elim c.match-taken.branch [
      | in-Pair w ↦
          allows_push _ _ _ old _ _ _ _ pushed (ap vec_items w.items-is) w.item-is (ap view.command w.in-Pair.is) refl
      | in-Constant w ↦
          allows_push _ _ _ old _ _ _ _ pushed (ap vec_items w.items-is) w.item-is (ap view.command w.in-Constant.is) refl
      | in-Change+in_ok-item-in-Change+in_ok-item-in-Change-2 w ↦
          allows_push _ _ _ old _ _ _ _ pushed (ap vec_items w.items-is) w.item-is (ap view.command w.in-Change.is)
          (ap one_item (kinds_one _ _ w.in_ok-item-in-Change.item w.in_ok-item-in-Change.ensures.last) ∙
          w.in_ok-item-in-Change-2.ensures.kind (kinds (vec_items w.popped.new.items)))
      | in-Combine+in_ok-second-in-Combine+in_ok-first-in-Combine+in_ok-item-in-Combine w ↦
          allows_push _ _ _ old _ _ _ _ pushed (ap vec_items w.items-is) w.item-is (ap view.command w.in-Combine.is)
          (ap two_alike (kinds_two _ _ _ w.in_ok-second-in-Combine.second w.in_ok-first-in-Combine.first w.in_ok-second-in-Combine.ensures.last w.in_ok-first-in-Combine.ensures.last) ∙
          w.in_ok-item-in-Combine.ensures.kind (kinds (vec_items w.popped-in-Combine-2.new.items)))
      | in-Guard+in_ok-policy-in-Guard+in_ok-target-in-Guard+in_ok-item-in-Guard w ↦
          allows_push _ _ _ old _ _ _ _ pushed (ap vec_items w.items-is) w.item-is (ap view.command w.in-Guard.is)
          (ap guarding (kinds_two _ _ _ w.in_ok-policy-in-Guard.policy w.in_ok-target-in-Guard.target w.in_ok-policy-in-Guard.ensures.last w.in_ok-target-in-Guard.ensures.last) ∙
          w.in_ok-item-in-Guard.ensures.kind (kinds (vec_items w.popped-in-Guard-2.new.items)))
    ]

pub returns-in_err-item-in-Change-2-clause-kinds : goal.returns-in_err-item-in-Change-2-clause-kinds
returns-in_err-item-in-Change-2-clause-kinds c =
    let r = c.from_residual-in_err-item-in-Change-2.result in
    let p = err_from_is_err_and r c.from_residual-in_err-item-in-Change-2.ensures.1 in
    turned_away r c.in_err-item-in-Change-2.field-0.0 _ _ (vec_items c.args.items.now) _ _ _ (p.1 ∙ ap Err p.2) c.in_err-item-in-Change-2.ensures.kind (ap view.command c.in-Change.is)
    (ap one_item (kinds_one _ _ c.in_ok-item-in-Change.item c.in_ok-item-in-Change.ensures.last))
