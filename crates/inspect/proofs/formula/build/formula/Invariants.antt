use Rattle.std.proofs.Common.{◌≡◌, [], vec_items}
use Rattle.policy.specs.Reading.{commands_of}
use Rattle.policy.specs.View.{to_come}
use Rattle.inspect.specs.Kinds.{kinds}
use Rattle.inspect.specs.Trees.{stack}
use Rattle.inspect.proofs.Allowing.{kinds_under}
use Rattle.inspect.proofs.Stacking.{stack_under, all_declared}
use Rattle.inspect.proofs.formula.build.formula.Given as goal

abbrev pub invariant-loop-command : goal.invariant-loop-command
invariant-loop-command l = record {
  tree : stack_under (all_declared l.file) (to_come l.command-iterator) (stack (all_declared l.file) (vec_items l.items)) ≡
      stack_under (all_declared l.file) (commands_of l.file) [];
  kinds : kinds_under (to_come l.command-iterator) (kinds (vec_items l.items)) ≡ kinds_under (commands_of l.file) [];
}
