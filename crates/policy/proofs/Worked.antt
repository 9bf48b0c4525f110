-- The worked examples, by computation.
use Rattle.std.proofs.Common.{refl}
use Rattle.policy.specs.Values.{change, apply, digits_of}
use Rattle.policy.specs.Queries.{some_pair, some_query, tally}
use Rattle.policy.specs.Policies.{present_from, value, decides, meets, meets_all}
use Rattle.policy.specs.Commands.{padded, is_name}
use Rattle.policy.specs.Reading.{settled, checked, begun, command_step, differs, opened, first_step, step, scan, scan_file, constraints_of, stack_of}
use Rattle.policy.specs.Examples.{Worked}

pub worked : Worked
unfolding change apply digits_of some_pair some_query tally present_from value decides meets meets_all padded is_name settled checked begun command_step differs opened first_step step scan scan_file constraints_of stack_of
worked = record { read = refl; most_pairs = refl; decisions = refl; validity = refl; extended = refl; power = (refl, refl, refl, refl); negation = refl }
