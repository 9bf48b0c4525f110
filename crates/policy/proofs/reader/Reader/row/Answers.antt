use Rattle.std.proofs.Common.{◌≡◌, slice_get, ap, ◌∙◌, arith}
use Rattle.std.proofs.lemmas.Option.{gets}
use Rattle.policy.proofs.Declared.{by_own}
use Rattle.policy.proofs.reader.Reader.row.Goals as goal

pub returns-in-Some-clause-is : goal.returns-in-Some-clause-is
returns-in-Some-clause-is c =
    let r = c.args.self.now in
    let e : c.copied.result ≡ slice_get r.operators.items c.in-Some.own = grind (arith, gets) in
    by_own c.copied.result r.operators.items c.args.code c.in-Some.ensures.0 (e ∙ ap (slice_get r.operators.items) c.in-Some.ensures.1) r.digits
