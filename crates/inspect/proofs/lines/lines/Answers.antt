use Rattle.inspect.proofs.Lining.{no_more}
use Rattle.inspect.proofs.lines.lines.Goals as goal

pub returns-in_default : goal.returns-in_default
returns-in_default c =
    let e = c.in_default.ensures in
    no_more c.loop-taken.invariant c.in_default.field-0 c.next.new.self e.is e.kept
