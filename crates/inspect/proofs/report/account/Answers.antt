use Rattle.std.proofs.Common.{codes, ◌∙◌, append_assoc}
use Rattle.policy.specs.View.{context}
use Rattle.inspect.specs.Formulas.{policy_text}
use Rattle.inspect.proofs.Joins.{then, whole, named}
use Rattle.inspect.proofs.Reporting.{new_lines, new_known, accounted}
use Rattle.inspect.proofs.report.account.Goals as goal

pub returns-clause-exact : goal.returns-clause-exact
returns-clause-exact c =
    let file = c.args.file.now in
    let n = c.new-reader.ensures in
    let first = c.new-reader.result in
    let listed = c.in_ok-lines.ensures in
    let lines = named (new_lines first file n.progress n.bytes n.place) listed.text in
    let known = listed.known ∙ new_known first file n.progress n.bytes n.place in
    let formula = c.in_ok-add_formula.ensures.exact in
    let last = then c.in_ok-add.ensures (then c.in_ok-number.ensures c.in_ok-add-2.ensures) in
    let both = named (append_assoc (codes "formula: ") (policy_text (context c.lines.new.reader) formula.tree) _) (then formula.text last) in
    accounted file _ c.args.pairs formula.tree (context c.lines.new.reader) known formula.builds (whole c.new-text.ensures (then lines both))
