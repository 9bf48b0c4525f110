use Rattle.std.proofs.Common.{sym, ap, ◌∙◌}
use Rattle.diagram.specs.Memo.{alike}
use Rattle.diagram.proofs.Memos.{recalled_nowhere, recalled_here, recalled_other}
use Rattle.diagram.proofs.memo.recall.Goals as goal

pub returns-in_err-k : goal.returns-in_err-k
returns-in_err-k c = c.from_residual.ensures ∙ recalled_nowhere _ _ c.in_err-k.ensures

pub returns-then-eq : goal.returns-then-eq
returns-then-eq c = recalled_here _ _ _ c.in_ok-k.ensures (ap (λ o. alike o c.args.operation) (sym c.operation_at.ensures) ∙ sym c.if-eq.ensures)

pub returns : goal.returns
returns c = recalled_other _ _ _ c.in_ok-k.ensures (ap (λ o. alike o c.args.operation) (sym c.operation_at.ensures) ∙ sym c.if-eq.ensures)
