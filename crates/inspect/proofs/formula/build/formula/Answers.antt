use Rattle.std.proofs.Common.{◌≡◌, List, [], ◌∷◌, ◌++◌, vec_items, Err, sym, ap, ◌∙◌, subst, Some, None, Option}
use Rattle.std.proofs.lemmas.Result.{err_from_is_err_and}
use Rattle.policy.specs.Commands.{Command, Context}
use Rattle.policy.specs.Reading.{commands_of, reads}
use Rattle.policy.specs.declared.command.Command as k
use Rattle.policy.specs.declared.commands.Commands.{Commands}
use Rattle.policy.specs.View.{command, to_come, Yields}
use Rattle.inspect.specs.declared.failure.Failure.{Failure}
use Rattle.inspect.specs.declared.failure.Failure.TheVariants.{Items}
use Rattle.inspect.specs.declared.formula.Item as i
use Rattle.inspect.specs.declared.formula.Item.TheVariants as item_of_kind
use Rattle.inspect.specs.Trees.{stack}
use Rattle.inspect.proofs.Allowing.{refused_items, needs, not_refused}
use Rattle.inspect.proofs.Stacking.{stack_under, all_declared, finished}
use Rattle.inspect.proofs.formula.build.formula.Goals as goal

-- what a call of `next` gave
gave : (old new : Commands) (r r' : Option k.Command) → r ≡ r' → Yields old r new → Yields old r' new
gave old new r r' e y = subst (λ (o : Option k.Command). Yields old o new) e y

pub returns-in_err-act-clause-memory : goal.returns-in_err-act-clause-memory
returns-in_err-act-clause-memory c =
    let r = c.from_residual.result in
    let p = err_from_is_err_and r c.from_residual.ensures.1 in
    let e : Failure = c.in_err-act.field-0.0 in
    needs r e (reads c.args.file.now) (p.1 ∙ ap Err p.2) (λ (is : e ≡ Items).
    not_refused c.args.file.now (to_come c.loop-command.command-iterator) (vec_items c.loop-command.items) c.loop-command.invariant.kinds
    (command c.in-Some.command) (to_come c.next.new.self) (gave c.loop-command.command-iterator c.next.new.self c.next.result (Some c.in-Some.command) c.in-Some.is c.next.ensures.steps).0 (refused_items e _ _ _ is c.in_err-act.ensures.kinds))

pub returns-in-Policy-clause-tree : goal.returns-in-Policy-clause-tree
returns-in-Policy-clause-tree c =
    let x : Context = all_declared c.args.file.now in
    let items : List i.Item = vec_items c.loop-command.items in
    let rest : List i.Item = vec_items c.popped.new.items in
    let left : items ≡ rest ++ (item_of_kind.Policy c.in-Policy.policy ∷ []) =
    c.in_ok-policy.ensures.last ∙ ap (λ (u : i.Item). rest ++ (u ∷ [])) c.in-Policy.is in
    let all : stack x items ≡ stack_under x (commands_of c.args.file.now) [] =
    sym (ap (λ (cs : List Command). stack_under x cs (stack x items)) (gave c.loop-command.command-iterator c.next.new.self c.next.result None c.in-None.is c.next.ensures.steps).0) ∙ c.loop-command.invariant.tree in
    finished c.args.file.now c.in-Policy.policy items rest left all
