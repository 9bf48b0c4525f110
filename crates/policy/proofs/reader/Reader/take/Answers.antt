use Rattle.std.proofs.Common.{◌≡◌, true, sym, ap, ◌∙◌, subst}
use Rattle.std.proofs.lemmas.Bool.{and_parts}
use Rattle.std.proofs.lemmas.List.{map-append}
use Rattle.std.specs.List.{list_all}
use Rattle.policy.specs.Placed.{part_of}
use Rattle.policy.specs.Commands.{are_digits, allowed}
use Rattle.policy.specs.Rows.{tables}
use Rattle.policy.specs.View.{command, context}
use Rattle.policy.proofs.Digits.{all_push, digits_push}
use Rattle.policy.proofs.Placed.{name_stands, digits_stand}
use Rattle.policy.proofs.reader.Reader.take.Goals as goal

pub invariant_of-self-clause-named : goal.invariant_of-self-clause-named
invariant_of-self-clause-named c =
    let r = c.args.self.now in
    let stands = name_stands c.args.checked r c.requires c.in-Attribute.name.now c.in-Attribute.count (ap command c.in-Attribute.is) in
    subst (λ xs. list_all (λ a. part_of r.file.now 8 a.name.now) xs ≡ true) (sym c.push.ensures.items) (all_push _ r.attributes.items _ r.named stands)

pub invariant_of-self-in-Operator-clause-held : goal.invariant_of-self-in-Operator-clause-held
invariant_of-self-in-Operator-clause-held c =
    let r = c.args.self.now in
    let stands = digits_stand c.args.checked r c.requires c.in-Operator.digits.now (ap command c.in-Operator.is) in
    subst (λ xs. list_all (λ row. part_of r.file.now 9 row.entries) xs ≡ true) (sym c.push-in-Operator.ensures.items) (all_push _ r.operators.items _ r.held stands)

pub invariant_of-self-in-Operator-clause-digits : goal.invariant_of-self-in-Operator-clause-digits
invariant_of-self-in-Operator-clause-digits c =
    let r = c.args.self.now in
    let few = and_parts _ _ (subst (λ k. allowed (context r) k ≡ true) (ap command c.in-Operator.is) c.requires.settled.allows) in
    subst (λ ds. list_all are_digits ds ≡ true) (sym (ap tables c.push-in-Operator.ensures.items ∙ map-append _ r.operators.items _)) (digits_push (tables r.operators.items) c.in-Operator.digits.now r.digits few.0)
