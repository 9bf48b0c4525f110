use Rattle.std.proofs.Common.{◌+◌, ltb, option_map, sym, ap, ◌∙◌, rules, tests}
use Rattle.std.proofs.lemmas.Iterator.{YieldsList-from_slice}
use Rattle.std.proofs.lemmas.Iterator.Search.{find_from_yields_List}
use Rattle.policy.specs.declared.command.Attribute.{Attribute}
use Rattle.policy.specs.Policies as p
use Rattle.policy.specs.View.{attribute}
use Rattle.policy.proofs.Declared.{find_mapped}
use Rattle.policy.proofs.reader.Reader.attribute_with.Goals as goal

pub returns-clause-is : goal.returns-clause-is
returns-clause-is c =
    let r = c.args.self.now in
    let e = find_from_yields_List (λ (a : Attribute). ltb c.args.pair (a.start + a.count)) _ _ c.find.result c.find.ensures.ran (YieldsList-from_slice r.attributes.items cc) (λ x b q k. search (rules, tests)) in
    ap (λ o. option_map attribute o) (c.copied.ensures ∙ e) ∙ sym (find_mapped attribute (λ (a : p.Attribute). ltb c.args.pair (a.start + a.count)) r.attributes.items)
