use Rattle.std.proofs.Common.{sym, ◌∙◌, rules, tests}
use Rattle.std.specs.Str.{bytes_eq}
use Rattle.std.proofs.lemmas.Iterator.{YieldsList-from_slice}
use Rattle.std.proofs.lemmas.Iterator.Search.{any_from_yields_List}
use Rattle.std.proofs.Math.Bool.{not-not}
use Rattle.policy.specs.declared.command.Attribute.{Attribute}
use Rattle.policy.specs.Policies as p
use Rattle.policy.specs.View.{attribute}
use Rattle.policy.proofs.Declared.{any_mapped}
use Rattle.policy.proofs.reader.Reader.declares.Goals as goal

pub returns : goal.returns
returns c =
    let r = c.args.self.now in
    let e = any_from_yields_List (λ (a : Attribute). bytes_eq a.name.now c.args.name.now) _ _ c.any.result c.any.ensures.ran (YieldsList-from_slice r.attributes.items cc) (λ x b q k. search (rules, tests)) in
    e ∙ sym (any_mapped attribute (λ (a : p.Attribute). bytes_eq a.name c.args.name.now) r.attributes.items) ∙ sym (not-not _)
