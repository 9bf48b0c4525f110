use Rattle.std.proofs.Common.{◌≡◌, ◌<◌, ◌≤◌, ◌^◌, length, map, reverse, refl, ap, ◌∙◌, arith}
use Rattle.std.proofs.lemmas.Iterator.Adapters.{YieldsList-from_rev_slice}
use Rattle.std.proofs.lemmas.Iterator.Consumers.{YieldsList-turn, YieldsList-end}
use Rattle.std.proofs.lemmas.List.{length-map, length-reverse, reverse-reverse}
use Rattle.diagram.specs.Rules.{number}
use Rattle.diagram.proofs.Rulings.{number_within, number_more}
use Rattle.diagram.proofs.rule.number.Goals as goal
use Rattle.diagram.proofs.rule.number.Goals.{In-Some}

pub loop-e-init : goal.loop-e-init
unfolding number
loop-e-init c = refl

-- fewer than nine entries have been read
few : (c : In-Some) → c.loop-e.n < 8 ^ 8
few c =
    let t = YieldsList-turn (YieldsList-from_rev_slice c.args.entries.now cc) c.loop-e.yielded _ c.loop-e.yielded_by _ _ c.in-Some.e c.in-Some.is c.next.ensures.steps in
    let read = reverse (map (λ x. x.now) c.loop-e.yielded) in
    let short : length read ≤ 8 = omega (arith, t.0, length-reverse c.args.entries.now, length-reverse (map (λ x. x.now) c.loop-e.yielded), length-map c.loop-e.yielded (λ x. x.now)) in
    omega (arith, c.loop-e.invariant, number_within read 8 short)

pub overflow_mul-n : goal.overflow_mul-n
overflow_mul-n c = omega (arith, few (goal.at.overflow_mul-n c).In-Some)

pub overflow_add-n : goal.overflow_add-n
overflow_add-n c = omega (arith, few (goal.at.overflow_add-n c).In-Some)

pub loop-e-preserved : goal.loop-e-preserved
loop-e-preserved c = omega (arith, c.loop-e.invariant, c.from.ensures, number_more c.loop-e.yielded c.in-Some.e)

pub returns-clause-below : goal.returns-clause-below
returns-clause-below c =
    let end = YieldsList-end (YieldsList-from_rev_slice c.args.entries.now cc) c.loop-e.yielded _ c.loop-e.yielded_by _ _ c.in-None.is c.next.ensures.steps in
    let is : c.loop-e.n ≡ number c.args.entries.now = c.loop-e.invariant ∙ ap (λ xs. number (reverse xs)) end.0 ∙ ap number (reverse-reverse c.args.entries.now) in
    omega (arith, is, number_within c.args.entries.now 9 c.requires)
