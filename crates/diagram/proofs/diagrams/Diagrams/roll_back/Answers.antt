use Rattle.std.proofs.Common.{◌≡◌, ◌-◌, length, drop, sym, ap, ◌∙◌, subst, arith}
use Rattle.diagram.specs.Held.{store_of}
use Rattle.diagram.specs.Store.{Sound}
use Rattle.diagram.proofs.Memos.{remembers_none}
use Rattle.diagram.proofs.Standing.{standing}
use Rattle.diagram.proofs.Stands.{grown_sound}
use Rattle.diagram.proofs.Words.{length-stored, stored_grown, stored_oldest}
use Rattle.diagram.proofs.diagrams.Diagrams.roll_back.Goals as goal

pub returns-then-self-mark-clause-is : goal.returns-then-self-mark-clause-is
returns-then-self-mark-clause-is c =
    let was = c.args.self.now in
    let none : length (store_of was) - c.args.mark ≡ 0 = omega (arith, length-stored was.words.now was.fill) in
    sym (ap (λ n. drop n (store_of was)) none)

pub invariant_of-self-2-clause-sound : goal.invariant_of-self-2-clause-sound
invariant_of-self-2-clause-sound c =
    let was = c.args.self.now in
    ∣ subst Sound (sym c.roll_back.ensures.stored) (grown_sound (stored_grown was.words.now c.args.mark was.fill (omega arith)) (standing was)) ∣₁

pub invariant_of-self-2-clause-knows : goal.invariant_of-self-2-clause-knows
invariant_of-self-2-clause-knows c = ∣ remembers_none _ _ _ (c.fill.ensures.after (λ y e. e)) ∣₁

pub returns-clause-is : goal.returns-clause-is
returns-clause-is c =
    let was = c.args.self.now in
    c.roll_back.ensures.stored ∙ stored_oldest was.words.now c.args.mark was.fill (omega arith)
    ∙ ap (λ n. drop (n - c.args.mark) (store_of was)) (sym (length-stored was.words.now was.fill))
