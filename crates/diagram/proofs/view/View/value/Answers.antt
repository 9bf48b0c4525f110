use Rattle.std.proofs.Common.{refl, arith}
use Rattle.std.proofs.lemmas.Bool.{lt-ltb, le-ltb}
use Rattle.diagram.proofs.Words.{length-stored}
use Rattle.diagram.proofs.view.View.value.Goals as goal

pub returns-then-a-self : goal.returns-then-a-self
returns-then-a-self c = (refl, le-ltb _ _ (omega (arith, length-stored c.args.self.now.words.now c.args.self.now.fill)))

pub leaf-requires : goal.leaf-requires
leaf-requires c = omega (arith, length-stored c.args.self.now.words.now c.args.self.now.fill)

pub returns : goal.returns
returns c = (lt-ltb _ _ (omega (arith, length-stored c.args.self.now.words.now c.args.self.now.fill)), c.leaf.ensures)
