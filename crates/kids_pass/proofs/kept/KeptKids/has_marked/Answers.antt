use Rattle.std.proofs.Common.{◌+◌, refl, subst, arith}
use Rattle.std.proofs.lemmas.List.{take_all}
use Rattle.kids_pass.specs.Kids.{AreObjects, AreMarksRight}
use Rattle.kids_pass.proofs.Given.{objects_unless, unmarked_object}
use Rattle.kids_pass.proofs.kept.KeptKids.has_marked.Goals as goal

pub loop-at-preserved : goal.loop-at-preserved
loop-at-preserved c =
    let right = subst (AreMarksRight c.self.inside.replaced c.self.inside.stamps) c.self.view_is c.self.invariant in
    objects_unless c.args.self.now c.args.children.now c.loop-at.at (c.loop-at.at + 1) c.index-children-at.result c.loop-at.marked c.has-marked.result refl c.loop-at-test.true c.index-children-at.is c.loop-at.invariant
    (unmarked_object c.args.self.now c.args.children.now c.self.inside.replaced c.loop-at.at c.index-children-at.result c.has-marked.result c.loop-at-test.true c.index-children-at.is c.requires right.others c.has-marked.ensures)

pub returns : goal.returns
returns c = λ off. subst (AreObjects c.args.self.now) (take_all c.loop-at.at c.args.children.now (omega arith)) (c.loop-at.invariant off)
