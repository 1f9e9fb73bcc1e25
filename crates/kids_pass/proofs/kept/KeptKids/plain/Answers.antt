use Rattle.std.proofs.Common.{◌≡◌, ◌+◌, length, take, refl, subst, arith}
use Rattle.kids_pass.specs.Kids.{AreObjects, AreMarksRight}
use Rattle.kids_pass.proofs.Given.{objects_more, unmarked_object}
use Rattle.kids_pass.proofs.kept.KeptKids.plain.Goals as goal

pub loop-at-preserved : goal.loop-at-preserved
loop-at-preserved c =
    let right = subst (AreMarksRight c.self.inside.replaced c.self.inside.stamps) c.self.view_is c.self.invariant in
    objects_more c.args.self.now c.args.children.now c.loop-at.at (c.loop-at.at + 1) c.index-children-at.result refl c.loop-at-test.true c.index-children-at.is c.loop-at.invariant
    (unmarked_object c.args.self.now c.args.children.now c.self.inside.replaced c.loop-at.at c.index-children-at.result c.has.result c.loop-at-test.true c.index-children-at.is c.requires right.others c.has.ensures c.if-has.false)

pub returns-clause-objects : goal.returns-clause-objects
returns-clause-objects c =
    let whole : c.loop-at.at ≡ length c.args.children.now = omega arith in
    subst (λ k. AreObjects c.args.self.now (take k c.args.children.now)) whole c.loop-at.invariant
