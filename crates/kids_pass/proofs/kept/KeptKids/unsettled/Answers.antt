use Rattle.std.proofs.Common.{subst}
use Rattle.kids_pass.specs.Kids.{listed, AreObjects}
use Rattle.kids_pass.proofs.Given.{settled}
use Rattle.kids_pass.proofs.kept.KeptKids.unsettled.Goals as goal

pub returns-clause-others : goal.returns-clause-others
returns-clause-others c =
    settled c.args.self.now c.differing.result.0 c.differing.result.1 c.args.children.now c.kids.result.now (listed c.args.self.now c.args.id) c.differing.ensures c.kids.ensures.listed
    (subst (λ l. AreObjects l (listed l c.args.id)) c.self.view_is (c.self.invariant.objects c.args.id (c.has.ensures c.if-not-has.false)))
