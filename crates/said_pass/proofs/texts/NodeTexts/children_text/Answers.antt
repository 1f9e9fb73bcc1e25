use Rattle.std.proofs.Common.{arith}
use Rattle.said_pass.proofs.Gathering.{more_texts, full_texts}
use Rattle.said_pass.proofs.texts.NodeTexts.children_text.Goals as goal

pub returns-then-takes_no_more : goal.returns-then-takes_no_more
returns-then-takes_no_more c = full_texts c.args.self.now c.args.children.now c.loop-child.child-index c.loop-child.inside c.takes_no_more.new.self c.loop-child.invariant (c.takes_no_more.ensures.full c.if-takes_no_more.true)

pub loop-child-preserved : goal.loop-child-preserved
loop-child-preserved c =
    more_texts c.args.self.now c.args.children.now c.loop-child.child-index c.child-item.result c.loop-child.inside c.takes_no_more.new.self c.add.new.inside (omega arith) c.child-item.is c.loop-child.invariant c.takes_no_more.ensures.stays
    c.in_ok-add.ensures
