use Rattle.std.proofs.Common.{arith}
use Rattle.said_pass.proofs.Gathering.{piece_stays, more_parts, full_parts}
use Rattle.said_pass.proofs.names.NodeNames.children_part.Goals as goal

pub returns-then-takes_no_more : goal.returns-then-takes_no_more
returns-then-takes_no_more c = full_parts c.args.self.now c.args.children.now c.loop-child.child-index c.loop-child.content c.takes_no_more.new.self c.loop-child.invariant (c.takes_no_more.ensures.full c.if-takes_no_more.true)

pub loop-child-preserved : goal.loop-child-preserved
loop-child-preserved c =
    more_parts c.args.self.now c.args.children.now c.loop-child.child-index c.child-item.result c.loop-child.content c.takes_no_more.new.self c.add.new.content (omega arith) c.child-item.is c.loop-child.invariant
    (piece_stays c.takes_no_more.result c.loop-child.content c.takes_no_more.new.self c.takes_no_more.ensures.full c.takes_no_more.ensures.open) c.in_ok-add.ensures
