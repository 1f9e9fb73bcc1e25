use Rattle.std.proofs.Common.{arith}
use Rattle.kids_pass.proofs.Given.{front_given, front_objects}
use Rattle.kids_pass.proofs.kept.KeptKids.add_each.Goals as goal

pub loop-done-preserved : goal.loop-done-preserved
loop-done-preserved c =
    let within = c.in_ok-more.ensures.within in
    record {
      low = omega arith;
      added = front_given c.args.self.now c.args.children.now c.args.list.now.items c.loop-done.list.items c.add_front.new.list.items c.loop-done.done c.in_ok-more.more
          c.loop-done.invariant.low c.loop-done.invariant.added c.in_ok-more.ensures.added;
      objects = front_objects c.args.self.now c.args.children.now c.loop-done.done c.in_ok-more.more c.loop-done.are_objects c.in_ok-more.known
          c.loop-done.invariant.low c.loop-done.invariant.objects c.in_ok-more.ensures.objects;
    }
