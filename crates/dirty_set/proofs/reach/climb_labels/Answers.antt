use Rattle.std.proofs.Common.{arith}
use Rattle.dirty_set.proofs.Reachings.{labels_more, labels_only, labels_all}
use Rattle.dirty_set.proofs.reach.climb_labels.Goals as goal

pub returns-in_err-climb_own_labels-clause-only : goal.returns-in_err-climb_own_labels-clause-only
returns-in_err-climb_own_labels-clause-only g c = labels_only c.args.dom.now c.args.set.now c.loop-member.set c.args.steps.now c.loop-member.steps c.loop-member.member-index c.member-item.result c.args.members.now (omega arith) c.member-item.is c.loop-member.invariant c.climb_own_labels.new.set c.climb_own_labels.new.steps c.climb_own_labels.ensures.keeps c.climb_own_labels.ensures.only c.climb_own_labels.ensures.counted

pub loop-member-preserved : goal.loop-member-preserved
loop-member-preserved g c = labels_more c.args.dom.now c.args.set.now c.loop-member.set c.args.steps.now c.loop-member.steps c.loop-member.member-index c.member-item.result c.args.members.now (omega arith) c.member-item.is c.loop-member.invariant c.climb_own_labels.new.set c.climb_own_labels.new.steps c.climb_own_labels.ensures.keeps c.climb_own_labels.ensures.only c.climb_own_labels.ensures.counted c.in_ok-climb_own_labels.ensures.closed c.in_ok-climb_own_labels.ensures.all c.climb_own_labels.ensures.rises

pub returns-clause-all : goal.returns-clause-all
returns-clause-all g c = labels_all c.args.dom.now c.args.set.now c.loop-member.set c.args.steps.now c.loop-member.steps c.loop-member.member-index c.args.members.now (omega arith) c.loop-member.invariant
