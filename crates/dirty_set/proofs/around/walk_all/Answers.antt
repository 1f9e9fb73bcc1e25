use Rattle.std.proofs.Common.{arith}
use Rattle.dirty_set.proofs.Nearness.{walked_more, walked_only, walked_all}
use Rattle.dirty_set.proofs.around.walk_all.Goals as goal

pub returns-in_err-walk_known-clause-only : goal.returns-in_err-walk_known-clause-only
returns-in_err-walk_known-clause-only g c =
    walked_only c.args.dom.now c.args.walked.now c.loop-root.walked c.args.roots.now c.args.steps.now c.loop-root.steps c.loop-root.root-index c.root-item.result (omega arith) c.root-item.is c.loop-root.invariant
    c.walk_known.new.walked c.walk_known.new.steps c.walk_known.ensures.keeps c.walk_known.ensures.only c.walk_known.ensures.counted

pub loop-root-preserved : goal.loop-root-preserved
loop-root-preserved g c =
    walked_more c.args.dom.now c.args.walked.now c.loop-root.walked c.args.roots.now c.args.steps.now c.loop-root.steps c.loop-root.root-index c.root-item.result (omega arith) c.root-item.is c.loop-root.invariant
    c.walk_known.new.walked c.walk_known.new.steps c.walk_known.ensures.keeps c.walk_known.ensures.only c.walk_known.ensures.counted c.in_ok-walk_known.ensures.closed c.in_ok-walk_known.ensures.within c.walk_known.ensures.rises

pub returns-clause-all : goal.returns-clause-all
returns-clause-all g c = walked_all c.args.dom.now c.args.walked.now c.loop-root.walked c.args.roots.now c.args.steps.now c.loop-root.steps c.loop-root.root-index (omega arith) c.loop-root.invariant

pub returns-in_err-walk_known-clause-keeps : goal.returns-in_err-walk_known-clause-keeps
returns-in_err-walk_known-clause-keeps g c = λ n on. c.walk_known.ensures.keeps n (c.loop-root.invariant.keeps n on)
