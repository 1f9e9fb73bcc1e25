use Rattle.std.proofs.Common.{arith}
use Rattle.dirty_set.proofs.Nearness.{climbed_more, climbed_only, climbed_all}
use Rattle.dirty_set.proofs.around.climb_all.Goals as goal

pub returns-in_err-climb_known-clause-only : goal.returns-in_err-climb_known-clause-only
returns-in_err-climb_known-clause-only g c =
    climbed_only c.args.dom.now c.args.set.now c.loop-id.set c.args.some.now c.args.steps.now c.loop-id.steps c.loop-id.id-index c.id-item.result (omega arith) c.id-item.is c.loop-id.invariant
    c.climb_known.new.set c.climb_known.new.steps c.climb_known.ensures.keeps c.climb_known.ensures.only c.climb_known.ensures.counted

pub loop-id-preserved : goal.loop-id-preserved
loop-id-preserved g c =
    climbed_more c.args.dom.now c.args.set.now c.loop-id.set c.args.some.now c.args.steps.now c.loop-id.steps c.loop-id.id-index c.id-item.result (omega arith) c.id-item.is c.loop-id.invariant
    c.climb_known.new.set c.climb_known.new.steps c.climb_known.ensures.keeps c.climb_known.ensures.only c.climb_known.ensures.counted c.in_ok-climb_known.ensures.closed c.in_ok-climb_known.ensures.added c.climb_known.ensures.rises

pub returns-clause-all : goal.returns-clause-all
returns-clause-all g c = climbed_all c.args.dom.now c.args.set.now c.loop-id.set c.args.some.now c.args.steps.now c.loop-id.steps c.loop-id.id-index (omega arith) c.loop-id.invariant

pub returns-in_err-climb_known-clause-keeps : goal.returns-in_err-climb_known-clause-keeps
returns-in_err-climb_known-clause-keeps g c = λ n on. c.climb_known.ensures.keeps n (c.loop-id.invariant.keeps n on)
